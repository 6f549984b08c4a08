-- The record of a station in memory of its calls that write.
use Rattle.std.specs.Prelude.{◌≡◌, ℕ, ◌+◌, ◌<◌, List, [], ◌∷◌, ◌++◌, Vec, vec_len, vec_capacity}
use Rattle.std.specs.Global.{Global}
use Rattle.psb_station.specs.declared.memory.calls.StationCall.{StationCall}
use Rattle.psb_station.specs.declared.memory.calls.StationCall.TheVariants as call

-- the numbers of the calls that write, after a call of this kind and number
abbrev pub with_change : StationCall → ℕ → List ℕ → List ℕ
with_change call.Len number changes = changes
with_change call.Read number changes = changes
with_change call.Write number changes = changes ++ number ∷ []
with_change call.Cut number changes = changes ++ number ∷ []
with_change call.Sync number changes = changes ++ number ∷ []
with_change call.Join number changes = changes
with_change call.Recv number changes = changes
with_change call.Send number changes = changes
with_change call.Say number changes = changes

-- a list has no room for so many more
abbrev pub IsFull : {A : Type 0} → ℕ → Vec A Global → Type 0
IsFull more list = vec_capacity list < vec_len list + more

-- the number of a call of this kind could not be kept
abbrev pub Refuses : StationCall → Vec ℕ Global → Vec ℕ Global → Type 0
Refuses call.Len old new = ⊥
Refuses call.Read old new = ⊥
Refuses call.Write old new = IsFull 1 old × (new.items ≡ old.items)
Refuses call.Cut old new = IsFull 1 old × (new.items ≡ old.items)
Refuses call.Sync old new = IsFull 1 old × (new.items ≡ old.items)
Refuses call.Join old new = ⊥
Refuses call.Recv old new = ⊥
Refuses call.Send old new = ⊥
Refuses call.Say old new = ⊥
