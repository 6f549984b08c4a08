-- A walk over a list of entries.
use Rattle.std.specs.Prelude.{◌≡◌, ◌≤◌, ℕ, ◌+◌, Bool, true, ◌&&◌, if◌then◌else◌, List, [], ◌∷◌, ◌++◌, find, Option, Some, None}
use Rattle.std.specs.Ordering.{is_lt}
use Rattle.psb_bytes.specs.Objects.{object_cmp}
use Rattle.psb_bytes.specs.declared.ids.Object.{Object}
use Rattle.psb_bytes.specs.declared.ids.Object.TheVariants.{Chunk, Slot}
use Rattle.peer_lists.specs.Chunks.{is_chunk}
use Rattle.peer_lists.specs.Entries.{from_object}
use Rattle.slot_runs.specs.declared.run.Run.{Run}
use Rattle.peer_lists.specs.Slots.{slots_from}

-- the first slot from a number on, and its own number; those behind it come from the next number on
abbrev pub IsSlotFrom : {E : Type 0} → (E → Object) → List E → ℕ → Option E → Type 0
IsSlotFrom key l n None = from_object key (Slot n) l ≡ []
IsSlotFrom key l n (Some e) = (m : ℕ) × (key e ≡ Slot m) × (n ≤ m) × (from_object key (Slot n) l ≡ e ∷ from_object key (Slot (m + 1)) l)

-- the slots of a run come first from a number on; those behind each of them come from the next number on
abbrev pub IsRunFrom : {E R : Type 0} → (E → Object) → (Object → R → E) → List E → ℕ → Option (Run R) → Type 0
IsRunFrom key joined l n None = from_object key (Slot n) l ≡ []
IsRunFrom key joined l n (Some r) = (n ≤ r.first) × (r.first ≤ r.last) × ((u : ℕ) → r.first + u ≤ r.last + 1 → from_object key (Slot n) l ≡ slots_from joined r.rest r.first u ++ from_object key (Slot (r.first + u)) l)

-- whether an object stands behind the chunk of this name, if there is one
abbrev pub is_past : Option (List ℕ) → Object → Bool
is_past None o = true
is_past (Some n) o = is_lt (object_cmp (Chunk n) o)

-- the first chunk, or the first behind the one of this name
abbrev pub chunk_after : {E : Type 0} → (E → Object) → Option (List ℕ) → List E → Option E
chunk_after key place l = find (λ e. is_chunk (key e) && is_past place (key e)) l

-- whether an object stands behind another, if there is one; and the first entry that does
abbrev pub is_behind : Option Object → Object → Bool
is_behind None o = true
is_behind (Some p) o = is_lt (object_cmp p o)

abbrev pub entry_after : {E : Type 0} → (E → Object) → Option Object → List E → Option E
entry_after key place l = find (λ e. is_behind place (key e)) l

-- the name of a chunk
abbrev pub name_of : Option Object → Option (List ℕ)
name_of None = None
name_of (Some (Chunk n)) = Some n
name_of (Some (Slot n)) = None

-- the entry, where it stands behind the place; and the one of two that comes first
abbrev pub if_past : {E : Type 0} → (E → Object) → Option (List ℕ) → E → Option E
if_past key place e = if is_past place (key e) then Some e else None

abbrev pub nearer : {E : Type 0} → (E → Object) → Option E → Option E → Option E
nearer key None b = b
nearer key (Some x) None = Some x
nearer key (Some x) (Some y) = if is_lt (object_cmp (key y) (key x)) then Some y else Some x
