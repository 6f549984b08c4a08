-- What a change does to the places of slots.
use Rattle.std.specs.Prelude.{◌≡◌, ℕ, Bool, false, not, ◌&&◌, ◌==◌, if◌then◌else◌, List, [], ◌∷◌, Option, Some, None}
use Rattle.psb_bytes.specs.declared.ids.Object.{Object}
use Rattle.psb_bytes.specs.declared.ids.Object.TheVariants.{Slot}
use Rattle.psb_model.specs.Words.{listed, slots}
use Rattle.psb_model.specs.State.{State, row}
use Rattle.psb_model.specs.Conditions.{peer_of}
use Rattle.psb_model.specs.Effects.{move_of}
use Rattle.psb_model.specs.declared.change.Change.{Change}
use Rattle.psb_model.specs.declared.change.Change.TheVariants.{TookSwap, LetGoBack, Replaced, Settled, Discarded}
use Rattle.peer_account.specs.States.{given}
use Rattle.slot_places.specs.declared.moved.SlotsMoved.{SlotsMoved}
use Rattle.slot_places.specs.declared.moved.SlotsMoved.TheVariants.{Nothing, Moves}

-- these numbers are those of the slots among the objects
abbrev pub AreSlots : List Object → List ℕ → Type 0
AreSlots objects numbers = (n : ℕ) → listed (slots numbers) (Slot n) ≡ listed objects (Slot n)

-- what is worked out of a change before it is made: the slots that it gives their bytes, and those that may leave
abbrev pub IsMoved : State → Change → SlotsMoved → Type 0
IsMoved s (TookSwap x) m = m ≡ Moves x.peer [] x.slots
IsMoved s (LetGoBack x) m = m ≡ Moves x.peer x.slots []
IsMoved s (Replaced x) m = m ≡ (if x.place == 0 then Moves x.peer (x.slot ∷ []) [] else Nothing)
IsMoved s (Settled x) m = m ≡ Moves x.peer x.slots (given (row s x.peer).pending)
IsMoved s (Discarded x) m = (leaving : List ℕ) × (m ≡ Moves x.peer [] leaving) × AreSlots x.objects leaving
IsMoved s _ m = m ≡ Nothing

-- the slot n of p is among those
abbrev pub is_given : SlotsMoved → ℕ → ℕ → Bool
is_given Nothing p n = false
is_given (Moves q numbers leaving) p n = q == p && listed (slots numbers) (Slot n)

abbrev pub may_leave : SlotsMoved → ℕ → ℕ → Bool
may_leave Nothing p n = false
may_leave (Moves q numbers leaving) p n = q == p && listed (slots leaving) (Slot n)

-- the slot n of p is among the objects that a change takes from in(p)
abbrev pub leaves_slot : State → Change → ℕ → ℕ → Bool
leaves_slot s c p n = elim (peer_of c) [ None ↦ false | Some q ↦ q == p && listed (move_of s c).in_gone (Slot n) ]

-- The record of a slot after a change with this number: its own if it gives the slot its bytes, none if the slot
-- left and did not come back, else the one that it had.
abbrev pub slot_after : Bool → Bool → Bool → ℕ → Option ℕ → Option ℕ
slot_after gives leaves stays number old = if gives then Some number else if leaves && not stays then None else old
