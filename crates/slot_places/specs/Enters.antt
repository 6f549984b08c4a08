-- What a change does to the records of slots.
use Rattle.std.specs.Prelude.{◌≡◌, ℕ}
use Rattle.psb_bytes.specs.declared.ids.Object.TheVariants.{Slot}
use Rattle.psb_model.specs.Words.{has}
use Rattle.psb_model.specs.State.{State, row, in_key}
use Rattle.psb_model.specs.Effects.{after}
use Rattle.psb_model.specs.Needed.{gives_slot}
use Rattle.psb_model.specs.declared.change.Change.{Change}
use Rattle.slot_places.specs.declared.moved.SlotsMoved.{SlotsMoved}
use Rattle.slot_places.specs.declared.tables.SlotTables.{SlotTables}
use Rattle.slot_places.specs.Moves.{is_given, may_leave, leaves_slot, slot_after}
use Rattle.slot_places.specs.Slots.{slot_record}

-- what was worked out was entered with this number, and this is the state that it left
abbrev pub Moved : SlotTables → SlotTables → SlotsMoved → ℕ → State → Type 0
Moved old new m number left = (p n : ℕ) → slot_record new p n ≡ slot_after (is_given m p n) (may_leave m p n) (has in_key (row left p).ins (Slot n)) number (slot_record old p n)

-- what a change with this number does to the records, after this state
abbrev pub EntersSlots : State → SlotTables → SlotTables → Change → ℕ → Type 0
EntersSlots s old new c number = (p n : ℕ) → slot_record new p n ≡ slot_after (gives_slot p n c) (leaves_slot s c p n) (has in_key (row (after s c) p).ins (Slot n)) number (slot_record old p n)
