use Rattle.std.proofs.Common.{ℕ, ◌≡◌, take}
use Rattle.psb_bytes.specs.declared.ids.Object.TheVariants.{Slot}
use Rattle.psb_model.specs.Words.{listed, slots}
use Rattle.slot_places.proofs.moved.slots_among.Given as goal

abbrev pub invariant-loop-object : goal.invariant-loop-object
invariant-loop-object l = (n : ℕ) → listed (slots l.numbers.items) (Slot n) ≡ listed (take l.object-index l.objects) (Slot n)
