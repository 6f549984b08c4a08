use Rattle.std.proofs.Common.{refl, ◌∙◌}
use Rattle.node_history.specs.Lacking.{is_slot_lacking}
use Rattle.node_history.proofs.SlotKeys.{none_noted, one_noted}
use Rattle.node_history.proofs.lacking.Lacking.note_slots.Goals as goal

pub loop-slot-init : goal.loop-slot-init
loop-slot-init c = record { noted = none_noted (is_slot_lacking c.args.self.now) c.args.peer c.args.has_them; names = λ q. refl }

pub loop-slot-preserved : goal.loop-slot-preserved
loop-slot-preserved c = record {
  noted = one_noted (is_slot_lacking c.args.self.now) (is_slot_lacking c.loop-slot.self) (is_slot_lacking c.note_slot.new.self) c.args.peer c.args.slots.now c.loop-slot.slot-index c.args.has_them c.loop-slot-test.true c.loop-slot.invariant.noted c.in_ok-note_slot.ensures.noted;
  names = λ q. c.in_ok-note_slot.ensures.names q ∙ c.loop-slot.invariant.names q;
}
