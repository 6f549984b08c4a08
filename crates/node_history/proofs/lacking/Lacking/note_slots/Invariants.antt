use Rattle.std.proofs.Common.{◌≡◌, ℕ, List, take}
use Rattle.node_history.specs.Lacking.{is_lacking, is_slot_lacking}
use Rattle.node_history.proofs.SlotKeys.{AreNoted}
use Rattle.node_history.proofs.lacking.Lacking.note_slots.Given as goal

abbrev pub invariant-loop-slot : goal.invariant-loop-slot
invariant-loop-slot l = record {
  noted : AreNoted (is_slot_lacking l.fn.self) (is_slot_lacking l.self) l.fn.peer (take l.slot-index l.fn.slots) l.fn.has_them;
  names : (q : List ℕ) → is_lacking l.self q ≡ is_lacking l.fn.self q;
}
