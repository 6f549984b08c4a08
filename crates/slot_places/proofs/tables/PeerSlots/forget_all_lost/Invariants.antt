use Rattle.std.proofs.Common.{◌≡◌, ◌≤◌, ◌-◌, ◌+◌, ℕ, None, not, ◌&&◌, length, take}
use Rattle.std.specs.Prelude.{if◌then◌else◌}
use Rattle.psb_bytes.specs.declared.ids.Object.TheVariants.{Slot}
use Rattle.psb_model.specs.Words.{listed, slots, has}
use Rattle.psb_model.specs.State.{row, in_key}
use Rattle.slot_runs.specs.Records.{record_at}
use Rattle.slot_places.proofs.tables.PeerSlots.forget_all_lost.Given as goal

abbrev pub invariant-loop-slot : goal.invariant-loop-slot
invariant-loop-slot l = record {
  peer : l.self.peer ≡ l.fn.self.peer;
  records : (n : ℕ) → record_at l.self.records n ≡ (if listed (slots (take l.slot-index l.leaving)) (Slot n) && not (has in_key (row l.left.state l.fn.self.peer).ins (Slot n)) then None else record_at l.fn.self.records n);
  left : length l.leaving - l.slot-index ≤ l.self.records.room;
  room : l.fn.self.records.room ≤ l.self.records.room + l.slot-index;
}
