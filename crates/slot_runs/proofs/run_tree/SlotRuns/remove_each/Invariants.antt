use Rattle.std.proofs.Common.{◌≡◌, ◌≤◌, ◌-◌, ◌+◌, ℕ, None, length, take}
use Rattle.std.specs.Prelude.{if◌then◌else◌}
use Rattle.psb_bytes.specs.declared.ids.Object.TheVariants.{Slot}
use Rattle.psb_model.specs.Words.{listed, slots}
use Rattle.slot_runs.specs.Runs.{rest_in}
use Rattle.slot_runs.specs.SlotRuns.{runs, runs_room, IsKept}
use Rattle.slot_runs.proofs.run_tree.SlotRuns.remove_each.Given as goal

abbrev pub invariant-loop-number : goal.invariant-loop-number
invariant-loop-number g l = record {
  kept : IsKept l.self;
  rest : (n : ℕ) → rest_in (runs l.self) n ≡ (if listed (slots (take l.number-index l.numbers)) (Slot n) then None else rest_in (runs l.fn.self) n);
  left : length l.numbers - l.number-index ≤ runs_room l.self;
  room : runs_room l.fn.self ≤ runs_room l.self + l.number-index;
}
