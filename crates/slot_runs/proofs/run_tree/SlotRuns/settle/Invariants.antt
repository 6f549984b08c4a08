use Rattle.std.proofs.Common.{length}
use Rattle.slot_runs.specs.SlotRuns.{runs, tree_runs}
use Rattle.slot_runs.specs.Runs.{AreLongest}
use Rattle.slot_runs.proofs.Slots.{SaysTheSame}
use Rattle.slot_runs.proofs.run_tree.SlotRuns.settle.Given as goal

abbrev pub invariant-loop-run : goal.invariant-loop-run
invariant-loop-run g l = record {
  same : SaysTheSame (runs l.fn.self) (runs l.self);
  longest : AreLongest (tree_runs l.self);
}

abbrev pub decreases-loop-run : goal.decreases-loop-run
decreases-loop-run g l = length l.self.latest.items
