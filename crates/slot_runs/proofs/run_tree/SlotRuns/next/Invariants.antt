use Rattle.std.proofs.Common.{take, ◌++◌}
use Rattle.slot_runs.specs.Runs.{IsNext}
use Rattle.slot_runs.specs.SlotRuns.{tree_runs}
use Rattle.slot_runs.proofs.run_tree.SlotRuns.next.Given as goal

abbrev pub invariant-loop-run : goal.invariant-loop-run
invariant-loop-run g l = IsNext (tree_runs l.self ++ take l.run-index l.run-items) l.number l.next
