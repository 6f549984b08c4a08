use Rattle.std.proofs.Common.{◌≡◌, ◌++◌}
use Rattle.slot_runs.specs.Runs.{count_up}
use Rattle.slot_runs.proofs.part.push_run.Given as goal

abbrev pub invariant-loop-offset : goal.invariant-loop-offset
invariant-loop-offset l = l.numbers.items ≡ l.fn.numbers.items ++ count_up l.first l.offset
