use Rattle.std.proofs.Common.{◌*◌, ◌≤◌}
use Rattle.snapshots.proofs.tests.gives_chunks.Given as goal

abbrev pub invariant-loop-i : goal.invariant-loop-i
invariant-loop-i l = l.reader.at ≤ 98304 * l.i
