use Rattle.std.proofs.Common.{take, false}
use Rattle.rolling_chunks.specs.Cuts.{longest}
use Rattle.rolling_chunks.specs.Pushes.{Runs}
use Rattle.rolling_chunks.proofs.cutter.Cutter.push_each.Given as goal

abbrev pub invariant-loop-i : goal.invariant-loop-i
invariant-loop-i l = Runs longest l.fn.self (take l.i l.bytes) false l.self
