use Rattle.std.proofs.Common.{◌-◌, ◌≤◌, length}
use Rattle.rolling_chunks.specs.Cuts.{longest}
use Rattle.rolling_chunks.proofs.Covering.{Cutting}
use Rattle.rolling_chunks.proofs.spans.cut_all.Given as goal

abbrev pub invariant-loop-run : goal.invariant-loop-run
invariant-loop-run l = record { within : l.start ≤ length l.text; cutting : Cutting longest l.text l.start l.cutter l.spans.items l.start }

abbrev pub decreases-loop-run : goal.decreases-loop-run
decreases-loop-run l = length l.text - l.start
