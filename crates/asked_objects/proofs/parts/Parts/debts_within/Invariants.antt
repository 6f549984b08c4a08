use Rattle.std.proofs.Common.{◌-◌}
use Rattle.asked_objects.specs.Parts.{outs_there}
use Rattle.asked_objects.proofs.Halving.{IsHalved}
use Rattle.asked_objects.proofs.parts.Parts.debts_within.Given as goal

abbrev pub invariant-loop-low : goal.invariant-loop-low
invariant-loop-low l = IsHalved (outs_there l.account.row) l.self.debts.items l.place l.low l.high

abbrev pub decreases-loop-low : goal.decreases-loop-low
decreases-loop-low l = l.high - l.low
