use Rattle.std.proofs.Common.{◌≡◌, ◌++◌, take, drop}
use Rattle.psb_station.specs.Plan.{counted}
use Rattle.psb_station.proofs.plan.is_planned.Given as goal

abbrev pub invariant-loop-planned : goal.invariant-loop-planned
invariant-loop-planned g l = l.plan ≡ counted g.K.PartialEq.eq l.kind (take l.planned-index l.initial.plan) ++ drop l.planned-index l.initial.plan
