use Rattle.std.proofs.Common.{take}
use Rattle.snapshots.specs.WalkSteps.{Adds}
use Rattle.snapshots.proofs.walking.add_all.Given as goal

abbrev pub invariant-loop-item : goal.invariant-loop-item
invariant-loop-item l = Adds l.base (take l.item-index l.items) l.initial.walked l.walked
