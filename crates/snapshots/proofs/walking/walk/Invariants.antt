use Rattle.std.proofs.Common.{◌-◌}
use Rattle.skeleton.specs.declared.limits.TheConstants.{MOST_TEXT_BYTES}
use Rattle.snapshots.proofs.WalkTurns.{IsGoing}
use Rattle.snapshots.proofs.walking.walk.Given as goal

abbrev pub invariant-loop-index : goal.invariant-loop-index
invariant-loop-index g l = IsGoing (g.F.Folder.view l.fn.folder) (g.F.Folder.view l.folder) l.root l.index l.walked

abbrev pub decreases-loop-index : goal.decreases-loop-index
decreases-loop-index g l = MOST_TEXT_BYTES - l.index
