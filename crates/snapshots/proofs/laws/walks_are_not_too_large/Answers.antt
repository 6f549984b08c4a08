use Rattle.snapshots.proofs.NotTooLarge.{walk_not_too_large}
use Rattle.snapshots.proofs.laws.walks_are_not_too_large.Goals as goal

pub returns : goal.returns
returns c = walk_not_too_large
