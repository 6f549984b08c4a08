use Rattle.snapshots.proofs.NotTooLarge.{tree_not_too_large}
use Rattle.snapshots.proofs.laws.short_trees_are_not_too_large.Goals as goal

pub returns : goal.returns
returns c = tree_not_too_large
