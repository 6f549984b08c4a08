use Rattle.snapshots.proofs.Written as written
use Rattle.snapshots.proofs.laws.writings_are_trees.Goals as goal

pub returns : goal.returns
returns c = written.writings_are_trees
