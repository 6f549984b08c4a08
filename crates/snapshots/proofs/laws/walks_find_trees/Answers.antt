use Rattle.snapshots.proofs.WalkTrees.{walk_finds_tree}
use Rattle.snapshots.proofs.laws.walks_find_trees.Goals as goal

pub returns : goal.returns
returns c = walk_finds_tree
