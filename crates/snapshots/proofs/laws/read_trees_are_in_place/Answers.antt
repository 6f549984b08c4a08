use Rattle.snapshots.proofs.GotTrees as got
use Rattle.snapshots.proofs.laws.read_trees_are_in_place.Goals as goal

pub returns : goal.returns
returns c = got.read_trees_are_in_place
