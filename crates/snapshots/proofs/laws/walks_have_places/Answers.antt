use Rattle.snapshots.proofs.WalkPlaces.{walk_has_places}
use Rattle.snapshots.proofs.laws.walks_have_places.Goals as goal

pub returns : goal.returns
returns c = walk_has_places
