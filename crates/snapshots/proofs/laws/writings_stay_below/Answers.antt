use Rattle.snapshots.proofs.Written as written
use Rattle.snapshots.proofs.laws.writings_stay_below.Goals as goal

pub returns : goal.returns
returns c = written.writings_stay_below
