use Rattle.snapshots.proofs.Written as written
use Rattle.snapshots.proofs.laws.empty_folders_are_bare.Goals as goal

pub returns : goal.returns
returns c = written.empty_folders_are_bare
