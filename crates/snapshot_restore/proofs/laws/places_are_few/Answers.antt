use Rattle.snapshot_restore.proofs.FewPlaces.{texts_have_few, files_have_few}
use Rattle.snapshot_restore.proofs.laws.places_are_few.Goals as goal

pub returns-clause-texts : goal.returns-clause-texts
returns-clause-texts c = texts_have_few

pub returns-clause-files : goal.returns-clause-files
returns-clause-files c = files_have_few
