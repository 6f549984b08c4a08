use Rattle.probe_laws.proofs.Courses.{courses_are_just as proved}
use Rattle.probe_laws.proofs.laws.courses_are_just.Goals as goal

pub returns : goal.returns
returns c = proved
