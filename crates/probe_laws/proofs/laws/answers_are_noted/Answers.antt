use Rattle.probe_laws.proofs.Answers.{answers_are_noted as proved}
use Rattle.probe_laws.proofs.laws.answers_are_noted.Goals as goal

pub returns : goal.returns
returns c = proved
