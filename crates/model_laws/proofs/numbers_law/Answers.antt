use Rattle.model_laws.proofs.Numbered.{are_numbered}
use Rattle.model_laws.proofs.numbers_law.Goals as goal

pub returns : goal.returns
returns c = are_numbered
