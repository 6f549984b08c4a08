use Rattle.model_laws.proofs.Explained.{explained}
use Rattle.model_laws.proofs.explanation_law.Goals as goal

pub returns : goal.returns
returns c = explained
