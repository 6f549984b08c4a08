use Rattle.model_laws.proofs.Following.{outcomes_once}
use Rattle.model_laws.proofs.outcomes_law.Goals as goal

pub returns : goal.returns
returns c = outcomes_once
