use Rattle.model_laws.proofs.Sums.{sums}
use Rattle.model_laws.proofs.sums_law.Goals as goal

pub returns : goal.returns
returns c = sums
