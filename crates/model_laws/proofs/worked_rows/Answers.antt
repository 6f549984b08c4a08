use Rattle.model_laws.proofs.Histories.{worked}
use Rattle.model_laws.proofs.worked_rows.Goals as goal

pub returns : goal.returns
returns c = worked
