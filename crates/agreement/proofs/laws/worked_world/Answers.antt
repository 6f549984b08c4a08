use Rattle.agreement.proofs.WorkedSteps.{worked}
use Rattle.agreement.proofs.laws.worked_world.Goals as goal

pub returns : goal.returns
returns c = worked
