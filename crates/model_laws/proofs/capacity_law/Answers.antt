use Rattle.psb_model.proofs.Steady.{steady_state}
use Rattle.model_laws.proofs.capacity_law.Goals as goal

pub returns : goal.returns
returns c = λ h lawful. (steady_state h lawful).used
