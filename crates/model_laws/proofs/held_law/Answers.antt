use Rattle.model_laws.proofs.HeldBytes.{held_have_bytes}
use Rattle.model_laws.proofs.held_law.Goals as goal

pub returns : goal.returns
returns c = held_have_bytes
