use Rattle.model_laws.proofs.Linked.{links_one_to_one}
use Rattle.model_laws.proofs.links_law.Goals as goal

pub returns : goal.returns
returns c = links_one_to_one
