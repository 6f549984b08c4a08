use Rattle.node_laws.proofs.Reacting.{cause}
use Rattle.node_laws.proofs.laws.changes_have_causes.Goals as goal

pub returns : goal.returns
returns c = λ s n x change is made. cause s n x is change made
