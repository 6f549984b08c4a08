use Rattle.abstracts.proofs.Ordering.{are_least}
use Rattle.abstracts.proofs.laws.abstracts_are_the_least.Goals as goal

pub returns : goal.returns
returns c = are_least
