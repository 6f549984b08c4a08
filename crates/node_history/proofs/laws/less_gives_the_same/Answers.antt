use Rattle.node_history.proofs.Less.{less_same}
use Rattle.node_history.proofs.laws.less_gives_the_same.Goals as goal

pub returns : goal.returns
returns c = less_same
