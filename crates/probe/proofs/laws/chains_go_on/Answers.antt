use Rattle.probe.proofs.Joined.{go_on}
use Rattle.probe.proofs.laws.chains_go_on.Goals as goal

pub returns : goal.returns
returns c = go_on
