use Rattle.model_laws.proofs.Following.{discards_follow}
use Rattle.model_laws.proofs.discards_law.Goals as goal

pub returns : goal.returns
returns c = discards_follow
