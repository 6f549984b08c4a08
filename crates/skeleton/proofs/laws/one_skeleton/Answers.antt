use Rattle.skeleton.proofs.TextLaws.{same_skeleton}
use Rattle.skeleton.proofs.laws.one_skeleton.Goals as goal

pub returns : goal.returns
returns c = same_skeleton
