use Rattle.skeleton.proofs.TextLaws.{same_text}
use Rattle.skeleton.proofs.laws.one_text.Goals as goal

pub returns : goal.returns
returns c = same_text
