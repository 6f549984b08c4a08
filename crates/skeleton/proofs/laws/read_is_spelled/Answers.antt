use Rattle.skeleton.proofs.TextLaws.{skeleton_has_text, refs_have_text}
use Rattle.skeleton.proofs.laws.read_is_spelled.Goals as goal

pub returns : goal.returns
returns c = record { skeleton = skeleton_has_text; refs = refs_have_text }
