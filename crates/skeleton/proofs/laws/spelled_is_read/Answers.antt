use Rattle.skeleton.proofs.TextLaws.{skeleton_is_read, refs_are_read}
use Rattle.skeleton.proofs.laws.spelled_is_read.Goals as goal

pub returns : goal.returns
returns c = record { skeleton = skeleton_is_read; refs = refs_are_read }
