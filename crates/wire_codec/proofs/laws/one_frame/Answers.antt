use Rattle.wire_codec.proofs.FrameLaws.{same_frame}
use Rattle.wire_codec.proofs.laws.one_frame.Goals as goal

pub returns : goal.returns
returns c = λ from to number f key from' to' number' f' key' h h' same. same_frame from to number f key from' to' number' f' key' h h' same
