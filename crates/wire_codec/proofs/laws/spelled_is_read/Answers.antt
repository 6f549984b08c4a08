use Rattle.wire_codec.proofs.FrameLaws.{reads}
use Rattle.wire_codec.proofs.laws.spelled_is_read.Goals as goal

pub returns : goal.returns
returns c = λ from own number frame keys key fit known. reads own keys key from number frame fit known
