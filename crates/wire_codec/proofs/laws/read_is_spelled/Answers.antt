use Rattle.wire_codec.proofs.FrameLaws.{takes}
use Rattle.wire_codec.proofs.laws.read_is_spelled.Goals as goal

pub returns : goal.returns
returns c = λ own keys bytes incoming ok e. let t = takes own keys bytes incoming ok e in (t.key, t.known, t.fit, t.whole)
