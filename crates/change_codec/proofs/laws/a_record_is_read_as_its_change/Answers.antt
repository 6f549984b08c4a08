use Rattle.change_codec.proofs.RecordLaws.{takes, read_again}
use Rattle.change_codec.proofs.laws.a_record_is_read_as_its_change.Goals as goal

pub returns : goal.returns
returns c = λ d head body ok okb. (takes head body d ok okb, read_again d head body)
