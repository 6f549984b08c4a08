use Rattle.change_codec.proofs.RecordLaws.{one_change}
use Rattle.change_codec.proofs.laws.one_record_stands_for_one_change.Goals as goal

pub returns : goal.returns
returns c = one_change
