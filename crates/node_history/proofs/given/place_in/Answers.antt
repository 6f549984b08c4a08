use Rattle.change_codec.proofs.RecordLaws.{one_change}
use Rattle.node_history.proofs.GivenBytes.{place_of_read}
use Rattle.node_history.proofs.given.place_in.Goals as goal

pub returns-in-Ok-clause-place : goal.returns-in-Ok-clause-place
returns-in-Ok-clause-place c = place_of_read one_change c.in-Ok.change c.args.slot c.args.head.now c.place_of.result c.in-Ok.ensures.ok c.place_of.ensures
