use Rattle.std.proofs.Common.{rules}
use Rattle.change_codec.proofs.RecordLaws.{one_change}
use Rattle.node_facts.proofs.Again.{answer_of_read}
use Rattle.node_facts.proofs.repeats.reply_to_head.Goals as goal

pub returns-clause-answer : goal.returns-clause-answer
returns-clause-answer c = answer_of_read one_change c.args.claims.now.seed c.in-Ok.change c.args.head.now c.in_ok-reply_to.field-0 c.in-Ok.ensures.ok (search rules)
