use Rattle.std.proofs.Common.{◌∙◌, ap}
use Rattle.psb_model.specs.State.{row}
use Rattle.next_deals.proofs.Reaching.{name_after, after_next}
use Rattle.next_deals.proofs.seeking.next_out.Goals as goal

pub returns-in-None-clause-next : goal.returns-in-None-clause-next
returns-in-None-clause-next c = ap name_after c.in-None.ensures.chunk ∙ after_next c.args.place.now (row c.args.ledger.now.state c.args.peer).outs c.in-None.ensures.ordered

pub returns-in-Some-clause-next : goal.returns-in-Some-clause-next
returns-in-Some-clause-next c = c.chunk_name.ensures ∙ ap name_after c.in-Some.ensures.chunk ∙ after_next c.args.place.now (row c.args.ledger.now.state c.args.peer).outs c.in-Some.ensures.ordered
