use Rattle.std.proofs.Common.{◌∙◌, ap}
use Rattle.psb_ledger.specs.View.{LedgerView}
use Rattle.psb_machine.specs.Settling.{settle}
use Rattle.deals.specs.Views.{answer_in}
use Rattle.node_letters.specs.Messages.{sender_in}
use Rattle.node_core.proofs.Hearing.{reply_hears, reply_may_come}
use Rattle.node_core.proofs.node.Node.on_reply.Goals as goal

pub returns-clause-hears : goal.returns-clause-hears
returns-clause-hears g c = λ n k. reply_hears c.made.result c.args.self.now n (sender_in c.args.sender.now) (answer_in c.args.answer) k (c.made.ensures.change ∙ c.in_ok-change.ensures ∙ ap (λ (v : LedgerView). settle v.state c.args.sender.now.peer c.args.sender.now.number (answer_in c.args.answer)) c.ledger.ensures) c.made.ensures.note c.made.ensures.dropped (c.made.ensures.out ∙ c.no_letter.ensures)

pub returns-clause-may : goal.returns-clause-may
returns-clause-may g c = reply_may_come c.made.result c.args.self.now c.args.sender.now (answer_in c.args.answer) c.requires.known c.requires.heard c.requires.few (c.made.ensures.change ∙ c.in_ok-change.ensures ∙ ap (λ (v : LedgerView). settle v.state c.args.sender.now.peer c.args.sender.now.number (answer_in c.args.answer)) c.ledger.ensures)
