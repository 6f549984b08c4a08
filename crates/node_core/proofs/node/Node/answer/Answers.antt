use Rattle.std.proofs.Common.{ap, arith}
use Rattle.psb_model.specs.State.{row}
use Rattle.psb_ledger.specs.View.{LedgerView}
use Rattle.node_core.proofs.node.Node.answer.Goals as goal

pub judge-requires-clause-more : goal.judge-requires-clause-more
judge-requires-clause-more g c = omega (arith, c.requires.next.next, c.requires.next.fits, ap (λ (v : LedgerView). (row v.state c.args.sender.now.peer).last.number) c.ledger.ensures)
