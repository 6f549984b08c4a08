use Rattle.std.proofs.Common.{ap, ◌∙◌}
use Rattle.psb_model.specs.State.{State}
use Rattle.psb_ledger.specs.View.{LedgerView}
use Rattle.psb_model.proofs.Prefixes.{changes_counted}
use Rattle.node_core.proofs.node.Node.changes.Goals as goal

pub returns : goal.returns
returns g c = λ n k. c.changes.ensures ∙ ap (λ (v : LedgerView). v.state.changes) c.ledger.ensures ∙ ap (λ (s : State). s.changes) k.ledger ∙ changes_counted n.history
