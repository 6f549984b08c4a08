use Rattle.std.proofs.Common.{◌≡◌, sym, ◌∙◌, rules}
use Rattle.std.specs.List.{list_any}
use Rattle.std.proofs.lemmas.Iterator.Consumers.{YieldsList-from_rest}
use Rattle.std.proofs.lemmas.Iterator.Search.{any_from_yields_List}
use Rattle.psb_model.specs.State.{row}
use Rattle.model_laws.proofs.Directs.{has_direct}
use Rattle.node_history.specs.declared.lacking.SlotAt.{SlotAt}
use Rattle.node_history.specs.contracts.lacking.SlotAtOrd.TheImpl.{cmp-value as slot_cmp}
use Rattle.node_history.proofs.Lacks.{one_passes, none_passes}
use Rattle.node_history.proofs.SlotKeys.{slot_equal, slot_one}
use Rattle.node_history.proofs.lacking.Lacking.any_direct.Goals as goal

pub returns-clause-some : goal.returns-clause-some
returns-clause-some c = λ is.
    let test = λ (at : SlotAt). has_direct (row c.args.ledger.now.state at.peer).ins at.slot in
    let keys = c.args.self.now.slots.keys in
    let any : c.any.result ≡ list_any test keys = any_from_yields_List _ _ _ c.any.result c.any.ensures.ran (YieldsList-from_rest keys c.iter.ensures.rest) (λ x b q k. search rules) in
    let one = one_passes slot_cmp.it slot_equal test keys (sym any ∙ is) in
    (one.0.peer, one.0.slot, one.1, one.2)

pub returns-clause-none : goal.returns-clause-none
returns-clause-none c = λ is p n lacking.
    let test = λ (at : SlotAt). has_direct (row c.args.ledger.now.state at.peer).ins at.slot in
    let keys = c.args.self.now.slots.keys in
    let any : c.any.result ≡ list_any test keys = any_from_yields_List _ _ _ c.any.result c.any.ensures.ran (YieldsList-from_rest keys c.iter.ensures.rest) (λ x b q k. search rules) in
    none_passes slot_cmp.it slot_one test keys (record { peer = p; slot = n }) (sym any ∙ is) lacking
