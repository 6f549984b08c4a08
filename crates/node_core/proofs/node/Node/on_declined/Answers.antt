use Rattle.std.proofs.Common.{◌≡◌, Option, Some, IfSome, sym, ◌∙◌, ap, subst, refl}
use Rattle.psb_model.specs.declared.change.Change.{Change}
use Rattle.psb_ledger.specs.View.{LedgerView}
use Rattle.node_core.specs.Reacting.{MayCome}
use Rattle.node_core.specs.Stored.{Knows}
use Rattle.node_core.proofs.OwnProbing.{known_same, declined_known, declined_hears, declined_may_come}
use Rattle.node_core.proofs.node.Node.on_declined.Goals as goal

pub returns-clause-hears : goal.returns-clause-hears
returns-clause-hears g c = λ n k.
    let node = c.args.self.now in
    let from = c.args.sender.now in
    let here : Some c.in-Some-settings.settings.now ≡ node.ledger.state.settings = c.in-Some-settings.ensures ∙ ap (λ (v : LedgerView). v.state.settings) c.ledger.ensures in
    declined_hears c.made.result node n from c.args.nonce.now c.args.places.now k
    (c.made.ensures.change ∙ declined_known node n from c.args.nonce.now c.args.places.now c.in-Some-settings.settings.now k.settings.settings c.in_ok-run.run' c.in_ok-change.change k (known_same node n c.in-Some-settings.settings.now k here) c.in_ok-run.ensures.run c.in_ok-change.ensures)
    c.made.ensures.note c.made.ensures.dropped (c.made.ensures.out ∙ c.no_letter.ensures)

pub returns-clause-may : goal.returns-clause-may
returns-clause-may g c =
    let node = c.args.self.now in
    let from = c.args.sender.now in
    let known = c.in-Some-settings.settings.now in
    subst (λ (o : Option Change). IfSome o (MayCome Knows node)) (sym c.made.ensures.change)
    (declined_may_come node known from c.args.nonce.now c.args.places.now c.in_ok-change.change c.requires.known c.requires.few c.requires.heard
    (λ n k. declined_known node n from c.args.nonce.now c.args.places.now known known c.in_ok-run.run' c.in_ok-change.change k refl c.in_ok-run.ensures.run c.in_ok-change.ensures))
