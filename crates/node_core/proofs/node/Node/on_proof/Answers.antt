use Rattle.std.proofs.Common.{◌≡◌, Option, Some, IfSome, is_some, sym, ◌∙◌, ap, subst, refl}
use Rattle.psb_model.specs.declared.change.Change.{Change}
use Rattle.psb_ledger.specs.View.{LedgerView}
use Rattle.node_history.proofs.Less.{less_all}
use Rattle.node_core.specs.Reacting.{MayCome}
use Rattle.node_core.specs.Stored.{Knows}
use Rattle.node_core.proofs.Probing.{knows_held}
use Rattle.node_core.proofs.OwnProbing.{proof_known, none_known, to_none, certain_known, proof_hears, proof_hears_so, proof_may_come}
use Rattle.node_core.proofs.node.Node.on_proof.Goals as goal

pub returns-clause-exact : goal.returns-clause-exact
returns-clause-exact g c = λ tells n k s.
    let node = c.args.self.now in
    let from = c.args.sender.now in
    let here : Some c.in-Some-settings.settings.now ≡ node.ledger.state.settings = c.in-Some-settings.ensures ∙ ap (λ (v : LedgerView). v.state.settings) c.ledger.ensures in
    let same = ap (λ (v : LedgerView). v.state) c.ledger-2.ensures ∙ k.ledger in
    proof_hears c.made.result node n from c.args.nonce.now c.args.value.now k
    (c.made.ensures.change
    ∙ proof_known node n s.less from c.args.nonce.now c.args.value.now c.in-Some-settings.settings.now c.in_ok-run.run' c.in_ok-change.change k here c.in_ok-run.ensures.run s.is_less s.valid
    (c.in_ok-change.ensures.exact tells s.less s.records (knows_held _ node n s.less k s.is_less s.valid same refl refl) s.decoded s.shows))
    c.made.ensures.note c.made.ensures.dropped (c.made.ensures.out ∙ c.no_letter.ensures)

pub returns-clause-unread : goal.returns-clause-unread
returns-clause-unread g c = λ n k none.
    let node = c.args.self.now in
    let from = c.args.sender.now in
    let here : Some c.in-Some-settings.settings.now ≡ node.ledger.state.settings = c.in-Some-settings.ensures ∙ ap (λ (v : LedgerView). v.state.settings) c.ledger.ensures in
    proof_hears c.made.result node n from c.args.nonce.now c.args.value.now k
    (c.made.ensures.change
    ∙ none_known node n from c.args.nonce.now c.args.value.now c.in_ok-change.change k none
    (c.in_ok-change.ensures.none (to_none node n from c.args.nonce.now c.in-Some-settings.settings.now c.in_ok-run.run' k here c.in_ok-run.ensures.run none)))
    c.made.ensures.note c.made.ensures.dropped (c.made.ensures.out ∙ c.no_letter.ensures)

pub returns-clause-so : goal.returns-clause-so
returns-clause-so g c = λ n k.
    let node = c.args.self.now in
    let from = c.args.sender.now in
    let here : Some c.in-Some-settings.settings.now ≡ node.ledger.state.settings = c.in-Some-settings.ensures ∙ ap (λ (v : LedgerView). v.state.settings) c.ledger.ensures in
    let same = ap (λ (v : LedgerView). v.state) c.ledger-2.ensures ∙ k.ledger in
    proof_hears_so c.made.result node n from c.args.nonce.now c.args.value.now k
    (ap (λ (o : Option Change). is_some o) c.made.ensures.change
    ∙ certain_known node n from c.args.nonce.now c.in-Some-settings.settings.now c.in_ok-run.run' c.ledger-2.result.now.state (is_some c.in_ok-change.change) k here c.in_ok-run.ensures.run same
    (c.in_ok-change.ensures.certain n.history (knows_held _ node n n.history k (less_all n.history) k.valid same refl refl)))
    c.made.ensures.dropped

pub returns-clause-may : goal.returns-clause-may
returns-clause-may g c =
    let node = c.args.self.now in
    let from = c.args.sender.now in
    subst (λ (o : Option Change). IfSome o (MayCome Knows node)) (sym c.made.ensures.change)
    (proof_may_come node from c.args.nonce.now c.args.value.now c.in_ok-run.run' c.in_ok-change.change c.requires.known c.requires.few c.requires.heard c.in_ok-run.ensures.run c.in_ok-change.ensures.somehow)

pub returns-clause-rests : goal.returns-clause-rests
returns-clause-rests g c = λ n k none.
    let node = c.args.self.now in
    let from = c.args.sender.now in
    let here : Some c.in-Some-settings.settings.now ≡ node.ledger.state.settings = c.in-Some-settings.ensures ∙ ap (λ (v : LedgerView). v.state.settings) c.ledger.ensures in
    c.in_ok-change.ensures.rests (to_none node n from c.args.nonce.now c.in-Some-settings.settings.now c.in_ok-run.run' k here c.in_ok-run.ensures.run none)
