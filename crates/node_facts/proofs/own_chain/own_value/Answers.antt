use Rattle.std.proofs.Common.{◌≡◌, true, ⊎_elim, ℕ, List, sym, ap, ◌∙◌, rules}
use Rattle.std.proofs.lemmas.Bool.{false≢true}
use Rattle.psb_model.specs.State.{State}
use Rattle.psb_machine.specs.Probing.{chain_over}
use Rattle.psb_machine.specs.OwnProbes.{own_bytes}
use Rattle.node_history.proofs.Presence.{ok_map}
use Rattle.node_facts.specs.OwnChain.{are_own, has_no_chunk}
use Rattle.node_facts.proofs.OwnChain.{chain_lacks}
use Rattle.node_facts.proofs.own_chain.own_value.Goals as goal

pub returns-then-not-are_own-clause-exact : goal.returns-then-not-are_own-clause-exact
returns-then-not-are_own-clause-exact g c = λ tells h es knows are shows.
    sym (chain_lacks c.args.claims.now.seed h c.args.nonce.now c.args.objects.now (ap (λ (s : State). are_own s c.args.objects.now) (sym knows.ledger) ∙ sym c.if-not-are_own.ensures))

pub returns-then-not-are_own-clause-unread : goal.returns-then-not-are_own-clause-unread
returns-then-not-are_own-clause-unread g c = λ h knows nothing.
    sym (chain_lacks c.args.claims.now.seed h c.args.nonce.now c.args.objects.now (ap (λ (s : State). are_own s c.args.objects.now) (sym knows.ledger) ∙ sym c.if-not-are_own.ensures))

pub returns-clause-exact : goal.returns-clause-exact
returns-clause-exact g c =
    let seed : c.new-turns.result.seed ≡ c.args.claims.now.seed = search rules in
    ok_map c.chain_of.result _ _ (λ o value tells h es knows are shows.
    value tells h es knows.names are shows (ap (λ (s : State). are_own s c.args.objects.now) (sym knows.ledger) ∙ sym c.if-not-are_own.ensures)
    ∙ ap (λ (l : List ℕ). chain_over (own_bytes l h) c.args.nonce.now c.args.objects.now) seed)
    c.chain_of.ensures.value

pub returns-clause-unread : goal.returns-clause-unread
returns-clause-unread g c =
    let seed : c.new-turns.result.seed ≡ c.args.claims.now.seed = search rules in
    ok_map c.chain_of.result _ _ (λ o made h knows nothing.
    let none : has_no_chunk c.args.objects.now ≡ true = ⊎_elim (λ lacks. absurd (false≢true (sym lacks ∙ sym c.if-not-are_own.ensures))) (λ all. all) nothing in
    made h none
    ∙ ap (λ (l : List ℕ). chain_over (own_bytes l h) c.args.nonce.now c.args.objects.now) seed)
    c.chain_of.ensures.made
