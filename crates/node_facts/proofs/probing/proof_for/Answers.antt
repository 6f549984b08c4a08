use Rattle.std.proofs.Common.{◌≡◌, ◌==◌, true, ap, sym, subst, length, List, ℕ, ◌∙◌}
use Rattle.std.proofs.lemmas.Bool.{false≢true}
use Rattle.wire_codec.specs.Fields.{are_places}
use Rattle.psb_machine.proofs.ProbeFits.{missing_fit}
use Rattle.node_facts.proofs.probing.proof_for.Goals as goal

pub declined_of-requires : goal.declined_of-requires
declined_of-requires g c =
    let is = c.in_ok-places.ensures.places in
    subst (λ (l : List ℕ). are_places l ≡ true) (sym is)
    (missing_fit c.args.held.now.ledger.now.state c.args.peer c.args.objects.now c.requires.few
    (λ none. absurd (false≢true (c.if-not-is_empty.ensures ∙ ap (λ (l : List ℕ). length l == 0) (c.as_slice.ensures ∙ is ∙ none)))))
