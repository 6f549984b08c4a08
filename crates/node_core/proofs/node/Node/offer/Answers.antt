use Rattle.std.proofs.Common.{◌≡◌, ⊎_elim, [], length, rules, refl, ◌∙◌, ap, arith}
use Rattle.psb_ledger.specs.View.{LedgerView}
use Rattle.node_letters.specs.Letters.{letters_of}
use Rattle.node_history.proofs.Less.{less_all}
use Rattle.node_core.proofs.Offering.{letter_known, the_one, one_at_most}
use Rattle.node_core.proofs.Probing.{knows_held}
use Rattle.node_core.proofs.node.Node.offer.Goals as goal

pub returns-clause-letters : goal.returns-clause-letters
returns-clause-letters g c = λ n settings key k present keyed either.
    let node = c.args.self.now in
    let deal = c.args.offer.deal in
    let o = c.in_ok-letter.letter in
    let here = ap (λ (v : LedgerView). v.state) c.ledger.ensures ∙ k.ledger in
    let none : c.made-reaction.result.out ≡ [] = search rules in
    ap letters_of (the_one c.made-reaction.result.out _ o none c.in_ok-with_letter.ensures.out)
    ∙ ⊎_elim
    (λ told. let s = told.1 in
    letter_known node n s.less settings c.args.peer key deal o k present keyed c.requires.askable s.is_less s.valid
    (c.in_ok-letter.ensures.exact told.0 s.less s.records (knows_held _ node n s.less k s.is_less s.valid here refl refl) s.decoded s.shows))
    (λ bare.
    letter_known node n n.history settings c.args.peer key deal o k present keyed c.requires.askable (less_all n.history) k.valid
    (c.in_ok-letter.ensures.unread bare n.history (knows_held _ node n n.history k (less_all n.history) k.valid here refl refl)))
    either

pub returns-clause-few : goal.returns-clause-few
returns-clause-few g c =
    let none : c.made-reaction.result.out ≡ [] = search rules in
    let o = c.in_ok-letter.letter in
    omega (arith, one_at_most o, ap length (the_one c.made-reaction.result.out c.in_ok-with_letter.field-0.out o none c.in_ok-with_letter.ensures.out))
