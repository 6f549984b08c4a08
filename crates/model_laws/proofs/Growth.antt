-- What holds of no change, and with each change that may come, holds of every lawful history.
use Rattle.std.proofs.Common.{◌≡◌, true, List, [], ◌∷◌, ◌++◌, refl, sym, ap, subst, ◌∙◌, append_assoc, length, arith}
use Rattle.std.proofs.lemmas.Bool.{false≢true, eqb-true}
use Rattle.std.proofs.lemmas.List.{append-nil}
use Rattle.psb_model.specs.declared.change.Change.{Change}
use Rattle.psb_model.specs.declared.change.Change.TheVariants.{Begun}
use Rattle.psb_model.specs.State.{State}
use Rattle.psb_model.specs.Grammar.{in_grammar}
use Rattle.psb_model.specs.Conditions.{allowed, is_begun, tests}
use Rattle.psb_model.specs.History.{state, lawful_from, is_lawful}
use Rattle.psb_model.proofs.Prefixes.{lawful_cons, lawful_snoc, state_snoc, changes_counted}
use Rattle.psb_model.proofs.Steps.{parts}
use Rattle.psb_model.proofs.Steady.{allows}

abbrev pub Steps : (List Change → Type 0) → Type 0
Steps P = (h : List Change) (c : Change) → is_lawful h ≡ true → in_grammar c ≡ true → allowed (state h) c ≡ true → P h → P (h ++ c ∷ [])

growth_from : (P : List Change → Type 0) → Steps P → (done rest : List Change) → is_lawful done ≡ true → P done → lawful_from (state done) rest ≡ true → P (done ++ rest)
growth_from P step done [] l p v = subst P (sym (append-nil done)) p
growth_from P step done (c ∷ cs) l p v =
    let w = lawful_cons (state done) c cs v in
    let lawful : is_lawful (done ++ c ∷ []) ≡ true = lawful_snoc done c ∙ rw (l, w.grammar, w.allows) refl in
    subst P (append_assoc done (c ∷ []) cs)
    (growth_from P step (done ++ c ∷ []) cs lawful (step done c l w.grammar w.allows p) (ap (λ (s : State). lawful_from s cs) (state_snoc done c) ∙ w.rest))

pub by_growth : (P : List Change → Type 0) → P [] → Steps P → (h : List Change) → is_lawful h ≡ true → P h
by_growth P none step h v = growth_from P step [] h refl none v

-- a Begun is the first change
pub no_length : (l : List Change) → length l ≡ 0 → l ≡ []
no_length [] h = refl
no_length (c ∷ cs) h = absurd (omega (arith, h))

pub begun_first : (h : List Change) (c : Change) → allowed (state h) c ≡ true → is_begun c ≡ true → h ≡ []
begun_first h (Begun x) m b = no_length h (sym (changes_counted h) ∙ eqb-true (state h).changes 0 (parts (tests (state h) (Begun x)) (allows (state h) (Begun x) m).tests).0)
begun_first h _ m b = absurd (false≢true b)
