-- Valid histories, and how they grow.
use Rattle.std.proofs.Common.{◌≡◌, ◌≤◌, true, false, ◌&&◌, List, [], ◌∷◌, ◌++◌, refl, sym, ap, subst, ◌∙◌, arith, append_assoc}
use Rattle.std.specs.List.{list_all}
use Rattle.std.proofs.lemmas.Bool.{and_parts, eqb-true}
use Rattle.std.proofs.lemmas.List.{append-nil}
use Rattle.psb_model.specs.declared.change.Change.{Change}
use Rattle.psb_model.specs.declared.change.Change.TheVariants.{Begun}
use Rattle.psb_model.specs.State.{State}
use Rattle.psb_model.specs.Grammar.{in_grammar, fits_widths}
use Rattle.psb_model.specs.Conditions.{is_begun, allowed, tests}
use Rattle.psb_model.specs.Effects.{after}
use Rattle.psb_model.specs.History.{state, lawful_from, is_lawful}
use Rattle.psb_model.specs.Needed.{IsValid}
use Rattle.psb_model.proofs.Prefixes.{changes_counted, lawful_cons, lawful_snoc, all_snoc, state_snoc}
use Rattle.psb_model.proofs.Steady.{IsSteady, allows, steady_nothing, steady_after, steady_state}
use Rattle.psb_model.proofs.Steps.{parts}

-- a change that may come next, of any kind
pub record MayCome (s : State) (c : Change) : Type 0 where
  pub steady : IsSteady s
  pub grammar : in_grammar c ≡ true
  pub fit : fits_widths c ≡ true
  pub may : allowed s c ≡ true

pub may_come : (h : List Change) (c : Change) → IsValid h → IsValid (h ++ c ∷ []) → MayCome (state h) c
may_come h c v w =
    let lawful = and_parts (is_lawful h) (in_grammar c && allowed (state h) c) (sym (lawful_snoc h c) ∙ w.lawful) in
    let two = and_parts (in_grammar c) (allowed (state h) c) lawful.1 in
    record {
      steady = steady_state h v.lawful;
      grammar = two.0;
      fit = (and_parts (list_all fits_widths h) (fits_widths c) (sym (all_snoc fits_widths h c) ∙ w.fit)).1;
      may = two.1;
    }

-- ---- what holds of no change, and with each that may come, holds of all

abbrev pub Steps : (List Change → Type 0) → Type 0
Steps P = (h : List Change) (c : Change) → MayCome (state h) c → P h → P (h ++ c ∷ [])

growth_from : (P : List Change → Type 0) → Steps P → (done rest : List Change) → P done → IsSteady (state done) → lawful_from (state done) rest ≡ true → list_all fits_widths rest ≡ true → P (done ++ rest)
growth_from P step done [] p steady v f = subst P (sym (append-nil done)) p
growth_from P step done (c ∷ cs) p steady v f =
    let l = lawful_cons (state done) c cs v in
    let fit = and_parts (fits_widths c) (list_all fits_widths cs) f in
    let m : MayCome (state done) c = record { steady = steady; grammar = l.grammar; fit = fit.0; may = l.allows } in
    let next : state (done ++ c ∷ []) ≡ after (state done) c = state_snoc done c in
    subst P (append_assoc done (c ∷ []) cs)
    (growth_from P step (done ++ c ∷ []) cs (step done c m p) (subst IsSteady (sym next) (steady_after (state done) c steady l.grammar l.allows)) (ap (λ (s : State). lawful_from s cs) next ∙ l.rest) fit.1)

pub by_growth : (P : List Change → Type 0) → P [] → Steps P → (h : List Change) → IsValid h → P h
by_growth P none step h v = growth_from P step [] h none steady_nothing v.lawful v.fit

-- ---- what comes behind the beginning

pub no_begun : (s : State) (c : Change) → MayCome s c → 1 ≤ s.changes → is_begun c ≡ false
no_begun s (Begun x) m some =
    let first : s.changes ≡ 0 = eqb-true s.changes 0 (parts (tests s (Begun x)) (allows s (Begun x) m.may).tests).0 in absurd (omega (arith, first, some))
no_begun s _ m some = refl

pub later_change : (h : List Change) (c : Change) → IsValid h → IsValid (h ++ c ∷ []) → is_begun c ≡ false
later_change h c v w = no_begun (state h) c (may_come h c v w) (omega (arith, changes_counted h, v.some))
