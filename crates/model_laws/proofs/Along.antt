-- What is found in a history, and what holds along it, as it grows.
use Rattle.std.proofs.Common.{◌≡◌, Bool, true, cond, List, [], ◌∷◌, ◌++◌, Option, Some, None, refl, sym, ap, subst, ◌∙◌, append_assoc}
use Rattle.std.specs.List.{list_all}
use Rattle.std.proofs.lemmas.Bool.{and_parts}
use Rattle.std.proofs.lemmas.List.{append-nil}
use Rattle.psb_model.specs.declared.change.Change.{Change}
use Rattle.psb_model.specs.State.{State}
use Rattle.psb_model.specs.Grammar.{in_grammar}
use Rattle.psb_model.specs.Conditions.{allowed}
use Rattle.psb_model.specs.History.{state, lawful_from}
use Rattle.psb_model.specs.Needed.{last_that}
use Rattle.psb_model.proofs.Prefixes.{lawful_cons, state_snoc}
use Rattle.psb_model.proofs.ByObject.{by_cases}
use Rattle.model_laws.specs.Finding.{Found, told_or, found_from, found, AllAlong}

-- what was found stays the first
told_grows : {X : Type 0} (before : List Change) (rest more : Option (Found X)) (o : Option X) (x : Found X) → ((y : Found X) → rest ≡ Some y → more ≡ Some y) → told_or before rest o ≡ Some x → told_or before more o ≡ Some x
told_grows before rest more None x go h = go x h
told_grows before rest more (Some y) x go h = h

pub found_from-grows : {X : Type 0} (tells : Change → Option X) (before h more : List Change) (x : Found X) → found_from tells before h ≡ Some x → found_from tells before (h ++ more) ≡ Some x
found_from-grows tells before [] more x is = absurd (cc (is))
found_from-grows tells before (c ∷ cs) more x is =
    told_grows before (found_from tells (before ++ c ∷ []) cs) (found_from tells (before ++ c ∷ []) (cs ++ more)) (tells c) x
    (λ y e. found_from-grows tells (before ++ c ∷ []) cs more y e) is

pub found-grows : {X : Type 0} (tells : Change → Option X) (h more : List Change) (x : Found X) → found tells h ≡ Some x → found tells (h ++ more) ≡ Some x
found-grows tells h more x is = found_from-grows tells [] h more x is

-- where nothing was found, the last change is the first
told_end : {X : Type 0} (before whole : List Change) (rest more : Option (Found X)) (end o : Option X) → (rest ≡ None → more ≡ told_or whole None end) → told_or before rest o ≡ None → told_or before more o ≡ told_or whole None end
told_end before whole rest more end None go h = go h
told_end before whole rest more end (Some y) go h = absurd (cc (h))

pub found_from-end : {X : Type 0} (tells : Change → Option X) (before h : List Change) (c : Change) → found_from tells before h ≡ None → found_from tells before (h ++ c ∷ []) ≡ told_or (before ++ h) None (tells c)
found_from-end tells before [] c is = ap (λ l. told_or l None (tells c)) (sym (append-nil before))
found_from-end tells before (d ∷ ds) c is =
    told_end before (before ++ d ∷ ds) (found_from tells (before ++ d ∷ []) ds) (found_from tells (before ++ d ∷ []) (ds ++ c ∷ [])) (tells c) (tells d)
    (λ rest. found_from-end tells (before ++ d ∷ []) ds c rest ∙ ap (λ l. told_or l None (tells c)) (append_assoc before (d ∷ []) ds)) is

pub found-end : {X : Type 0} (tells : Change → Option X) (h : List Change) (c : Change) → found tells h ≡ None → found tells (h ++ c ∷ []) ≡ told_or h None (tells c)
found-end tells h c is = found_from-end tells [] h c is

-- ---- along

pub along_snoc : (P : List Change → Change → Type 0) (before h : List Change) (c : Change) → AllAlong P before h → P (before ++ h) c → AllAlong P before (h ++ c ∷ [])
along_snoc P before [] c all here = (subst (λ l. P l c) (append-nil before) here, tt)
along_snoc P before (d ∷ ds) c all here = (all.0, along_snoc P (before ++ d ∷ []) ds c all.1 (subst (λ l. P l c) (sym (append_assoc before (d ∷ []) ds)) here))

pub along_map : (P Q : List Change → Change → Type 0) → ((b : List Change) (c : Change) → P b c → Q b c) → (before h : List Change) → AllAlong P before h → AllAlong Q before h
along_map P Q f before [] all = tt
along_map P Q f before (c ∷ cs) all = (f before c all.0, along_map P Q f (before ++ c ∷ []) cs all.1)

pub along_any : (before h : List Change) → AllAlong (λ b c. Unit {0}) before h
along_any before [] = tt
along_any before (c ∷ cs) = (tt, along_any (before ++ c ∷ []) cs)

-- a test that each change passes
pub along_all : (test : Change → Bool) (before h : List Change) → list_all test h ≡ true → AllAlong (λ b c. test c ≡ true) before h
along_all test before [] all = tt
along_all test before (c ∷ cs) all = let two = and_parts (test c) (list_all test cs) all in (two.0, along_all test (before ++ c ∷ []) cs two.1)

-- a lawful history
pub along_lawful : (before h : List Change) → lawful_from (state before) h ≡ true → AllAlong (λ b c. (in_grammar c ≡ true) × (allowed (state b) c ≡ true)) before h
along_lawful before [] v = tt
along_lawful before (c ∷ cs) v =
    let w = lawful_cons (state before) c cs v in
    ((w.grammar, w.allows), along_lawful (before ++ c ∷ []) cs (ap (λ (s : State). lawful_from s cs) (state_snoc before c) ∙ w.rest))

-- what holds of the change that was found
pub record FoundAt {X : Type 0} (P : List Change → Change → Type 0) (tells : Change → Option X) (x : Found X) : Type 0 where
  pub change : Change
  pub told : tells change ≡ Some x.what
  pub holds : P x.before change

told_at : {X : Type 0} (P : List Change → Change → Type 0) (tells : Change → Option X) (before : List Change) (c : Change) (rest : Option (Found X)) (o : Option X) (x : Found X) → P before c → (rest ≡ Some x → FoundAt P tells x) → tells c ≡ o → told_or before rest o ≡ Some x → FoundAt P tells x
told_at P tells before c rest None x here go e h = go h
told_at P tells before c rest (Some y) x here go e h =
    let same : record { before = before; what = y } ≡ x = cc (h) in
    subst (FoundAt P tells) same (record { change = c; told = e; holds = here })

pub along_found : {X : Type 0} (P : List Change → Change → Type 0) (tells : Change → Option X) (before h : List Change) (x : Found X) → AllAlong P before h → found_from tells before h ≡ Some x → FoundAt P tells x
along_found P tells before [] x all is = absurd (cc (is))
along_found P tells before (c ∷ cs) x all is =
    told_at P tells before c (found_from tells (before ++ c ∷ []) cs) (tells c) x all.0 (λ rest. along_found P tells (before ++ c ∷ []) cs x all.1 rest) refl is

-- ---- the last that passes

pub last_is : (test : Change → Bool) (h : List Change) (c : Change) → test c ≡ true → last_that test (h ++ c ∷ []) ≡ Some c
last_is test [] c t = ap (λ (b : Bool). cond b (Some c) None) t
last_is test (d ∷ ds) c t = ap (λ (o : Option Change). elim o [ Some x ↦ Some x | None ↦ cond (test d) (Some d) None ]) (last_is test ds c t)

pub record LastAt (P : List Change → Change → Type 0) (test : Change → Bool) (c : Change) : Type 0 where
  pub before : List Change
  pub holds : P before c
  pub passes : test c ≡ true

last_one : (P : List Change → Change → Type 0) (test : Change → Bool) (before : List Change) (c d : Change) (o : Option Change) → elim o [ Some x ↦ Some x | None ↦ cond (test c) (Some c) None ] ≡ Some d → P before c → (o ≡ Some d → LastAt P test d) → LastAt P test d
last_one P test before c d (Some x) is here old = old is
last_one P test before c d None is here old =
    by_cases (test c)
    (λ k. let same : c ≡ d = cc (ap (λ (b : Bool). cond b (Some c) None) (sym k) ∙ is) in subst (LastAt P test) same (record { before = before; holds = here; passes = k }))
    (λ k. let bad : None ≡ Some d = ap (λ (b : Bool). cond b (Some c) None) (sym k) ∙ is in absurd (cc (bad)))

pub along_last : (P : List Change → Change → Type 0) (test : Change → Bool) (before h : List Change) (d : Change) → AllAlong P before h → last_that test h ≡ Some d → LastAt P test d
along_last P test before [] d all is = absurd (cc (is))
along_last P test before (c ∷ cs) d all is = last_one P test before c d (last_that test cs) is all.0 (λ e. along_last P test (before ++ c ∷ []) cs d all.1 e)
