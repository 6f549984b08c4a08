-- Histories in parts: what one more change gives, and what a prefix keeps.
use Rattle.std.proofs.Common.{◌≡◌, ℕ, ◌+◌, Bool, true, false, ◌&&◌, List, [], ◌∷◌, ◌++◌, length, refl, sym, ap, ◌∙◌, arith}
use Rattle.std.specs.Prelude.{take, drop}
use Rattle.std.specs.List.{list_all}
use Rattle.std.proofs.lemmas.Bool.{and_parts}
use Rattle.std.proofs.lemmas.List.{take-append-drop}
use Rattle.std.proofs.lemmas.List.Folds.{list_all-append}
use Rattle.psb_model.specs.declared.change.Change.{Change}
use Rattle.psb_model.specs.State.{State, nothing_yet}
use Rattle.psb_model.specs.Grammar.{in_grammar}
use Rattle.psb_model.specs.Conditions.{allowed}
use Rattle.psb_model.specs.Effects.{after}
use Rattle.psb_model.specs.History.{state_from, lawful_from, state, is_lawful}

pub state_app : (s : State) (xs ys : List Change) → state_from s (xs ++ ys) ≡ state_from (state_from s xs) ys
state_app s [] ys = refl
state_app s (x ∷ xs) ys = state_app (after s x) xs ys

-- the state after one change more
pub state_snoc : (h : List Change) (c : Change) → state (h ++ c ∷ []) ≡ after (state h) c
state_snoc h c = state_app nothing_yet h (c ∷ [])

pub changes_are : (s : State) (h : List Change) → (state_from s h).changes ≡ s.changes + length h
changes_are s [] = omega arith
changes_are s (c ∷ cs) = omega (arith, changes_are (after s c) cs)

-- the state counts the changes
pub changes_counted : (h : List Change) → (state h).changes ≡ length h
changes_counted h = omega (arith, changes_are nothing_yet h)

pub and_assoc : (a b c : Bool) → (a && b && c) ≡ (a && (b && c))
and_assoc true b c = refl
and_assoc false b c = refl

and_true : (a : Bool) → (a && true) ≡ a
and_true true = refl
and_true false = refl

pub lawful_app : (s : State) (xs ys : List Change) → lawful_from s (xs ++ ys) ≡ (lawful_from s xs && lawful_from (state_from s xs) ys)
lawful_app s [] ys = refl
lawful_app s (x ∷ xs) ys =
    let first = in_grammar x && allowed s x in
    ap (λ b. first && b) (lawful_app (after s x) xs ys) ∙ sym (and_assoc first (lawful_from (after s x) xs) (lawful_from (state_from (after s x) xs) ys))

-- one change more is lawful exactly where it is in the grammar and allowed
pub lawful_snoc : (h : List Change) (c : Change) → is_lawful (h ++ c ∷ []) ≡ (is_lawful h && (in_grammar c && allowed (state h) c))
lawful_snoc h c = lawful_app nothing_yet h (c ∷ []) ∙ ap (λ b. is_lawful h && b) (and_true (in_grammar c && allowed (state h) c))

-- the parts of a lawful history
pub record IsLawfulCons (s : State) (c : Change) (cs : List Change) : Type 0 where
  pub grammar : in_grammar c ≡ true
  pub allows : allowed s c ≡ true
  pub rest : lawful_from (after s c) cs ≡ true

pub lawful_cons : (s : State) (c : Change) (cs : List Change) → lawful_from s (c ∷ cs) ≡ true → IsLawfulCons s c cs
lawful_cons s c cs h =
    let two = and_parts (in_grammar c && allowed s c) (lawful_from (after s c) cs) h in
    let one = and_parts (in_grammar c) (allowed s c) two.0 in
    record { grammar = one.0; allows = one.1; rest = two.1 }

-- a prefix of a lawful history is lawful
pub lawful_prefix : (n : ℕ) (h : List Change) → is_lawful h ≡ true → is_lawful (take n h) ≡ true
lawful_prefix n h v =
    (and_parts (is_lawful (take n h)) (lawful_from (state (take n h)) (drop n h)) (sym (lawful_app nothing_yet (take n h) (drop n h)) ∙ ap is_lawful (take-append-drop n h) ∙ v)).0

-- what each item has, each item of a prefix has
pub all_prefix : {A : Type 0} (test : A → Bool) (n : ℕ) (l : List A) → list_all test l ≡ true → list_all test (take n l) ≡ true
all_prefix test n l v =
    (and_parts (list_all test (take n l)) (list_all test (drop n l)) (sym (list_all-append test (take n l) (drop n l)) ∙ ap (list_all test) (take-append-drop n l) ∙ v)).0

pub all_snoc : {A : Type 0} (test : A → Bool) (l : List A) (x : A) → list_all test (l ++ x ∷ []) ≡ (list_all test l && test x)
all_snoc test l x = list_all-append test l (x ∷ []) ∙ ap (λ b. list_all test l && b) (and_true (test x))
