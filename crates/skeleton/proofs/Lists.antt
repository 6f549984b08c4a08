-- Tests of each element of a list, and of some.
use Rattle.std.proofs.Common.{◌≡◌, ◌≢◌, ℕ, suc, ◌<◌, Bool, true, false, List, [], ◌∷◌, ◌++◌, length, get_or, refl, sym, ◌∙◌, ap, ◌⊎◌, inl, inr, arith}
use Rattle.std.specs.List.{list_all, list_any}
use Rattle.std.proofs.lemmas.Bool.{and_parts, and_from, cases_eq, cases_Bool}
use Rattle.std.proofs.lemmas.List.{get_or_default}
use Rattle.std.proofs.lemmas.List.Folds.{list_all_at, list_any_at}

pub by_cases : {P : Type 0} (b : Bool) → (b ≡ true → P) → (b ≡ false → P) → P
by_cases b passed failed = elim (cases_Bool b) [ inl e ↦ passed e | inr e ↦ failed e ]

-- each element passes a test that all pass
pub all_at : {X : Type 0} (p : X → Bool) (xs : List X) (i : ℕ) (d : X) → list_all p xs ≡ true → i < length xs → p (get_or xs i d) ≡ true
all_at p xs i d all lt = by_cases (p (get_or xs i d)) (λ e. e) (λ e. let none = list_all_at p xs i d lt e in absurd cc)

pub all_from : {X : Type 0} (p : X → Bool) (xs : List X) → ((i : ℕ) (d : X) → i < length xs → p (get_or xs i d) ≡ true) → list_all p xs ≡ true
all_from p [] h = refl
all_from p (x ∷ xs) h = and_from (p x) (list_all p xs) (h 0 x (omega arith)) (all_from p xs (λ i d lt. h (suc i) d (omega arith)))

pub all_imply : {X : Type 0} (p q : X → Bool) (xs : List X) → ((x : X) → p x ≡ true → q x ≡ true) → list_all p xs ≡ true → list_all q xs ≡ true
all_imply p q [] h e = refl
all_imply p q (x ∷ xs) h e = let t = and_parts (p x) (list_all p xs) e in and_from (q x) (list_all q xs) (h x t.0) (all_imply p q xs h t.1)

pub any_none : {X : Type 0} (p : X → Bool) (xs : List X) → ((i : ℕ) (d : X) → i < length xs → p (get_or xs i d) ≡ false) → list_any p xs ≡ false
any_none p [] h = refl
any_none p (x ∷ xs) h = rw (h 0 x (omega arith)) (any_none p xs (λ i d lt. h (suc i) d (omega arith)))

-- where no other element passes, one decides
pub any_only : {X : Type 0} (p : X → Bool) (xs : List X) (i : ℕ) (d : X) → i < length xs → ((k : ℕ) (e : X) → k < length xs → k ≢ i → p (get_or xs k e) ≡ false) → p (get_or xs i d) ≡ list_any p xs
any_only {X} p xs i d lt others =
    by_cases (p (get_or xs i d)) (λ e. e ∙ sym (list_any_at p xs i d lt e)) (λ e.
    let none : (k : ℕ) (f : X) → k < length xs → p (get_or xs k f) ≡ false = λ k f at. elim (cases_eq k i) [
      | inl same ↦ ap (λ (n : ℕ). p (get_or xs n f)) same ∙ ap p (get_or_default xs i f d lt) ∙ e
      | inr differ ↦ others k f at differ
    ] in
    e ∙ sym (any_none p xs none))

-- an element of a list with one more behind it: the last, or one before
pub push_parts : {X : Type 0} (xs : List X) (y : X) (before : List X) (x : X) (after : List X) → xs ++ y ∷ [] ≡ before ++ x ∷ after → ((xs ≡ before) × (y ≡ x)) ⊎ ((rest : List X) × (xs ≡ before ++ x ∷ rest))
push_parts [] y [] x after e = inl (refl, cc)
push_parts [] y (b ∷ []) x after e = absurd cc
push_parts [] y (b ∷ c ∷ before) x after e = absurd cc
push_parts (z ∷ xs) y [] x after e = let same : z ≡ x = cc in inr (xs, rw same refl)
push_parts (z ∷ xs) y (b ∷ before) x after e =
    let same : z ≡ b = cc in
    let tails : xs ++ y ∷ [] ≡ before ++ x ∷ after = cc in
    elim (push_parts xs y before x after tails) [
      | inl t ↦ inl (rw (same, t.0) refl, t.1)
      | inr t ↦ inr (t.0, rw (same, t.1) refl)
    ]
