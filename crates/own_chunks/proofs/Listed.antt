-- Lists of names and of numbers that ascend, pair by pair.
use Rattle.std.proofs.Common.{◌≡◌, ℕ, zero, suc, ◌+◌, ◌-◌, ◌<◌, ◌≤◌, Bool, true, false, ◌&&◌, List, [], ◌∷◌, length, drop, get_or, refl, sym, ap, ◌∙◌, arith}
use Rattle.std.specs.Prelude.{nat_lt}
use Rattle.std.specs.Ordering.{nat_cmp, is_lt}
use Rattle.std.specs.Cmp.Lexicographic.{slice_cmp}
use Rattle.psb_model.specs.Grammar.{ascend}
use Rattle.psb_model.specs.Conditions.{names_ascend}

-- PAIR BY PAIR

-- each is in that relation to the next
abbrev pub pairs : {A : Type 0} → (A → A → Bool) → List A → Bool
pairs lt [] = true
pairs lt (x ∷ []) = true
pairs lt (x ∷ y ∷ ys) = lt x y && pairs lt (y ∷ ys)

abbrev pub name_lt : List ℕ → List ℕ → Bool
name_lt x y = is_lt (slice_cmp nat_cmp x y)

pub names_pairs : (names : List (List ℕ)) → pairs name_lt names ≡ names_ascend names
names_pairs [] = refl
names_pairs (x ∷ []) = refl
names_pairs (x ∷ y ∷ ys) = ap (λ b. name_lt x y && b) (names_pairs (y ∷ ys))

pub number_pairs : (ns : List ℕ) → pairs nat_lt ns ≡ ascend ns
number_pairs [] = refl
number_pairs (x ∷ []) = refl
number_pairs (x ∷ y ∷ ys) = ap (λ b. nat_lt x y && b) (number_pairs (y ∷ ys))

-- the pairs before place j were in order, so the list is where the rest is
abbrev pub IsOrderedTo : {A : Type 0} → (A → A → Bool) → List A → ℕ → Type 0
IsOrderedTo lt xs j = pairs lt xs ≡ pairs lt (drop (j - 1) xs)

finish : {A : Type 0} (lt : A → A → Bool) (xs : List A) (k : ℕ) → length xs ≤ suc k → pairs lt (drop k xs) ≡ true
finish lt [] zero within = refl
finish lt [] (suc k) within = refl
finish lt (a ∷ []) zero within = refl
finish lt (a ∷ b ∷ xs) zero within = absurd (omega (arith, within))
finish lt (a ∷ xs) (suc k) within = finish lt xs k (omega (arith, within))

pub ordered_all : {A : Type 0} (lt : A → A → Bool) (xs : List A) (j : ℕ) → length xs ≤ j → IsOrderedTo lt xs j → true ≡ pairs lt xs
ordered_all lt xs j past before = sym (before ∙ finish lt xs (j - 1) (omega arith))

-- one pair more
ascend_from : {A : Type 0} (lt : A → A → Bool) (xs : List A) (k : ℕ) (d e : A) → k + 1 < length xs → pairs lt (drop k xs) ≡ (lt (get_or xs k d) (get_or xs (k + 1) e) && pairs lt (drop (k + 1) xs))
ascend_from lt [] k d e within = absurd (omega (arith, within))
ascend_from lt (a ∷ []) k d e within = absurd (omega (arith, within))
ascend_from lt (a ∷ b ∷ xs) zero d e within = refl
ascend_from lt (a ∷ b ∷ xs) (suc k) d e within =
    let more : suc k + 1 ≡ suc (k + 1) = omega arith in
    rw more (ascend_from lt (b ∷ xs) k d e (omega (arith, within)))

-- the pair at a place: the first is below the second, and the pairs are in order one further, or it is not
pub pair_tested : {A : Type 0} (lt : A → A → Bool) (xs : List A) (i : ℕ) (d e : A) (b : Bool) → 1 ≤ i → i < length xs → b ≡ lt (get_or xs (i - 1) d) (get_or xs i e) → IsOrderedTo lt xs i → (b ≡ false → false ≡ pairs lt xs) × (b ≡ true → IsOrderedTo lt xs (i + 1))
pair_tested lt xs i d e b some within is before =
    let here : i - 1 + 1 ≡ i = omega arith in
    let back : i + 1 - 1 ≡ i = omega arith in
    let step = ascend_from lt xs (i - 1) d e (omega arith) in
    let step' = rw here at step in
    let whole : pairs lt xs ≡ (b && pairs lt (drop i xs)) = before ∙ step' ∙ ap (λ t. t && pairs lt (drop i xs)) (sym is) in
    (λ k. sym (whole ∙ rw k refl), λ k. whole ∙ rw (k, back) refl)
