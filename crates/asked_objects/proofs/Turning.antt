-- Lists that begin at a place and go on from the first behind the last.
use Rattle.std.proofs.Common.{◌≡◌, ◌≤◌, ◌<◌, ℕ, zero, suc, ◌+◌, ◌-◌, nat_lt, min, List, [], ◌∷◌, ◌++◌, length, take, drop, refl, sym, ap, ◌∙◌, length-append, length-drop, take-append-drop, arith}
use Rattle.std.specs.Prelude.{slice_get, if◌then◌else◌, option_to_list}
use Rattle.std.proofs.lemmas.Bool.{ltb-true, ltb-false}
use Rattle.std.proofs.lemmas.List.{take_all}
use Rattle.psb_model.proofs.ByObject.{by_cases}

pub get_left : {X : Type 0} (xs ys : List X) (n : ℕ) → n < length xs → slice_get (xs ++ ys) n ≡ slice_get xs n
get_left [] ys n h = absurd (omega (arith, h))
get_left (x ∷ xs) ys zero h = refl
get_left (x ∷ xs) ys (suc n) h = get_left xs ys n (omega (arith, h))

pub get_right : {X : Type 0} (xs ys : List X) (n : ℕ) → length xs ≤ n → slice_get (xs ++ ys) n ≡ slice_get ys (n - length xs)
get_right [] ys n h = ap (slice_get ys) (omega arith)
get_right (x ∷ xs) ys zero h = absurd (omega (arith, h))
get_right (x ∷ xs) ys (suc n) h = get_right xs ys n (omega (arith, h)) ∙ ap (slice_get ys) (omega arith)

get_drop : {X : Type 0} (k : ℕ) (xs : List X) (n : ℕ) → slice_get (drop k xs) n ≡ slice_get xs (k + n)
get_drop zero xs n = ap (slice_get xs) (omega arith)
get_drop (suc k) [] n = refl
get_drop (suc k) (x ∷ xs) n =
    let more : suc k + n ≡ suc (k + n) = omega arith in
    get_drop k xs n ∙ ap (slice_get (x ∷ xs)) (sym more)

get_take : {X : Type 0} (k : ℕ) (xs : List X) (n : ℕ) → n < k → slice_get (take k xs) n ≡ slice_get xs n
get_take zero xs n h = absurd (omega (arith, h))
get_take (suc k) [] n h = refl
get_take (suc k) (x ∷ xs) zero h = refl
get_take (suc k) (x ∷ xs) (suc n) h = get_take k xs n (omega (arith, h))

-- one element more, if there is one
pub take_one : {X : Type 0} (n : ℕ) (xs : List X) → take (n + 1) xs ≡ take n xs ++ option_to_list (slice_get xs n)
take_one {X = X} n [] = none (n + 1) ∙ ap (λ (l : List X). l ++ []) (sym (none n))
  where
    none : (m : ℕ) → take {A = X} m [] ≡ []
    none zero = refl
    none (suc m) = refl
take_one zero (x ∷ xs) = refl
take_one (suc n) (x ∷ xs) =
    let more : suc n + 1 ≡ suc (n + 1) = omega arith in
    ap (λ m. take m (x ∷ xs)) more ∙ ap (λ l. x ∷ l) (take_one n xs)

-- a number that may be one turn too far
abbrev pub wrapped : ℕ → ℕ → ℕ
wrapped place count = if nat_lt place count then place else place - count

pub get_turned : {X : Type 0} (os : List X) (k n : ℕ) → k < length os → n < length os → slice_get (drop k os ++ take k os) n ≡ slice_get os (wrapped (k + n) (length os))
get_turned os k n few less =
    by_cases (nat_lt (k + n) (length os))
    (λ b. rw b (get_left (drop k os) (take k os) n (omega (arith, length-drop k os, ltb-true (k + n) (length os) b)) ∙ get_drop k os n))
    (λ b.
    let past = ltb-false (k + n) (length os) b in
    let long : length (drop k os) ≡ length os - k = length-drop k os in
    rw b
    (get_right (drop k os) (take k os) n (omega (arith, long, past))
    ∙ ap (slice_get (take k os)) (omega (arith, long, past, few))
    ∙ get_take k os (k + n - length os) (omega (arith, past, less, few))))

-- no more than there are
pub take_few : {X : Type 0} (most n k : ℕ) (os : List X) → n ≡ length os → take (min n most) (drop k os ++ take k os) ≡ take most (drop k os ++ take k os)
take_few most n k os is =
    let l = drop k os ++ take k os in
    let long : length l ≡ n = omega (arith, is, length-append (drop k os) (take k os), length-append (take k os) (drop k os), ap length (take-append-drop k os)) in
    by_cases (nat_lt n most)
    (λ b.
    let less = ltb-true n most b in
    ap (λ m. take m l) (omega (arith, less)) ∙ take_all n l (omega (arith, long)) ∙ sym (take_all most l (omega (arith, long, less))))
    (λ b. ap (λ m. take m l) (omega (arith, ltb-false n most b)))
