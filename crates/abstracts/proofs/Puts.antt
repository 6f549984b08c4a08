-- Names put in their places, of which the first are kept.
use Rattle.std.proofs.Common.{◌≡◌, ℕ, zero, suc, ◌+◌, ◌≤◌, Bool, true, false, List, [], ◌∷◌, ◌++◌, length, map, take, get_or, ◌<◌, refl, sym, ◌∙◌, ap, arith}
use Rattle.std.specs.Prelude.{insert}
use Rattle.abstracts.specs.declared.least.Salted.{Salted}
use Rattle.std.proofs.lemmas.List.{take_more, map-append}
use Rattle.abstracts.specs.Least.{under_salt, comes_before, put_in, put_all, place_in}

pub by_test : {A : Type 0} (b : Bool) → (b ≡ true → A) → (b ≡ false → A) → A
by_test true f g = f refl
by_test false f g = g refl

-- it stands there or at the end
pub place_within : (x : Salted) (l : List Salted) → place_in x l ≤ length l
place_within x [] = omega arith
place_within x (y ∷ ys) = by_test (comes_before x y) (λ k. rw k (omega arith)) (λ k. rw k (omega (arith, place_within x ys)))

-- it is put at its place
pub put_there : (x : Salted) (l : List Salted) → put_in x l ≡ insert l (place_in x l) x
put_there x [] = refl
put_there x (y ∷ ys) = by_test (comes_before x y) (λ k. rw k refl) (λ k. rw k (ap (λ (r : List Salted). y ∷ r) (put_there x ys)))

-- one with all of k before it is left out
pub left_out : (k : ℕ) (x : Salted) (l : List Salted) → length l ≤ k → k ≤ place_in x l → take k (put_in x l) ≡ l
left_out zero x [] few far = refl
left_out (suc k) x [] few far = absurd (omega (arith, far))
left_out zero x (y ∷ ys) few far = absurd (omega (arith, few))
left_out (suc k) x (y ∷ ys) few far = by_test (comes_before x y)
    (λ b. let none : suc k ≤ 0 = rw b at far in absurd (omega (arith, none)))
    (λ b. let more : suc k ≤ suc (place_in x ys) = rw b at far in rw b (ap (λ (r : List Salted). y ∷ r) (left_out k x ys (omega (arith, few)) (omega (arith, more)))))

-- the first of the first
take_twice : (k : ℕ) (y : Salted) (l : List Salted) → take k (y ∷ take k l) ≡ take k (y ∷ l)
take_twice zero y l = refl
take_twice (suc k) y l = ap (λ (r : List Salted). y ∷ r) (shorter k l)
  where
    shorter : (k : ℕ) (l : List Salted) → take k (take (suc k) l) ≡ take k l
    shorter zero l = refl
    shorter (suc k) [] = refl
    shorter (suc k) (x ∷ xs) = ap (λ (r : List Salted). x ∷ r) (shorter k xs)

-- what is behind the first k is never among them
pub put_among : (k : ℕ) (x : Salted) (l : List Salted) → take k (put_in x (take k l)) ≡ take k (put_in x l)
put_among zero x l = refl
put_among (suc k) x [] = refl
put_among (suc k) x (y ∷ ys) = by_test (comes_before x y)
    (λ b. rw b (ap (λ (r : List Salted). x ∷ r) (take_twice k y ys)))
    (λ b. rw b (ap (λ (r : List Salted). y ∷ r) (put_among k x ys)))

-- one more
pub put_last : (l xs : List Salted) (x : Salted) → put_all l (xs ++ x ∷ []) ≡ put_in x (put_all l xs)
put_last l [] x = refl
put_last l (y ∷ ys) x = put_last (put_in y l) ys x

-- the names so far, and one more
pub put_next : (salt : List ℕ) (k : ℕ) (names : List (List ℕ)) (i : ℕ) (d : List ℕ) (l : List Salted) → i < length names → l ≡ take k (put_all [] (map (under_salt salt) (take i names)))
    → take k (put_in (under_salt salt (get_or names i d)) l) ≡ take k (put_all [] (map (under_salt salt) (take (i + 1) names)))
put_next salt k names i d l here is =
    let x = under_salt salt (get_or names i d) in
    let before = map (under_salt salt) (take i names) in
    let all : map (under_salt salt) (take (i + 1) names) ≡ before ++ x ∷ [] = ap (map (under_salt salt)) (take_more names i d here) ∙ map-append (under_salt salt) (take i names) (get_or names i d ∷ []) in
    ap (λ (m : List Salted). take k (put_in x m)) is ∙ put_among k x (put_all [] before) ∙ ap (take k) (sym (put_last [] before x)) ∙ ap (λ (m : List Salted). take k (put_all [] m)) (sym all)
