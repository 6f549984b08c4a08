-- Numbers that ascend, and parts of runs.
use Rattle.std.proofs.Common.{◌≡◌, ℕ, zero, suc, ◌+◌, ◌<◌, ◌≤◌, true, false, List, [], ◌∷◌, ◌++◌, length, get_or, Option, Some, None, refl, sym, ap, ◌∙◌, arith}
use Rattle.std.specs.Prelude.{find, nat_le, nat_lt, ◌==◌}
use Rattle.std.specs.List.{slice_get}
use Rattle.std.specs.List.Sorted.{IsNonDecreasingBy, IsPartitionPoint}
use Rattle.std.proofs.lemmas.Bool.{and_parts, true≢false, leb-true, leb-false, le-leb, ltb-true, ltb-false}
use Rattle.std.proofs.lemmas.Bool.Decides.{nat_tests}
use Rattle.std.proofs.lemmas.List.{append_assoc}
use Rattle.psb_bytes.specs.declared.ids.Object.TheVariants.{Slot}
use Rattle.psb_model.specs.Words.{listed, slots}
use Rattle.psb_model.specs.Grammar.{ascend}
use Rattle.psb_model.proofs.ByObject.{by_cases}
use Rattle.slot_runs.specs.Runs.{count_up}
use Rattle.slot_runs.proofs.Runs.{found_passes}

-- NUMBERS THAT ASCEND

above_all : (a : ℕ) (ns : List ℕ) (n : ℕ) → ascend (a ∷ ns) ≡ true → n ≤ a → listed (slots ns) (Slot n) ≡ false
above_all a [] n up le = refl
above_all a (x ∷ xs) n up le =
    let h = and_parts (nat_lt a x) (ascend (x ∷ xs)) up in
    let lt = ltb-true a x h.0 in
    rw (apart x n (omega (arith, lt, le))) (above_all x xs n h.1 (omega (arith, lt, le)))
  where
    apart : (x n : ℕ) → n < x → (x == n) ≡ false
    apart x n h = grind (arith, nat_tests)

behind_first : (a : ℕ) (ns : List ℕ) → ascend (a ∷ ns) ≡ true → ascend ns ≡ true
behind_first a [] up = refl
behind_first a (x ∷ xs) up = (and_parts (nat_lt a x) (ascend (x ∷ xs)) up).1

not_after : (a : ℕ) (ns : List ℕ) (j d : ℕ) → ascend (a ∷ ns) ≡ true → j < length ns → a ≤ get_or ns j d
not_after a [] j d up lt = absurd (omega (arith, lt))
not_after a (x ∷ xs) zero d up lt = omega (arith, ltb-true a x (and_parts (nat_lt a x) (ascend (x ∷ xs)) up).0)
not_after a (x ∷ xs) (suc j) d up lt = let h = and_parts (nat_lt a x) (ascend (x ∷ xs)) up in omega (arith, ltb-true a x h.0, not_after x xs j d h.1 (omega (arith, lt)))

pub ascending : (ns : List ℕ) → ascend ns ≡ true → IsNonDecreasingBy (λ n. n) ns
ascending [] up = λ i j d le lt. absurd (omega (arith, lt))
ascending (x ∷ xs) up = step (ascending xs (behind_first x xs up))
  where
    step : IsNonDecreasingBy (λ n. n) xs → (i j : ℕ) (d : ℕ) → i ≤ j → j < length (x ∷ xs) → get_or (x ∷ xs) i d ≤ get_or (x ∷ xs) j d
    step later zero zero d le lt = omega arith
    step later zero (suc j) d le lt = not_after x xs j d up (omega (arith, lt))
    step later (suc i) zero d le lt = absurd (omega (arith, le))
    step later (suc i) (suc j) d le lt = later i j d (omega (arith, le)) (omega (arith, lt))

-- where the numbers that are below one end, the first of the others stands
pub found_at : (ns : List ℕ) (f i : ℕ) → IsPartitionPoint (λ n. nat_lt n f ≡ true) (λ n. nat_lt n f ≡ false) ns i → slice_get ns i ≡ find (λ n. nat_le f n) ns
found_at [] f i point = refl
found_at (x ∷ xs) f zero point = let here : nat_le f x ≡ true = le-leb f x (ltb-false x f (point.1 0 x (omega arith) (omega arith))) in rw here refl
found_at (x ∷ xs) f (suc i) point =
    let below : nat_le f x ≡ false = not_le f x (ltb-true x f (point.0 0 x (omega arith) (omega arith))) in
    rw below (found_at xs f i (λ k d lo hi. point.0 (suc k) d (omega arith) (omega (arith, hi)), λ k d lo hi. point.1 (suc k) d (omega (arith, lo)) (omega (arith, hi))))
  where
    not_le : (f x : ℕ) → x < f → nat_le f x ≡ false
    not_le f x h = grind (arith, nat_tests)

-- in front of the first that is not below a number, there is none
pub none_listed : (ns : List ℕ) (f n : ℕ) (o : Option ℕ) → ascend ns ≡ true → o ≡ find (λ m. nat_le f m) ns → f ≤ n → ((m : ℕ) → o ≡ Some m → n < m) → listed (slots ns) (Slot n) ≡ false
none_listed [] f n o up is le before = refl
none_listed (x ∷ xs) f n o up is le before =
    by_cases (nat_le f x)
    (λ k.
    let is' : o ≡ Some x = rw k at is in
    let lt = before x is' in
    rw (apart x n (omega (arith, lt))) (above_all x xs n up (omega (arith, lt))))
    (λ k.
    let is' : o ≡ find (λ m. nat_le f m) xs = rw k at is in
    rw (apart' x n (omega (arith, leb-false f x k, le))) (none_listed xs f n o (behind_first x xs up) is' le before))
  where
    apart : (x n : ℕ) → n < x → (x == n) ≡ false
    apart x n h = grind (arith, nat_tests)

    apart' : (x n : ℕ) → x < n → (x == n) ≡ false
    apart' x n h = grind (arith, nat_tests)

one_listed : (ns : List ℕ) (f m : ℕ) → Some m ≡ find (λ m. nat_le f m) ns → listed (slots ns) (Slot m) ≡ true
one_listed [] f m is = absurd (cc)
one_listed (x ∷ xs) f m is =
    by_cases (x == m)
    (λ j. rw j refl)
    (λ j.
    by_cases (nat_le f x)
    (λ k. let is' : Some m ≡ Some x = rw k at is in let e : x ≡ m = cc in absurd (true≢false (sym (here x m e) ∙ j)))
    (λ k. let is' = rw k at is in rw j (one_listed xs f m is')))
  where
    here : (x m : ℕ) → x ≡ m → (x == m) ≡ true
    here x m e = grind (arith, nat_tests)

pub found_from : (ns : List ℕ) (f m : ℕ) → Some m ≡ find (λ m. nat_le f m) ns → f ≤ m
found_from ns f m is = leb-true f m (found_passes (λ m. nat_le f m) ns m (sym is))

pub first_listed : (ns : List ℕ) (f n m : ℕ) → Some m ≡ find (λ m. nat_le f m) ns → n ≡ m → listed (slots ns) (Slot n) ≡ true
first_listed ns f n m is same = ap (λ i. listed (slots ns) (Slot i)) same ∙ one_listed ns f m is

pub none_up_to : (ns : List ℕ) (f n m : ℕ) → ascend ns ≡ true → Some m ≡ find (λ m. nat_le f m) ns → f ≤ n → n < m → listed (slots ns) (Slot n) ≡ false
none_up_to ns f n m up is le lt = none_listed ns f n (Some m) up is le (λ k e. let same : m ≡ k = cc in omega (arith, same, lt))

pub none_after : (ns : List ℕ) (f n : ℕ) → ascend ns ≡ true → None ≡ find (λ m. nat_le f m) ns → f ≤ n → listed (slots ns) (Slot n) ≡ false
none_after ns f n up is le = none_listed ns f n None up is le (λ k e. absurd (cc))

-- NUMBERS IN A ROW

pub count_more : (f n : ℕ) → count_up f (n + 1) ≡ count_up f n ++ (f + n) ∷ []
count_more f zero = let same : f ≡ f + 0 = omega arith in ap (λ i. i ∷ []) same
count_more f (suc n) =
    let same : f + 1 + n ≡ f + suc n = omega arith in
    let more : suc n + 1 ≡ suc (n + 1) = omega arith in
    ap (count_up f) more ∙ ap (λ l. f ∷ l) (count_more (f + 1) n ∙ ap (λ i. count_up (f + 1) n ++ i ∷ []) same)

pub pushed_one : (a b c : List ℕ) (f n m : ℕ) → b ≡ a ++ count_up f n → c ≡ b ++ m ∷ [] → m ≡ f + n → c ≡ a ++ count_up f (n + 1)
pushed_one a b c f n m before now is =
    now ∙ (λ j. before j ++ is j ∷ []) ∙ append_assoc a (count_up f n) ((f + n) ∷ []) ∙ ap (λ l. a ++ l) (sym (count_more f n))
