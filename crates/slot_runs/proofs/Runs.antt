-- Runs of slots: what they say of each number, as runs come and go.
use Rattle.std.proofs.Common.{◌≡◌, ℕ, ◌+◌, ◌^◌, ◌≤◌, Bool, true, List, [], ◌∷◌, ◌++◌, Option, Some, None, refl, sym, ap, ◌∙◌, arith}
use Rattle.std.specs.Prelude.{find, nat_le, nat_lt, if◌then◌else◌}
use Rattle.std.specs.List.{list_all}
use Rattle.std.proofs.lemmas.Bool.{and_parts}
use Rattle.psb_model.proofs.ByObject.{by_cases}
use Rattle.slot_runs.specs.declared.run.Run.{Run}
use Rattle.slot_runs.specs.Runs.{covers, times, rest_in, AreRuns, less_first}

-- the first, where it is there, else the second
abbrev pub either : {A : Type 0} → Option A → Option A → Option A
either (Some x) o = Some x
either None o = o

pub rest-append : {R : Type 0} (a b : List (Run R)) (n : ℕ) → rest_in (a ++ b) n ≡ either (rest_in a n) (rest_in b n)
rest-append [] b n = refl
rest-append (r ∷ rs) b n = by_cases (covers r n) (λ k. rw k refl) (λ k. rw k (rest-append rs b n))

pub times-append : {R : Type 0} (a b : List (Run R)) (n : ℕ) → times (a ++ b) n ≡ times a n + times b n
times-append [] b n = omega arith
times-append (r ∷ rs) b n = omega (arith, times-append rs b n)

-- A NUMBER THAT NO RUN HAS

pub none_times : {R : Type 0} (l : List (Run R)) (n : ℕ) → times l n ≡ 0 → rest_in l n ≡ None
none_times [] n h = refl
none_times (r ∷ rs) n h = by_cases (covers r n) (λ k. let h' = rw k at h in absurd (omega (arith, h'))) (λ k. let h' = rw k at h in rw k (none_times rs n (omega (arith, h'))))

pub times_none : {R : Type 0} (l : List (Run R)) (n : ℕ) → rest_in l n ≡ None → times l n ≡ 0
times_none [] n h = refl
times_none (r ∷ rs) n h =
    by_cases (covers r n)
    (λ k. let h' : Some r.rest ≡ None = rw k at h in absurd (cc))
    (λ k. let h' = rw k at h in rw k (omega (arith, times_none rs n h')))

-- A RUN THAT IS TAKEN OUT

pub found_passes : {A : Type 0} (p : A → Bool) (l : List A) (x : A) → find p l ≡ Some x → p x ≡ true
found_passes p [] x h = absurd (cc)
found_passes p (y ∷ ys) x h =
    by_cases (p y)
    (λ k. let h' : Some y ≡ Some x = rw k at h in let e : y ≡ x = cc in ap p (sym e) ∙ k)
    (λ k. let h' = rw k at h in found_passes p ys x h')

pub left_times : {R : Type 0} (l : List (Run R)) (n m : ℕ) (r : Run R) → find (λ (x : Run R). covers x n) l ≡ Some r → times (less_first (λ (x : Run R). covers x n) l) m + (if covers r m then 1 else 0) ≡ times l m
left_times [] n m r h = absurd (cc)
left_times (x ∷ xs) n m r h =
    by_cases (covers x n)
    (λ k. let h' : Some x ≡ Some r = rw k at h in let e : r ≡ x = cc in rw (k, e) (omega arith))
    (λ k. let h' = rw k at h in rw k (omega (arith, left_times xs n m r h')))

pub left_rest : {R : Type 0} (l : List (Run R)) (n m : ℕ) (r : Run R) → times l m ≤ 1 → find (λ (x : Run R). covers x n) l ≡ Some r → rest_in (less_first (λ (x : Run R). covers x n) l) m ≡ (if covers r m then None else rest_in l m)
left_rest [] n m r few h = absurd (cc)
left_rest (x ∷ xs) n m r few h =
    by_cases (covers x n)
    (λ k.
    let h' : Some x ≡ Some r = rw k at h in
    let e : r ≡ x = cc in
    by_cases (covers x m)
    (λ j. let few' = rw j at few in rw (k, e, j) (none_times xs m (omega (arith, few'))))
    (λ j. rw (k, e, j) refl))
    (λ k.
    let h' = rw k at h in
    let parts = left_times xs n m r h' in
    by_cases (covers x m)
    (λ j.
    let few' = rw j at few in
    by_cases (covers r m)
    (λ i. let parts' = rw i at parts in absurd (omega (arith, few', parts')))
    (λ i. rw (k, j, i) refl))
    (λ j. let few' = rw j at few in rw (k, j) (left_rest xs n m r (omega (arith, few')) h')))

pub left_full : {R : Type 0} (test p : R → Bool) (l : List R) → list_all p l ≡ true → list_all p (less_first test l) ≡ true
left_full test p [] h = refl
left_full test p (x ∷ xs) h =
    let a = and_parts (p x) (list_all p xs) h in
    by_cases (test x) (λ k. rw k a.1) (λ k. rw (k, a.0) (left_full test p xs a.1))

-- what all pass, the one that is found does
pub found_all : {A : Type 0} (test p : A → Bool) (l : List A) (x : A) → list_all p l ≡ true → find test l ≡ Some x → p x ≡ true
found_all test p [] x h f = absurd (cc)
found_all test p (y ∷ ys) x h f =
    let a = and_parts (p y) (list_all p ys) h in
    by_cases (test y)
    (λ k. let f' : Some y ≡ Some x = rw k at f in let e : y ≡ x = cc in ap p (sym e) ∙ a.0)
    (λ k. let f' = rw k at f in found_all test p ys x a.1 f')

-- what a found run says
pub found_rest : {R : Type 0} (l : List (Run R)) (n m : ℕ) (r : Run R) → times l m ≤ 1 → find (λ (x : Run R). covers x n) l ≡ Some r → covers r m ≡ true → rest_in l m ≡ Some r.rest
found_rest [] n m r few h c = absurd (cc)
found_rest (x ∷ xs) n m r few h c =
    by_cases (covers x n)
    (λ k. let h' : Some x ≡ Some r = rw k at h in let e : x ≡ r = cc in let c' : covers x m ≡ true = ap (λ y. covers y m) e ∙ c in rw c' (ap (λ (y : Run _). Some y.rest) e))
    (λ k.
    let h' = rw k at h in
    let parts = left_times xs n m r h' in
    let parts' = rw c at parts in
    by_cases (covers x m)
    (λ j. let few' = rw j at few in absurd (omega (arith, few', parts')))
    (λ j. let few' = rw j at few in rw j (found_rest xs n m r (omega (arith, few')) h' c)))

pub none_found : {A : Type 0} (test : A → Bool) (l : List A) → find test l ≡ None → less_first test l ≡ l
none_found test [] h = refl
none_found test (x ∷ xs) h = by_cases (test x) (λ k. let h' : Some x ≡ None = rw k at h in absurd (cc)) (λ k. let h' = rw k at h in rw k (ap (λ l. x ∷ l) (none_found test xs h')))

-- RUNS WITH ONE MORE

pub full-append : {A : Type 0} (p : A → Bool) (a b : List A) → list_all p a ≡ true → list_all p b ≡ true → list_all p (a ++ b) ≡ true
full-append p [] b h k = k
full-append p (x ∷ xs) b h k = let a = and_parts (p x) (list_all p xs) h in rw a.0 (full-append p xs b a.1 k)

pub full-parts : {A : Type 0} (p : A → Bool) (a b : List A) → list_all p (a ++ b) ≡ true → (list_all p a ≡ true) × (list_all p b ≡ true)
full-parts p [] b h = (refl, h)
full-parts p (x ∷ xs) b h =
    let a = and_parts (p x) (list_all p (xs ++ b)) h in
    let rest = full-parts p xs b a.1 in
    (rw a.0 rest.0, rest.1)

pub are_more : {R : Type 0} (l : List (Run R)) (r : Run R) → AreRuns l → nat_le r.first r.last ≡ true → nat_lt r.last (2 ^ 32) ≡ true → ((m : ℕ) → covers r m ≡ true → rest_in l m ≡ None) → AreRuns (l ++ r ∷ [])
are_more {R = R} l r are full small none = record {
  apart = λ m. each m (times-append l (r ∷ []) m) (are.apart m);
  full = full-append (λ (x : Run R). nat_le x.first x.last) l (r ∷ []) are.full (rw full refl);
  small = full-append (λ (x : Run R). nat_lt x.last (2 ^ 32)) l (r ∷ []) are.small (rw small refl);
}
  where
    each : (m : ℕ) → times (l ++ r ∷ []) m ≡ times l m + times (r ∷ []) m → times l m ≤ 1 → times (l ++ r ∷ []) m ≤ 1
    each m sum few =
        by_cases (covers r m)
        (λ k. let sum' = rw k at sum in omega (arith, sum', times_none l m (none m k)))
        (λ k. let sum' = rw k at sum in omega (arith, sum', few))

-- a slot by itself
abbrev pub single : {R : Type 0} → R → ℕ → Run R
single x n = record { first = n; last = n; rest = x }

-- part of runs are runs
pub front_runs : {R : Type 0} (a b : List (Run R)) → AreRuns (a ++ b) → AreRuns a
front_runs a b h = record { apart = λ n. omega (arith, h.apart n, times-append a b n); full = (full-parts _ a b h.full).0; small = (full-parts _ a b h.small).0 }
