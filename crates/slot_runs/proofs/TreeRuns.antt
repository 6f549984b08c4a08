-- The runs of a tree, in the order of their last numbers.
use Rattle.std.proofs.Common.{◌≡◌, ℕ, ◌+◌, ◌<◌, ◌≤◌, Bool, true, false, List, [], ◌∷◌, map, Option, Some, None, refl, sym, ◌∙◌, arith}
use Rattle.std.specs.Prelude.{find, nat_le, ◌&&◌, if◌then◌else◌}
use Rattle.std.specs.List.{list_all, AllByRecursion}
use Rattle.std.specs.List.Sorted.{IsStrictlySortedBy}
use Rattle.std.specs.declared.cmp.Ordering.TheVariants.{Less}
use Rattle.std.specs.declared.ops.Bound.TheVariants.{Included, Unbounded}
use Rattle.std.specs.BTreeMap.Range.{entries_between}
use Rattle.std.specs.Ordering.{nat_cmp, is_le}
use Rattle.std.proofs.lemmas.Bool.{and_parts, leb-true}
use Rattle.std.proofs.lemmas.Bool.Decides.{nat_tests}
use Rattle.psb_model.proofs.ByObject.{by_cases}
use Rattle.slot_runs.specs.declared.run.Run.{Run}
use Rattle.slot_runs.specs.declared.run_tree.Stretch.{Stretch}
use Rattle.slot_runs.specs.Runs.{covers, times}
use Rattle.slot_runs.specs.SlotRuns.{run_of}

le_test : (a b : ℕ) → is_le (nat_cmp a b) ≡ nat_le a b
le_test a b = grind (arith, nat_tests)

pub less_is : (a b : ℕ) → nat_cmp a b ≡ Less → a < b
less_is a b h = grind (arith, nat_tests)

far : (f l n top : ℕ) → (nat_le f top && nat_le top l) ≡ false → n ≤ top → top < l → (nat_le f n && nat_le n l) ≡ false
far f l n top h le lt = grind (arith, nat_tests)

abbrev pub first_run : {R : Type 0} → List (ℕ × Stretch R) → Option (Run R)
first_run [] = None
first_run (e ∷ es) = Some (run_of e)

and_true : (b : Bool) → (b && true) ≡ b
and_true true = refl
and_true false = refl

pub find_between : {R : Type 0} (n : ℕ) (es : List (ℕ × Stretch R)) → first_run (entries_between nat_cmp (Included n) Unbounded es) ≡ find (λ (r : Run R). nat_le n r.last) (map run_of es)
find_between n [] = refl
find_between n (e ∷ es) =
    let same = and_true (is_le (nat_cmp n e.0)) ∙ le_test n e.0 in
    by_cases (nat_le n e.0) (λ k. rw (same ∙ k, k) refl) (λ k. rw (same ∙ k, k) (find_between n es))

-- behind a run that ends at a place or behind it, none has the place
pub none_there : {R : Type 0} (es : List (ℕ × Stretch R)) (top n : ℕ) → AllByRecursion (λ y. nat_cmp top y ≡ Less) (map (λ (e : ℕ × Stretch R). e.0) es) → times (map run_of es) top ≡ 0 → n ≤ top → find (λ (r : Run R). covers r n) (map run_of es) ≡ None
none_there [] top n above none le = refl
none_there (e ∷ es) top n above none le =
    by_cases (covers (run_of e) top)
    (λ k. let none' = rw k at none in absurd (omega (arith, none')))
    (λ k.
    let none' = rw k at none in
    let away : covers (run_of e) n ≡ false = far e.1.first e.0 n top k le (less_is top e.0 above.0) in
    rw away (none_there es top n above.1 (omega (arith, none')) le))

abbrev pub only_if : {A : Type 0} → (A → Bool) → Option A → Option A
only_if test None = None
only_if test (Some x) = if test x then Some x else None

-- the run that has a number is the first that ends at it or behind it
pub found_in_tree : {R : Type 0} (n : ℕ) (es : List (ℕ × Stretch R)) → IsStrictlySortedBy nat_cmp (map (λ (e : ℕ × Stretch R). e.0) es) → ((m : ℕ) → times (map run_of es) m ≤ 1) → list_all (λ (r : Run R). nat_le r.first r.last) (map run_of es) ≡ true → only_if (λ (r : Run R). covers r n) (find (λ (r : Run R). nat_le n r.last) (map run_of es)) ≡ find (λ (r : Run R). covers r n) (map run_of es)
unfolding IsStrictlySortedBy
found_in_tree n [] sorted few full = refl
found_in_tree n (e ∷ es) sorted few full =
    let a = and_parts (nat_le e.1.first e.0) (list_all (λ (r : Run _). nat_le r.first r.last) (map run_of es)) full in
    by_cases (nat_le n e.0)
    (λ k. by_cases (nat_le e.1.first n)
    (λ j. rw (k, j, k) refl)
    (λ j.
    let here : covers (run_of e) e.0 ≡ true = last_in e.1.first e.0 a.0 in
    let few' : 1 + times (map run_of es) e.0 ≤ 1 = rw here at (few e.0) in
    rw (k, j) (sym (none_there es e.0 n sorted.0 (omega (arith, few')) (leb-true n e.0 k)))))
    (λ k.
    let away : covers (run_of e) n ≡ false = behind_last e.1.first e.0 n k in
    rw (away, k) (found_in_tree n es sorted.1 (λ m. omega (arith, few m)) a.1))
  where
    last_in : (f l : ℕ) → nat_le f l ≡ true → (nat_le f l && nat_le l l) ≡ true
    last_in f l h = grind (arith, nat_tests)

    behind_last : (f l n : ℕ) → nat_le n l ≡ false → (nat_le f n && nat_le n l) ≡ false
    behind_last f l n h = grind (arith, nat_tests)
