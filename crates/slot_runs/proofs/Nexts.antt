-- The first slot from a number on.
use Rattle.std.proofs.Common.{subst, zero, suc, length, take, drop, get_or, append-nil, ◌≡◌, ℕ, ◌+◌, ◌<◌, ◌≤◌, Bool, true, false, List, [], ◌∷◌, ◌++◌, map, Option, Some, None, refl, sym, ap, ◌∙◌, arith}
use Rattle.std.specs.Prelude.{find, nat_le, nat_lt, ◌&&◌, option_map, max}
use Rattle.std.specs.List.{list_all, AllByRecursion}
use Rattle.std.specs.List.Sorted.{IsStrictlySortedBy}
use Rattle.std.specs.declared.cmp.Ordering.TheVariants.{Less}
use Rattle.std.specs.Ordering.{nat_cmp}
use Rattle.std.proofs.lemmas.Bool.{and_parts, leb-true, leb-false, le-leb, ltb-true, ltb-false}
use Rattle.std.proofs.lemmas.Bool.Decides.{nat_tests}
use Rattle.std.specs.BTreeMap.{IsOrdered}
use Rattle.std.proofs.lemmas.List.{take_more, take_all, append_assoc, take-append-drop}
use Rattle.psb_model.proofs.ByObject.{by_cases}
use Rattle.slot_runs.specs.declared.run.Run.{Run}
use Rattle.slot_runs.specs.declared.run_tree.Stretch.{Stretch}
use Rattle.slot_runs.specs.Runs.{covers, times, rest_in, AreRuns, from_number, nearer, HasRun, IsNext}
use Rattle.slot_runs.specs.declared.run_tree.SlotRuns.{SlotRuns}
use Rattle.slot_runs.specs.SlotRuns.{run_of, tree_runs, runs}
use Rattle.slot_runs.proofs.Runs.{either, rest-append, times-append, none_times, front_runs, full-parts}
use Rattle.slot_runs.proofs.TreeRuns.{none_there}

not_in : (f l n : ℕ) → l < n → (nat_le f n && nat_le n l) ≡ false
not_in f l n h = grind (arith, nat_tests)

before_first : (f l n : ℕ) → n < f → (nat_le f n && nat_le n l) ≡ false
before_first f l n h = grind (arith, nat_tests)

within : (f l m : ℕ) → f ≤ m → m ≤ l → (nat_le f m && nat_le m l) ≡ true
within f l m h k = grind (arith, nat_tests)

in_run : (f l n m : ℕ) → m ≡ max f n → nat_le f l ≡ true → nat_le n l ≡ true → (nat_le f m && nat_le m l) ≡ true
in_run f l n m e h k = grind (arith, nat_tests)

-- behind the top none says anything of what is not above it
none_said : {R : Type 0} (es : List (ℕ × Stretch R)) (top n : ℕ) → AllByRecursion (λ y. nat_cmp top y ≡ Less) (map (λ (e : ℕ × Stretch R). e.0) es) → times (map run_of es) top ≡ 0 → n ≤ top → rest_in (map run_of es) n ≡ None
none_said {R = R} es top n above none le = ap (option_map (λ (r : Run R). r.rest)) (none_there es top n above none le)

-- in the tree
pub next_of_tree : {R : Type 0} (n : ℕ) (es : List (ℕ × Stretch R)) → IsStrictlySortedBy nat_cmp (map (λ (e : ℕ × Stretch R). e.0) es) → ((m : ℕ) → times (map run_of es) m ≤ 1) → list_all (λ (r : Run R). nat_le r.first r.last) (map run_of es) ≡ true → IsNext (map run_of es) n (from_number n (find (λ (r : Run R). nat_le n r.last) (map run_of es)))
unfolding IsStrictlySortedBy
next_of_tree n [] sorted few full = λ m h. refl
next_of_tree {R = R} n (e ∷ es) sorted few full =
    let a = and_parts (nat_le e.1.first e.0) (list_all (λ (r : Run R). nat_le r.first r.last) (map run_of es)) full in
    by_cases (nat_le n e.0)
    (λ k.
    let here : covers (run_of e) e.0 ≡ true = in_run e.1.first e.0 e.0 e.0 (top e.1.first e.0 a.0) a.0 (le-leb e.0 e.0 (omega arith)) in
    let few' : 1 + times (map run_of es) e.0 ≤ 1 = rw here at (few e.0) in
    rw (k, k) (
      omega arith,
      omega (arith, leb-true e.1.first e.0 a.0, leb-true n e.0 k),
      record { all = λ m from to. let there : covers (run_of e) m ≡ true = within e.1.first e.0 m (omega (arith, from)) to in rw there refl },
      record {
        none = λ m from to.
            let away : covers (run_of e) m ≡ false = before_first e.1.first e.0 m (omega (arith, to, from)) in
            rw away (none_said es e.0 m sorted.0 (omega (arith, few')) (omega (arith, to, from, leb-true n e.0 k, leb-true e.1.first e.0 a.0)));
      },
    ))
    (λ k.
    let behind : (m : ℕ) → n ≤ m → covers (run_of e) m ≡ false = λ m le. not_in e.1.first e.0 m (omega (arith, leb-false n e.0 k, le)) in
    rw k (later (run_of e) (map run_of es) n behind (from_number n (find (λ (r : Run R). nat_le n r.last) (map run_of es))) (next_of_tree n es sorted.1 (λ m. omega (arith, few m)) a.1)))
  where
    top : (f l : ℕ) → nat_le f l ≡ true → l ≡ max f l
    top f l h = grind (arith, nat_tests)

    later : {R : Type 0} (r : Run R) (rs : List (Run R)) (n : ℕ) → ((m : ℕ) → n ≤ m → covers r m ≡ false) → (o : Option (Run R)) → IsNext rs n o → IsNext (r ∷ rs) n o
    later r rs n out None h = λ m le. rw (out m le) (h m le)
    later r rs n out (Some x) h = (h.0, h.1, record { all = λ m from to. rw (out m (omega (arith, h.0, from))) (h.2.all m from to) }, record { none = λ m from to. rw (out m from) (h.3.none m from to) })

-- with one run more
pub next_more : {R : Type 0} (l : List (Run R)) (r : Run R) (n : ℕ) (o : Option (Run R)) → nat_le r.first r.last ≡ true → ((m : ℕ) → times (l ++ r ∷ []) m ≤ 1) → IsNext l n o → IsNext (l ++ r ∷ []) n (nearer o (from_number n (Some r)))
next_more {R = R} l r n o full few h =
    by_cases (nat_le n r.last)
    (λ k. rw k (comes o h k))
    (λ k. rw k (stays o h (λ m le. not_in r.first r.last m (omega (arith, leb-false n r.last k, le)))))
  where
    none : (m : ℕ) → rest_in l m ≡ None → covers r m ≡ false → rest_in (l ++ r ∷ []) m ≡ None
    none m a b = rest-append l (r ∷ []) m ∙ ap (λ x. either x (rest_in (r ∷ []) m)) a ∙ rw b refl

    some : (m : ℕ) (x : R) → rest_in l m ≡ Some x → rest_in (l ++ r ∷ []) m ≡ Some x
    some m x a = rest-append l (r ∷ []) m ∙ ap (λ y. either y (rest_in (r ∷ []) m)) a

    new : (m : ℕ) → rest_in l m ≡ None → covers r m ≡ true → rest_in (l ++ r ∷ []) m ≡ Some r.rest
    new m a b = rest-append l (r ∷ []) m ∙ ap (λ y. either y (rest_in (r ∷ []) m)) a ∙ rw b refl

    own : (m : ℕ) → covers r m ≡ true → rest_in (l ++ r ∷ []) m ≡ Some r.rest
    own m b = let one : times (r ∷ []) m ≡ 1 = rw b refl in new m (none_times l m (omega (arith, one, few m, times-append l (r ∷ []) m))) b

    all_own : n ≤ max r.first n → HasRun (l ++ r ∷ []) (record r { first = max r.first n })
    all_own le = record { all = λ m from to. own m (within r.first r.last m (omega (arith, from)) to) }

    still : (x : Run R) → HasRun l x → HasRun (l ++ r ∷ []) x
    still x h = record { all = λ m from to. some m x.rest (h.all m from to) }

    fits : nat_le n r.last ≡ true → max r.first n ≤ r.last
    fits k = omega (arith, leb-true r.first r.last full, leb-true n r.last k)

    stays : (o : Option (Run R)) → IsNext l n o → ((m : ℕ) → n ≤ m → covers r m ≡ false) → IsNext (l ++ r ∷ []) n (nearer o None)
    stays None h out = λ m le. none m (h m le) (out m le)
    stays (Some x) h out = (h.0, h.1, still x h.2, record { none = λ m from to. none m (h.3.none m from to) (out m from) })

    out : (m : ℕ) → n ≤ m → m < max r.first n → covers r m ≡ false
    out m from to = before_first r.first r.last m (omega (arith, to, from))

    comes : (o : Option (Run R)) → IsNext l n o → nat_le n r.last ≡ true → IsNext (l ++ r ∷ []) n (nearer o (Some (record r { first = max r.first n })))
    comes None h k = (omega arith, fits k, all_own (omega arith), record { none = λ m from to. none m (h m from) (out m from to) })
    comes (Some x) h k =
        by_cases (nat_lt (max r.first n) x.first)
        (λ j.
        let lt = ltb-true (max r.first n) x.first j in
        rw j (omega arith, fits k, all_own (omega arith), record { none = λ m from to. none m (h.3.none m from (omega (arith, to, lt))) (out m from to) }))
        (λ j.
        let le = ltb-false (max r.first n) x.first j in
        rw j (h.0, h.1, still x h.2, record { none = λ m from to. none m (h.3.none m from to) (out m from (omega (arith, to, le))) }))

pub all_at : {A : Type 0} (p : A → Bool) (l : List A) (i : ℕ) (d : A) → list_all p l ≡ true → i < length l → p (get_or l i d) ≡ true
all_at p [] i d h lt = absurd (omega (arith, lt))
all_at p (x ∷ xs) zero d h lt = (and_parts (p x) (list_all p xs) h).0
all_at p (x ∷ xs) (suc i) d h lt = all_at p xs i d (and_parts (p x) (list_all p xs) h).1 (omega (arith, lt))

-- a walk over the runs beside the tree
pub walk_begins : {R : Type 0} (s : SlotRuns R) (items : List (Run R)) (n : ℕ) (o : Option (Run R)) → AreRuns (runs s) → IsOrdered nat_cmp s.tree → o ≡ from_number n (find (λ (r : Run R). nat_le n r.last) (tree_runs s)) → IsNext (tree_runs s ++ take 0 items) n o
walk_begins {R = R} s items n o are ordered is =
    let front = front_runs (tree_runs s) s.latest.items are in
    subst (λ (l : List (Run R)). IsNext l n o) (sym (append-nil (tree_runs s))) (subst (IsNext (tree_runs s) n) (sym is) (next_of_tree n s.tree.entries ordered front.apart front.full))

pub walk_goes_on : {R : Type 0} (s : SlotRuns R) (items : List (Run R)) (n i : ℕ) (o o' : Option (Run R)) (r : Run R) → AreRuns (runs s) → items ≡ s.latest.items → i < length items → r ≡ get_or items i r → IsNext (tree_runs s ++ take i items) n o → o' ≡ nearer o (from_number n (Some r)) → IsNext (tree_runs s ++ take (i + 1) items) n o'
walk_goes_on {R = R} s items n i o o' r are same lt at h is =
    let full = (full-parts (λ (x : Run R). nat_le x.first x.last) (tree_runs s) s.latest.items are.full).1 in
    let full' : list_all (λ (x : Run R). nat_le x.first x.last) items ≡ true = ap (list_all (λ (x : Run R). nat_le x.first x.last)) same ∙ full in
    let here : nat_le r.first r.last ≡ true = ap (λ (x : Run R). nat_le x.first x.last) at ∙ all_at (λ (x : Run R). nat_le x.first x.last) items i r full' lt in
    let more : tree_runs s ++ take (i + 1) items ≡ (tree_runs s ++ take i items) ++ r ∷ [] = ap (λ l. tree_runs s ++ l) (take_more items i r lt ∙ ap (λ x. take i items ++ x ∷ []) (sym at)) ∙ sym (append_assoc (tree_runs s) (take i items) (r ∷ [])) in
    let whole : runs s ≡ (tree_runs s ++ take (i + 1) items) ++ drop (i + 1) items = ap (λ l. tree_runs s ++ l) (sym same ∙ sym (take-append-drop (i + 1) items)) ∙ sym (append_assoc (tree_runs s) (take (i + 1) items) (drop (i + 1) items)) in
    let few : (m : ℕ) → times ((tree_runs s ++ take i items) ++ r ∷ []) m ≤ 1 = λ m. omega (arith, are.apart m, ap (λ (l : List (Run R)). times l m) whole, times-append (tree_runs s ++ take (i + 1) items) (drop (i + 1) items) m, ap (λ (l : List (Run R)). times l m) more) in
    subst (λ (l : List (Run R)). IsNext l n o') (sym more) (subst (IsNext ((tree_runs s ++ take i items) ++ r ∷ []) n) (sym is) (next_more (tree_runs s ++ take i items) r n o here few h))

pub walk_ends : {R : Type 0} (s : SlotRuns R) (items : List (Run R)) (n i : ℕ) (o : Option (Run R)) → items ≡ s.latest.items → length items ≤ i → IsNext (tree_runs s ++ take i items) n o → IsNext (runs s) n o
walk_ends {R = R} s items n i o same le h = subst (λ (l : List (Run R)). IsNext l n o) (ap (λ l. tree_runs s ++ l) (take_all i items le ∙ same)) h
