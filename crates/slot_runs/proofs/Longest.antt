-- Runs that are as long as they can be.
use Rattle.std.proofs.Common.{◌≡◌, ◌⊎◌, inl, inr, ℕ, ◌+◌, ◌^◌, ◌<◌, ◌≤◌, Bool, true, List, [], ◌∷◌, map, Some, None, refl, sym, ap, ◌∙◌, subst, arith}
use Rattle.std.specs.Prelude.{find, nat_le, nat_lt, ◌&&◌, option_map}
use Rattle.std.specs.List.{list_all}
use Rattle.std.specs.Map.{remove_entry}
use Rattle.std.specs.BTreeMap.{insert_entry}
use Rattle.std.specs.declared.cmp.Ordering.TheVariants.{Equal}
use Rattle.std.specs.Ordering.{nat_cmp}
use Rattle.std.proofs.lemmas.Bool.{and_parts, true≢false, leb-true, ltb-true}
use Rattle.std.proofs.lemmas.Bool.Decides.{nat_tests}
use Rattle.psb_model.specs.Words.{In}
use Rattle.psb_model.proofs.ByObject.{by_cases}
use Rattle.slot_runs.specs.declared.run.Run.{Run}
use Rattle.slot_runs.specs.declared.run_tree.Stretch.{Stretch}
use Rattle.slot_runs.specs.declared.run_tree.SlotRuns.{SlotRuns}
use Rattle.slot_runs.specs.Runs.{covers, times, AreRuns, AreLongest, NoneBehind, NoneInFront, behind}
use Rattle.slot_runs.specs.SlotRuns.{run_of, tree_runs, runs}
use Rattle.slot_runs.proofs.Runs.{times_none, front_runs}
use Rattle.slot_runs.proofs.Slots.{by_order}
use Rattle.slot_runs.proofs.Cuts.{left_behind}

split : {A B C : Type 0} → A ⊎ B → (A → C) → (B → C) → C
split (inl a) f g = f a
split (inr b) f g = g b

-- all of the one are of the other
abbrev pub Within : {R : Type 0} → List (Run R) → List (Run R) → Type 0
Within {R = R} l m = (x : Run R) → In x l → In x m

pub in_removed : {R : Type 0} (t : ℕ → Bool) (es : List (ℕ × Stretch R)) → Within (map run_of (remove_entry t es)) (map run_of es)
in_removed t [] x h = h
in_removed t (e ∷ es) x h =
    by_cases (t e.0)
    (λ k. let h' = rw k at h in inr h')
    (λ k. let h' = rw k at h in split h' (λ s. inl s) (λ s. inr (in_removed t es x s)))

pub in_out : {R : Type 0} (t : ℕ → Bool) (es new : List (ℕ × Stretch R)) → new ≡ remove_entry t es → Within (map run_of new) (map run_of es)
in_out t es new e x h = in_removed t es x (subst (λ l. In x (map run_of l)) e h)

in_put : {R : Type 0} (es : List (ℕ × Stretch R)) (k : ℕ) (v : Stretch R) (x : Run R) → In x (map run_of (insert_entry nat_cmp es k v)) → (x ≡ run_of (k, v)) ⊎ In x (map run_of es)
in_put [] k v x h = h
in_put (e ∷ es) k v x h =
    by_order (nat_cmp k e.0)
    (λ o. let h' = rw o at h in h')
    (λ o. let h' = rw o at h in split h' (λ s. inl (s ∙ ap (λ (n : ℕ). run_of (n, v)) (equal_is k e.0 o))) (λ s. inr (inr s)))
    (λ o. let h' = rw o at h in split h' (λ s. inr (inl s)) (λ s. split (in_put es k v x s) (λ r. inl r) (λ r. inr (inr r))))
  where
    equal_is : (a b : ℕ) → nat_cmp a b ≡ Equal → b ≡ a
    equal_is a b h = grind (arith, nat_tests)

in_found : {R : Type 0} (p : Run R → Bool) (l : List (Run R)) (r : Run R) → Some r ≡ find p l → In r l
in_found p [] r e = absurd (cc)
in_found p (y ∷ ys) r e = by_cases (p y) (λ k. let e' : Some r ≡ Some y = rw k at e in let same : r ≡ y = cc in inl same) (λ k. let e' = rw k at e in inr (in_found p ys r e'))

in_all : {R : Type 0} (p : Run R → Bool) (l : List (Run R)) (x : Run R) → list_all p l ≡ true → In x l → p x ≡ true
in_all p [] x h i = absurd i
in_all p (y ∷ ys) x h i = let a = and_parts (p y) (list_all p ys) h in split i (λ s. ap p s ∙ a.0) (λ s. in_all p ys x a.1 s)

in_times : {R : Type 0} (l : List (Run R)) (n : ℕ) (x : Run R) → In x l → covers x n ≡ true → 1 ≤ times l n
in_times [] n x i c = absurd i
in_times (y ∷ ys) n x i c =
    split i
    (λ s. let c' : covers y n ≡ true = ap (λ (r : Run _). covers r n) (sym s) ∙ c in rw c' (omega arith))
    (λ s. omega (arith, in_times ys n x s c))

-- the only run that has a number
only_one : {R : Type 0} (l : List (Run R)) (n : ℕ) (r x : Run R) → times l n ≤ 1 → Some r ≡ find (λ (y : Run R). covers y n) l → In x l → covers x n ≡ true → x ≡ r
only_one [] n r x few e i c = absurd i
only_one (y ∷ ys) n r x few e i c =
    by_cases (covers y n)
    (λ k.
    let e' : Some r ≡ Some y = rw k at e in
    let same : y ≡ r = cc in
    let few' = rw k at few in
    split i (λ s. s ∙ same) (λ s. absurd (omega (arith, few', in_times ys n x s c))))
    (λ k.
    let e' = rw k at e in
    let few' = rw k at few in
    split i
    (λ s. absurd (true≢false (sym c ∙ ap (λ (z : Run _). covers z n) s ∙ k)))
    (λ s. only_one ys n r x (omega (arith, few')) e' s c))

none_there : {R : Type 0} (l : List (Run R)) (n : ℕ) (x : Run R) → None ≡ find (λ (y : Run R). covers y n) l → In x l → covers x n ≡ true → ⊥
none_there {R = R} l n x e i c = omega (arith, in_times l n x i c, times_none l n (ap (option_map (λ (r : Run R). r.rest)) (sym e)))

has_first : (f l k : ℕ) → f ≡ k → f ≤ l → (nat_le f k && nat_le k l) ≡ true
has_first f l k e le = grind (arith, nat_tests)

has_last : (f l k : ℕ) → l ≡ k → f ≤ l → (nat_le f k && nat_le k l) ≡ true
has_last f l k e le = grind (arith, nat_tests)

full_in : {R : Type 0} (l : List (Run R)) (x : Run R) → AreRuns l → In x l → x.first ≤ x.last
full_in l x are i = leb-true x.first x.last (in_all (λ (r : Run _). nat_le r.first r.last) l x are.full i)

small_in : {R : Type 0} (l : List (Run R)) (x : Run R) → AreRuns l → In x l → x.last < 2 ^ 32
small_in l x are i = ltb-true x.last (2 ^ 32) (in_all (λ (r : Run _). nat_lt r.last (2 ^ 32)) l x are.small i)

-- fewer runs are as long as they can be
pub fewer_longest : {R : Type 0} (l m : List (Run R)) → Within l m → AreLongest m → AreLongest l
fewer_longest l m all h = record { differ = λ a b i j at same. h.differ a b (all a i) (all b j) at same }

pub longest_as : {R : Type 0} (s s' : SlotRuns R) → s'.tree ≡ s.tree → AreLongest (tree_runs s) → AreLongest (tree_runs s')
longest_as s s' e h = subst (λ t. AreLongest (map run_of t.entries)) (sym e) h

-- NOTHING BEHIND

pub behind_none : {R : Type 0} (l : List (Run R)) (run : Run R) (k : ℕ) → AreRuns l → (run.last + 1 < 2 ^ 32 → k ≡ run.last + 1) → None ≡ find (λ (x : Run R). covers x k) l → NoneBehind l run
behind_none l run k are next none = record {
  differ = λ b i at same.
      let le = full_in l b are i in
      let k_is : k ≡ run.last + 1 = next (omega (arith, at, le, small_in l b are i)) in
      none_there l k b none i (has_first b.first b.last k (at ∙ sym k_is) le);
}

pub behind_other : {R : Type 0} (l : List (Run R)) (run next : Run R) (k : ℕ) → AreRuns l → (run.last + 1 < 2 ^ 32 → k ≡ run.last + 1) → Some next ≡ find (λ (x : Run R). covers x k) l → ((run.last < next.first) × (run.rest ≡ next.rest) → ⊥) → NoneBehind l run
behind_other l run other k are next found apart = record {
  differ = λ b i at same.
      let le = full_in l b are i in
      let k_is : k ≡ run.last + 1 = next (omega (arith, at, le, small_in l b are i)) in
      let is : b ≡ other = only_one l k other b (are.apart k) found i (has_first b.first b.last k (at ∙ sym k_is) le) in
      apart (omega (arith, at, ap (λ (x : Run _). x.first) is), same ∙ ap (λ (x : Run _). x.rest) is);
}

pub behind_joined : {R : Type 0} (l m : List (Run R)) (run next both : Run R) (p : Run R → Bool) → AreLongest m → Within l m → Some next ≡ find p m → run.rest ≡ next.rest → both ≡ record run { last = next.last } → NoneBehind l both
behind_joined l m run next both p longest all found same is = record {
  differ = λ b i at says. longest.differ next b (in_found p m next found) (all b i) (at ∙ ap (λ (x : Run _). x.last + 1) is) (sym same ∙ ap (λ (x : Run _). x.rest) (sym is) ∙ says);
}

pub behind_kept : {R : Type 0} (l m : List (Run R)) (run before both : Run R) → Within l m → NoneBehind m run → before.rest ≡ run.rest → both ≡ record before { last = run.last } → NoneBehind l both
behind_kept l m run before both all none same is = record {
  differ = λ b i at says. none.differ b (all b i) (at ∙ ap (λ (x : Run _). x.last + 1) is) (sym same ∙ ap (λ (x : Run _). x.rest) (sym is) ∙ says);
}

-- NOTHING IN FRONT

pub front_none : {R : Type 0} (l : List (Run R)) (run : Run R) (k : ℕ) → AreRuns l → (1 ≤ run.first → k + 1 ≡ run.first) → None ≡ find (λ (x : Run R). covers x k) l → NoneInFront l run
front_none l run k are before none = record {
  differ = λ a i at same.
      let k_is : k + 1 ≡ run.first = before (omega (arith, at)) in
      none_there l k a none i (has_last a.first a.last k (omega (arith, at, k_is)) (full_in l a are i));
}

pub front_other : {R : Type 0} (l : List (Run R)) (run other : Run R) (k : ℕ) → AreRuns l → (1 ≤ run.first → k + 1 ≡ run.first) → Some other ≡ find (λ (x : Run R). covers x k) l → ((other.last < run.first) × (other.rest ≡ run.rest) → ⊥) → NoneInFront l run
front_other l run other k are before found apart = record {
  differ = λ a i at same.
      let k_is : k + 1 ≡ run.first = before (omega (arith, at)) in
      let is : a ≡ other = only_one l k other a (are.apart k) found i (has_last a.first a.last k (omega (arith, at, k_is)) (full_in l a are i)) in
      apart (omega (arith, at, ap (λ (x : Run _). x.last) is), ap (λ (x : Run _). x.rest) (sym is) ∙ same);
}

pub front_joined : {R : Type 0} (l m : List (Run R)) (run before both : Run R) (p : Run R → Bool) → AreLongest m → Within l m → Some before ≡ find p m → both ≡ record before { last = run.last } → NoneInFront l both
front_joined l m run before both p longest all found is = record {
  differ = λ a i at says. longest.differ a before (all a i) (in_found p m before found) (ap (λ (x : Run _). x.first) (sym is) ∙ at) (says ∙ ap (λ (x : Run _). x.rest) is);
}

-- A RUN THAT GOES INTO THE TREE

pub settled_longest : {R : Type 0} (es new : List (ℕ × Stretch R)) (run : Run R) (v : Stretch R) → AreLongest (map run_of es) → NoneBehind (map run_of es) run → NoneInFront (map run_of es) run → run.first ≤ run.last → new ≡ insert_entry nat_cmp es run.last v → run_of (run.last, v) ≡ run → AreLongest (map run_of new)
settled_longest {R = R} es new run v longest none_behind none_before full put is = subst (λ (x : List (ℕ × Stretch R)). AreLongest (map run_of x)) (sym put) (record {
  differ = λ a b i j at same.
      split (in_put es run.last v a i)
      (λ e.
      let a_is : a ≡ run = e ∙ is in
      split (in_put es run.last v b j)
      (λ f. let b_is : b ≡ run = f ∙ is in omega (arith, at, full, ap (λ (x : Run R). x.first) b_is, ap (λ (x : Run R). x.last) a_is))
      (λ f. none_behind.differ b f (at ∙ ap (λ (x : Run R). x.last + 1) a_is) (ap (λ (x : Run R). x.rest) (sym a_is) ∙ same)))
      (λ e.
      split (in_put es run.last v b j)
      (λ f. let b_is : b ≡ run = f ∙ is in none_before.differ a e (ap (λ (x : Run R). x.first) (sym b_is) ∙ at) (same ∙ ap (λ (x : Run R). x.rest) b_is))
      (λ f. longest.differ a b e f at same));
})

-- what is left behind a number that was cut out
pub cut_longest : {R : Type 0} (s : SlotRuns R) (new : List (ℕ × Stretch R)) (n : ℕ) (r left : Run R) → AreRuns (runs s) → AreLongest (tree_runs s) → Some r ≡ find (λ (x : Run R). covers x n) (tree_runs s) → left ∷ [] ≡ behind r n → new ≡ insert_entry nat_cmp s.tree.entries left.last (record { first = left.first; rest = left.rest }) → AreLongest (map run_of new)
cut_longest {R = R} s new n r left are longest found left_is put =
    let front = front_runs (tree_runs s) s.latest.items are in
    let is : left ≡ record r { first = n + 1 } = left_behind r left n left_is in
    let first : left.first ≡ n + 1 = ap (λ (x : Run R). x.first) is in
    let last : left.last ≡ r.last = ap (λ (x : Run R). x.last) is in
    let rest : left.rest ≡ r.rest = ap (λ (x : Run R). x.rest) is in
    let less : n < r.last = some_behind r left n left_is in
    settled_longest s.tree.entries new left (record { first = left.first; rest = left.rest }) longest
    (record { differ = λ b i at same. longest.differ r b (in_found (λ (x : Run R). covers x n) (tree_runs s) r found) i (omega (arith, at, last)) (sym rest ∙ same) })
    (record {
      differ = λ a i at same.
          let a_last : a.last ≡ n = omega (arith, at, first) in
          let a_is : a ≡ r = only_one (tree_runs s) n r a (front.apart n) found i (has_last a.first a.last n a_last (full_in (tree_runs s) a front i)) in
          omega (arith, a_last, less, ap (λ (x : Run R). x.last) a_is);
    })
    (omega (arith, first, last, less)) put refl
  where
    some_behind : {R : Type 0} (r left : Run R) (n : ℕ) → left ∷ [] ≡ behind r n → n < r.last
    some_behind r left n e = by_cases (nat_lt n r.last) (λ k. ltb-true n r.last k) (λ k. let e' : left ∷ [] ≡ [] = rw k at e in absurd (cc))
