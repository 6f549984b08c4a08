-- A slot that is taken out of its run, and one of which something is said anew.
use Rattle.std.proofs.Common.{◌≡◌, ℕ, ◌+◌, ◌<◌, ◌^◌, Bool, true, false, cond, List, [], ◌∷◌, ◌++◌, map, append-nil, Option, Some, None, IsSome, refl, sym, ap, ◌∙◌, subst, arith}
use Rattle.std.specs.Prelude.{find, nat_le, nat_lt, ◌&&◌, ◌==◌, if◌then◌else◌, option_map}
use Rattle.std.specs.List.{AllByRecursion}
use Rattle.std.specs.List.Sorted.{IsStrictlySortedBy}
use Rattle.std.specs.Map.{remove_entry, lookup}
use Rattle.std.specs.BTreeMap.{is_at, insert_entry, IsOrdered}
use Rattle.std.specs.declared.cmp.Ordering.TheVariants.{Less, Equal}
use Rattle.std.specs.Ordering.{nat_cmp, is_eq}
use Rattle.std.proofs.lemmas.Bool.{and_parts, le-leb, lt-ltb}
use Rattle.std.proofs.lemmas.Bool.Decides.{nat_tests}
use Rattle.std.proofs.lemmas.List.{append_assoc}
use Rattle.psb_model.proofs.ByObject.{by_cases}
use Rattle.slot_runs.specs.declared.run.Run.{Run}
use Rattle.slot_runs.specs.declared.run_tree.Stretch.{Stretch}
use Rattle.slot_runs.specs.declared.run_tree.SlotRuns.{SlotRuns}
use Rattle.slot_runs.specs.Runs.{covers, rest_in, AreRuns, less_first, in_front, behind}
use Rattle.slot_runs.specs.SlotRuns.{run_of, tree_runs, runs}
use Rattle.slot_runs.proofs.Runs.{either, rest-append, times-append, full-append, full-parts, are_more, single}
use Rattle.slot_runs.proofs.Slots.{by_order, is_one, taken_front, taken_back, parted, parted_into, not_there, IsWithout, without_as, settled, SaysTheSame, is_full, is_small, one, beside, less_full}

-- A RUN THAT IS PUT IN THE PLACE OF ANOTHER

later : (a b c : ℕ) → nat_cmp a b ≡ Less → nat_cmp b c ≡ Less → nat_cmp a c ≡ Less
later a b c h k = grind (arith, nat_tests)

equal_is : (a b : ℕ) → nat_cmp a b ≡ Equal → a ≡ b
equal_is a b h = grind (arith, nat_tests)

-- below all keys
abbrev below : {V : Type 0} → ℕ → List (ℕ × V) → Type 0
below {V = V} k es = AllByRecursion (λ y. nat_cmp k y ≡ Less) (map (λ (e : ℕ × V). e.0) es)

below_more : {V : Type 0} (k n : ℕ) (es : List (ℕ × V)) → nat_cmp k n ≡ Less → below n es → below k es
below_more k n [] h all = tt
below_more k n (e ∷ es) h all = (later k n e.0 h all.0, below_more k n es h all.1)

none_at : {V : Type 0} (k : ℕ) (es : List (ℕ × V)) → below k es → remove_entry (is_at (nat_cmp k)) es ≡ es
none_at k [] all = refl
none_at k (e ∷ es) all = let other : is_eq (nat_cmp k e.0) ≡ false = ap is_eq all.0 in rw other (ap (λ l. e ∷ l) (none_at k es all.1))

goes_first : {V : Type 0} (k : ℕ) (v : V) (es : List (ℕ × V)) → below k es → insert_entry nat_cmp es k v ≡ (k, v) ∷ es
goes_first k v [] all = refl
goes_first k v (e ∷ es) all = rw all.0 refl

-- what is put in under a key is put in where the key was taken out
put_anew : {V : Type 0} (es : List (ℕ × V)) (k : ℕ) (v : V) → IsStrictlySortedBy nat_cmp (map (λ (e : ℕ × V). e.0) es) → insert_entry nat_cmp es k v ≡ insert_entry nat_cmp (remove_entry (is_at (nat_cmp k)) es) k v
unfolding IsStrictlySortedBy
put_anew [] k v sorted = refl
put_anew (e ∷ es) k v sorted =
    by_order (nat_cmp k e.0)
    (λ h. rw h (rw h (ap (λ l. (k, v) ∷ e ∷ l) (sym (none_at k es (below_more k e.0 es h sorted.0))))))
    (λ h.
    let same : k ≡ e.0 = equal_is k e.0 h in
    rw h (ap (λ (n : ℕ). (n, v) ∷ es) (sym same) ∙ sym (goes_first k v es (subst_below k e.0 es same sorted.0))))
    (λ h. rw h (rw h (ap (λ l. e ∷ l) (put_anew es k v sorted.1))))
  where
    subst_below : {V : Type 0} (a b : ℕ) (es : List (ℕ × V)) → a ≡ b → below b es → below a es
    subst_below a b [] e all = tt
    subst_below a b (x ∷ xs) e all = (ap (λ n. nat_cmp n x.0) e ∙ all.0, subst_below a b xs e all.1)

-- the run that is found stands under its last number
pub found_there : {R : Type 0} (es : List (ℕ × Stretch R)) (n : ℕ) (r : Run R) → Some r ≡ find (λ (x : Run R). covers x n) (map run_of es) → IsSome (lookup (is_at (nat_cmp r.last)) es)
found_there [] n r e = absurd (cc)
found_there (x ∷ xs) n r e =
    by_cases (is_eq (nat_cmp r.last x.0))
    (λ k. rw k refl)
    (λ k.
    by_cases (covers (run_of x) n)
    (λ j.
    let e' : Some r ≡ Some (run_of x) = rw j at e in
    let same : r ≡ run_of x = cc in
    let at : is_eq (nat_cmp r.last x.0) ≡ true = ap (λ (y : Run _). is_eq (nat_cmp y.last x.0)) same ∙ is_one x.0 in
    absurd (cc))
    (λ j. let e' = rw j at e in rw k (found_there xs n r e')))

-- what is left behind a number, where something is
pub left_behind : {R : Type 0} (r left : Run R) (n : ℕ) → left ∷ [] ≡ behind r n → left ≡ record r { first = n + 1 }
left_behind r left n e =
    by_cases (nat_lt n r.last)
    (λ k. let e' : left ∷ [] ≡ record r { first = n + 1 } ∷ [] = rw k at e in cc)
    (λ k. let e' : left ∷ [] ≡ [] = rw k at e in absurd (cc))

pub left_there : {R : Type 0} (es : List (ℕ × Stretch R)) (n : ℕ) (r left : Run R) → Some r ≡ find (λ (x : Run R). covers x n) (map run_of es) → left ∷ [] ≡ behind r n → IsSome (lookup (is_at (nat_cmp left.last)) es)
left_there {R = R} es n r left found is = subst (λ (k : ℕ). IsSome (lookup (is_at (nat_cmp k)) es)) (sym (ap (λ (x : Run R). x.last) (left_behind r left n is))) (found_there es n r found)

-- A SLOT THAT IS CUT OUT OF THE TREE

-- what is left behind it stands in its place
pub cut_over : {R : Type 0} (s : SlotRuns R) (es : List (ℕ × Stretch R)) (latest front : List (Run R)) (n : ℕ) (r left : Run R) → AreRuns (runs s) → IsOrdered nat_cmp s.tree → Some r ≡ find (λ (x : Run R). covers x n) (tree_runs s) → front ≡ in_front r n → left ∷ [] ≡ behind r n → latest ≡ s.latest.items ++ front → es ≡ insert_entry nat_cmp s.tree.entries left.last (record { first = left.first; rest = left.rest }) → IsWithout n (runs s) (map run_of es ++ latest)
cut_over {R = R} s es latest front n r left are ordered found in_front_is left_is latest_is put =
    let p : Run R → Bool = λ x. covers x n in
    let less = less_first p (runs s) in
    let old = remove_entry (is_at (nat_cmp r.last)) s.tree.entries in
    let last : left.last ≡ r.last = ap (λ (x : Run R). x.last) (left_behind r left n left_is) in
    let taken = taken_front s old n r ordered found refl in
    let list : (map run_of old ++ latest) ++ left ∷ [] ≡ (less ++ in_front r n) ++ behind r n =
    ap (λ l. (map run_of old ++ l) ++ left ∷ []) latest_is
    ∙ ap (λ l. l ++ left ∷ []) (sym (append_assoc (map run_of old) s.latest.items front))
    ∙ (λ i. (taken.1 i ++ in_front_is i) ++ left_is i) in
    let without = without_as n (runs s) ((less ++ in_front r n) ++ behind r n) ((map run_of old ++ latest) ++ left ∷ []) list (parted (runs s) n r are taken.0) in
    let over : es ≡ insert_entry nat_cmp old left.last (record { first = left.first; rest = left.rest }) =
    put ∙ put_anew s.tree.entries left.last (record { first = left.first; rest = left.rest }) ordered
    ∙ ap (λ (k : ℕ). insert_entry nat_cmp (remove_entry (is_at (nat_cmp k)) s.tree.entries) left.last (record { first = left.first; rest = left.rest })) last in
    let same = settled old es latest left (record { first = left.first; rest = left.rest }) without.are over refl in
    record { are = same.are; rest = λ m. same.rest m ∙ without.rest m }

-- nothing is left behind it
pub cut_out : {R : Type 0} (s : SlotRuns R) (es : List (ℕ × Stretch R)) (latest front : List (Run R)) (n : ℕ) (r : Run R) → AreRuns (runs s) → IsOrdered nat_cmp s.tree → Some r ≡ find (λ (x : Run R). covers x n) (tree_runs s) → front ≡ in_front r n → [] ≡ behind r n → latest ≡ s.latest.items ++ front → es ≡ remove_entry (is_at (nat_cmp r.last)) s.tree.entries → IsWithout n (runs s) (map run_of es ++ latest)
cut_out {R = R} s es latest front n r are ordered found in_front_is none latest_is out =
    let less = less_first (λ (x : Run R). covers x n) (runs s) in
    let taken = taken_front s es n r ordered found out in
    let list : map run_of es ++ latest ≡ (less ++ in_front r n) ++ behind r n =
    ap (λ l. map run_of es ++ l) latest_is
    ∙ sym (append_assoc (map run_of es) s.latest.items front)
    ∙ (λ i. taken.1 i ++ in_front_is i)
    ∙ sym (append-nil (less ++ in_front r n))
    ∙ ap (λ l. (less ++ in_front r n) ++ l) none in
    without_as n (runs s) ((less ++ in_front r n) ++ behind r n) (map run_of es ++ latest) list (parted (runs s) n r are taken.0)

-- AND FROM BESIDE THE TREE

pub cut_beside : {R : Type 0} (tree latest latest' l2 l3 a b : List (Run R)) (n : ℕ) (r : Run R) → AreRuns (tree ++ latest) → None ≡ find (λ (x : Run R). covers x n) tree → Some r ≡ find (λ (x : Run R). covers x n) latest → latest' ≡ less_first (λ (x : Run R). covers x n) latest → l2 ≡ (tree ++ latest') ++ a → l3 ≡ l2 ++ b → a ≡ in_front r n → b ≡ behind r n → IsWithout n (tree ++ latest) l3
cut_beside {R = R} tree latest latest' l2 l3 a b n r are none found less e2 e3 ea eb =
    let taken = taken_back (λ (x : Run R). covers x n) tree latest latest' (Some r) none found less in
    parted_into n (tree ++ latest) (tree ++ latest') l2 l3 a b r are taken.0 taken.1 e2 e3 ea eb

pub none_beside : {R : Type 0} (tree latest latest' : List (Run R)) (n : ℕ) → AreRuns (tree ++ latest) → None ≡ find (λ (x : Run R). covers x n) tree → None ≡ find (λ (x : Run R). covers x n) latest → latest' ≡ less_first (λ (x : Run R). covers x n) latest → IsWithout n (tree ++ latest) (tree ++ latest')
none_beside {R = R} tree latest latest' n are none found less =
    let taken = taken_back (λ (x : Run R). covers x n) tree latest latest' None none found less in
    not_there (tree ++ latest) (tree ++ latest') n are taken.0 taken.1

-- A SLOT OF WHICH SOMETHING IS SAID ANEW

pub record IsPut {R : Type 0} (n : ℕ) (x : R) (l l' : List (Run R)) : Type 0 where
  pub are : AreRuns l'
  pub rest : (m : ℕ) → rest_in l' m ≡ (if m == n then Some x else rest_in l m)

pub put_in : {R : Type 0} (n : ℕ) (x : R) (l l1 l2 : List (Run R)) → AreRuns l1 → ((m : ℕ) → rest_in l1 m ≡ (if m == n then None else rest_in l m)) → n < 2 ^ 32 → l2 ≡ l1 ++ single x n ∷ [] → IsPut n x l l2
put_in {R = R} n x l l1 l2 are gone small is =
    let new : AreRuns (l1 ++ single x n ∷ []) = are_more l1 (single x n) are (le-leb n n (omega arith)) (lt-ltb n (2 ^ 32) small) (λ m k. let here : (m == n) ≡ true = at n m k in let g = rw here at (gone m) in g) in
    record {
      are = subst AreRuns (sym is) new;
      rest = λ m. ap (λ (k : List (Run R)). rest_in k m) is ∙ rest-append l1 (single x n ∷ []) m ∙ each m (gone m);
    }
  where
    at : (n m : ℕ) → (nat_le n m && nat_le m n) ≡ true → (m == n) ≡ true
    at n m h = grind (arith, nat_tests)

    back : (n m : ℕ) → (m == n) ≡ true → (nat_le n m && nat_le m n) ≡ true
    back n m h = grind (arith, nat_tests)

    away : (n m : ℕ) → (m == n) ≡ false → (nat_le n m && nat_le m n) ≡ false
    away n m h = grind (arith, nat_tests)

    keeps : {A : Type 0} (o : Option A) → either o None ≡ o
    keeps None = refl
    keeps (Some y) = refl

    each : (m : ℕ) → rest_in l1 m ≡ (if m == n then None else rest_in l m) → either (rest_in l1 m) (rest_in (single x n ∷ []) m) ≡ (if m == n then Some x else rest_in l m)
    each m g =
        by_cases (m == n)
        (λ k. let g' = rw k at g in rw (g', back n m k, k) refl)
        (λ k. let g' = rw k at g in rw (g', away n m k, k) (keeps (rest_in l m)))

-- A RUN THAT GOES ON FROM THE LATEST

pub joined_latest : {R : Type 0} (l : List (Run R)) (last run both : Run R) → AreRuns ((l ++ last ∷ []) ++ run ∷ []) → run.first ≡ last.last + 1 → last.rest ≡ run.rest → both ≡ record last { last = run.last } → SaysTheSame ((l ++ last ∷ []) ++ run ∷ []) (l ++ both ∷ [])
joined_latest {R = R} l last run both are at same is =
    let all = l ++ last ∷ [] in
    let full = full-parts is_full all (run ∷ []) are.full in
    let full' = full-parts is_full l (last ∷ []) full.0 in
    let small = full-parts is_small all (run ∷ []) are.small in
    let small' = full-parts is_small l (last ∷ []) small.0 in
    let whole : is_full last ≡ true = (and_parts (is_full last) true full'.1).0 in
    let whole' : is_full run ≡ true = (and_parts (is_full run) true full.1).0 in
    let sum : (m : ℕ) → one (covers (record last { last = run.last }) m) ≡ one (covers last m) + one (covers run m) = beside last.first last.last last.last run.first run.last whole whole' at in
    subst (λ (x : Run R). SaysTheSame (all ++ run ∷ []) (l ++ x ∷ [])) (sym is) (record {
      are = record {
        apart = λ m. omega (arith, times-append l (record last { last = run.last } ∷ []) m, times-append all (run ∷ []) m, times-append l (last ∷ []) m, sum m, are.apart m);
        full = full-append is_full l (record last { last = run.last } ∷ []) full'.0 (rw (less_full last.first last.last run.first run.last whole whole' at) refl);
        small = full-append is_small l (record last { last = run.last } ∷ []) small'.0 (rw ((and_parts (is_small run) true small.1).0) refl);
      };
      rest = λ m. rest-append l (record last { last = run.last } ∷ []) m ∙ each m (sum m) ∙ sym (rest-append all (run ∷ []) m ∙ ap (λ x. either x (rest_in (run ∷ []) m)) (rest-append l (last ∷ []) m));
    })
  where
    is_in : (a b : Bool) → one a ≡ 1 + one b → a ≡ true
    is_in true b h = refl
    is_in false b h = absurd (omega (arith, h))

    as_one : (a b : Bool) → one a ≡ 0 + one b → a ≡ b
    as_one true true h = refl
    as_one true false h = absurd (omega (arith, h))
    as_one false true h = absurd (omega (arith, h))
    as_one false false h = refl

    first_some : {A : Type 0} (o p : Option A) (x : A) → either o (Some x) ≡ either (either o (Some x)) p
    first_some None p x = refl
    first_some (Some y) p x = refl

    last_some : {A : Type 0} (o p : Option A) → either o p ≡ either (either o None) p
    last_some None p = refl
    last_some (Some y) p = refl

    alike : (b : Bool) → option_map (λ (x : Run R). x.rest) (cond b (Some (record last { last = run.last })) None) ≡ option_map (λ (x : Run R). x.rest) (cond b (Some run) None)
    alike true = ap (λ x. Some x) same
    alike false = refl

    each : (m : ℕ) → one (covers (record last { last = run.last }) m) ≡ one (covers last m) + one (covers run m) → either (rest_in l m) (rest_in (record last { last = run.last } ∷ []) m) ≡ either (either (rest_in l m) (rest_in (last ∷ []) m)) (rest_in (run ∷ []) m)
    each m sum =
        by_cases (covers last m)
        (λ k.
        let in_both : covers (record last { last = run.last }) m ≡ true = is_in (covers (record last { last = run.last }) m) (covers run m) (rw k at sum) in
        rw (in_both, k) (first_some (rest_in l m) (rest_in (run ∷ []) m) last.rest))
        (λ k.
        let as_run : covers (record last { last = run.last }) m ≡ covers run m = as_one (covers (record last { last = run.last }) m) (covers run m) (rw k at sum) in
        rw (as_run, k) (ap (either (rest_in l m)) (alike (covers run m)) ∙ last_some (rest_in l m) (rest_in (run ∷ []) m)))

-- the latest of the runs beside the tree
pub latest_joined : {R : Type 0} (tree old left : List (Run R)) (last run both : Run R) → AreRuns ((tree ++ old) ++ run ∷ []) → old ≡ left ++ last ∷ [] → run.first ≡ last.last + 1 → last.rest ≡ run.rest → both ≡ record last { last = run.last } → SaysTheSame ((tree ++ old) ++ run ∷ []) ((tree ++ left) ++ both ∷ [])
latest_joined {R = R} tree old left last run both are is at same both_is =
    let all : tree ++ old ≡ (tree ++ left) ++ last ∷ [] = ap (λ l. tree ++ l) is ∙ sym (append_assoc tree left (last ∷ [])) in
    subst (λ (x : List (Run R)). SaysTheSame (x ++ run ∷ []) ((tree ++ left) ++ both ∷ [])) (sym all)
    (joined_latest (tree ++ left) last run both (subst (λ (x : List (Run R)). AreRuns (x ++ run ∷ [])) all are) at same both_is)

-- a slot by itself, which goes in where it is not
pub alone : {R : Type 0} (n : ℕ) (x : R) (l l1 : List (Run R)) → AreRuns l1 → ((m : ℕ) → rest_in l1 m ≡ (if m == n then None else rest_in l m)) → n < 2 ^ 32 → IsPut n x l (l1 ++ single x n ∷ [])
alone n x l l1 are gone small = put_in n x l l1 (l1 ++ single x n ∷ []) are gone small refl
