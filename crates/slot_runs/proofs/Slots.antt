-- The runs of a list, in the tree and beside it, as one is looked for, taken out, parted or joined.
use Rattle.std.proofs.Common.{subst, ◌≡◌, ℕ, suc, ◌+◌, ◌-◌, ◌^◌, ◌<◌, ◌≤◌, Bool, true, false, cond, List, [], ◌∷◌, ◌++◌, length, map, get_or, Option, Some, None, refl, sym, ap, ◌∙◌, arith}
use Rattle.std.specs.Prelude.{find, position, remove, nat_le, nat_lt, ◌&&◌, ◌==◌, if◌then◌else◌, option_map}
use Rattle.std.specs.List.{list_all, position_or_len, AllByRecursion}
use Rattle.std.specs.List.Sorted.{IsStrictlySortedBy}
use Rattle.std.specs.Map.{remove_entry}
use Rattle.std.specs.BTreeMap.{is_at, insert_entry, IsOrdered}
use Rattle.std.specs.declared.cmp.Ordering.{Ordering}
use Rattle.std.specs.declared.cmp.Ordering.TheVariants.{Less, Equal, Greater}
use Rattle.std.specs.Ordering.{nat_cmp, is_eq}
use Rattle.std.proofs.lemmas.Bool.{and_parts, false≢true, leb-true, ltb-true, ltb-false, lt-ltb}
use Rattle.std.proofs.lemmas.Bool.Decides.{nat_tests}
use Rattle.psb_model.proofs.ByObject.{by_cases}
use Rattle.slot_runs.specs.declared.run.Run.{Run}
use Rattle.slot_runs.specs.declared.run_tree.Stretch.{Stretch}
use Rattle.slot_runs.specs.declared.run_tree.SlotRuns.{SlotRuns}
use Rattle.slot_runs.specs.Runs.{covers, times, rest_in, AreRuns, less_first, in_front, behind}
use Rattle.slot_runs.specs.SlotRuns.{run_of, tree_runs, runs}
use Rattle.slot_runs.proofs.Runs.{either, rest-append, times-append, none_times, found_passes, left_times, left_rest, left_full, found_all, found_rest, none_found, full-append, full-parts, front_runs}
use Rattle.slot_runs.proofs.TreeRuns.{only_if, found_in_tree}

abbrev pub is_full : {R : Type 0} → Run R → Bool
is_full r = nat_le r.first r.last

abbrev pub is_small : {R : Type 0} → Run R → Bool
is_small r = nat_lt r.last (2 ^ 32)

abbrev pub one : Bool → ℕ
one b = if b then 1 else 0

-- WHAT IS LOOKED FOR

pub in_tree_is : {R : Type 0} (s : SlotRuns R) (n : ℕ) (o : Option (Run R)) → AreRuns (runs s) → IsOrdered nat_cmp s.tree → o ≡ find (λ (r : Run R). nat_le n r.last) (tree_runs s) → only_if (λ (r : Run R). covers r n) o ≡ find (λ (r : Run R). covers r n) (tree_runs s)
in_tree_is s n o are ordered e =
    let front = front_runs (tree_runs s) s.latest.items are in
    ap (only_if (λ (r : Run _). covers r n)) e ∙ found_in_tree n s.tree.entries ordered front.apart front.full

pub got_some : {R : Type 0} (a b : List (Run R)) (n : ℕ) (r : Run R) → Some r ≡ find (λ (x : Run R). covers x n) a → Some r.rest ≡ rest_in (a ++ b) n
got_some {R = R} a b n r e = sym (rest-append a b n ∙ ap (λ (o : Option (Run R)). either (option_map (λ (x : Run R). x.rest) o) (rest_in b n)) (sym e))

pub got_none : {R : Type 0} (a b : List (Run R)) (n : ℕ) → None ≡ find (λ (x : Run R). covers x n) a → rest_in b n ≡ rest_in (a ++ b) n
got_none {R = R} a b n e = sym (rest-append a b n ∙ ap (λ (o : Option (Run R)). either (option_map (λ (x : Run R). x.rest) o) (rest_in b n)) (sym e))

-- A PLACE IN A LIST

placed : {A : Type 0} (p : A → Bool) (l : List A) (n : ℕ) (d : A) → n ≡ position_or_len p l → n < length l → (Some (get_or l n d) ≡ find p l) × (remove l n ≡ less_first p l)
placed p [] n d e lt = absurd (omega (arith, lt))
placed p (x ∷ xs) n d e lt =
    by_cases (p x)
    (λ k. let e' = rw k at e in rw (e', k) (refl, refl))
    (λ k.
    let m = position_or_len p xs in
    let e' : n ≡ suc m = rw k at e ∙ omega arith in
    let rest = placed p xs m d refl (omega (arith, e', lt)) in
    rw (e', k) (rest.0, ap (λ l. x ∷ l) rest.1))

pub place_some : {A : Type 0} (p : A → Bool) (l : List A) (n : ℕ) (d : A) → Some n ≡ position p l → (Some (get_or l n d) ≡ find p l) × (remove l n ≡ less_first p l)
place_some p l n d e =
    by_cases (nat_lt (position_or_len p l) (length l))
    (λ k. let e' : Some n ≡ Some (position_or_len p l) = rw k at e in let same : n ≡ position_or_len p l = cc in placed p l n d same (omega (arith, same, ltb-true (position_or_len p l) (length l) k)))
    (λ k. let e' : Some n ≡ None = rw k at e in absurd (cc))

none_placed : {A : Type 0} (p : A → Bool) (l : List A) → length l ≤ position_or_len p l → None ≡ find p l
none_placed p [] le = refl
none_placed p (x ∷ xs) le =
    by_cases (p x)
    (λ k. let le' = rw k at le in absurd (omega (arith, le')))
    (λ k. let le' = rw k at le in rw k (none_placed p xs (omega (arith, le'))))

pub place_none : {A : Type 0} (p : A → Bool) (l : List A) → None ≡ position p l → (None ≡ find p l) × (l ≡ less_first p l)
place_none p l e =
    by_cases (nat_lt (position_or_len p l) (length l))
    (λ k. let e' : None ≡ Some (position_or_len p l) = rw k at e in absurd (cc))
    (λ k. let none = none_placed p l (ltb-false (position_or_len p l) (length l) k) in (none, sym (none_found p l (sym none))))

-- A RUN THAT IS TAKEN

pub find-append : {A : Type 0} (p : A → Bool) (a b : List A) → find p (a ++ b) ≡ either (find p a) (find p b)
find-append p [] b = refl
find-append p (x ∷ xs) b = by_cases (p x) (λ k. rw k refl) (λ k. rw k (find-append p xs b))

less-front : {A : Type 0} (p : A → Bool) (a b : List A) (x : A) → find p a ≡ Some x → less_first p (a ++ b) ≡ less_first p a ++ b
less-front p [] b x e = absurd (cc)
less-front p (y ∷ ys) b x e = by_cases (p y) (λ k. rw k refl) (λ k. let e' = rw k at e in rw k (ap (λ l. y ∷ l) (less-front p ys b x e')))

less-back : {A : Type 0} (p : A → Bool) (a b : List A) → find p a ≡ None → less_first p (a ++ b) ≡ a ++ less_first p b
less-back p [] b e = refl
less-back p (y ∷ ys) b e = by_cases (p y) (λ k. let e' : Some y ≡ None = rw k at e in absurd (cc)) (λ k. let e' = rw k at e in rw k (ap (λ l. y ∷ l) (less-back p ys b e')))

pub taken_back : {A : Type 0} (p : A → Bool) (a b b' : List A) (o : Option A) → None ≡ find p a → o ≡ find p b → b' ≡ less_first p b → (o ≡ find p (a ++ b)) × (a ++ b' ≡ less_first p (a ++ b))
taken_back p a b b' o none found less =
    (found ∙ ap (λ x. either x (find p b)) none ∙ sym (find-append p a b), ap (λ l. a ++ l) less ∙ sym (less-back p a b (sym none)))

is_less_one : (a b : ℕ) → nat_cmp a b ≡ Less → is_eq (nat_cmp b a) ≡ false
is_less_one a b h = grind (arith, nat_tests)

pub is_one : (a : ℕ) → is_eq (nat_cmp a a) ≡ true
is_one a = grind (arith, nat_tests)

-- what is behind a key is another
other_key : {R : Type 0} (es : List (ℕ × Stretch R)) (k n : ℕ) (r : Run R) → AllByRecursion (λ y. nat_cmp k y ≡ Less) (map (λ (e : ℕ × Stretch R). e.0) es) → find (λ (x : Run R). covers x n) (map run_of es) ≡ Some r → nat_cmp k r.last ≡ Less
other_key [] k n r above e = absurd (cc)
other_key (x ∷ xs) k n r above e =
    by_cases (covers (run_of x) n)
    (λ j. let e' : Some (run_of x) ≡ Some r = rw j at e in let same : run_of x ≡ r = cc in ap (λ (y : Run _). nat_cmp k y.last) (sym same) ∙ above.0)
    (λ j. let e' = rw j at e in other_key xs k n r above.1 e')

removed : {R : Type 0} (es : List (ℕ × Stretch R)) (n : ℕ) (r : Run R) → IsStrictlySortedBy nat_cmp (map (λ (e : ℕ × Stretch R). e.0) es) → find (λ (x : Run R). covers x n) (map run_of es) ≡ Some r → map run_of (remove_entry (is_at (nat_cmp r.last)) es) ≡ less_first (λ (x : Run R). covers x n) (map run_of es)
unfolding IsStrictlySortedBy
removed [] n r sorted e = absurd (cc)
removed (x ∷ xs) n r sorted e =
    by_cases (covers (run_of x) n)
    (λ j.
    let e' : Some (run_of x) ≡ Some r = rw j at e in
    let same : run_of x ≡ r = cc in
    let at : is_eq (nat_cmp r.last x.0) ≡ true = ap (λ (y : Run _). is_eq (nat_cmp y.last x.0)) (sym same) ∙ is_one x.0 in
    rw (at, j) refl)
    (λ j.
    let e' = rw j at e in
    let other : is_eq (nat_cmp r.last x.0) ≡ false = is_less_one x.0 r.last (other_key xs x.0 n r sorted.0 e') in
    rw (other, j) (ap (λ l. run_of x ∷ l) (removed xs n r sorted.1 e')))

pub taken_front : {R : Type 0} (s : SlotRuns R) (es : List (ℕ × Stretch R)) (n : ℕ) (r : Run R) → IsOrdered nat_cmp s.tree → Some r ≡ find (λ (x : Run R). covers x n) (tree_runs s) → es ≡ remove_entry (is_at (nat_cmp r.last)) s.tree.entries → (Some r ≡ find (λ (x : Run R). covers x n) (runs s)) × (map run_of es ++ s.latest.items ≡ less_first (λ (x : Run R). covers x n) (runs s))
taken_front {R = R} s es n r ordered found tree =
    let p : Run R → Bool = λ x. covers x n in
    let out : map run_of es ≡ less_first p (tree_runs s) = ap (map run_of) tree ∙ removed s.tree.entries n r ordered (sym found) in (
      ap (λ (o : Option (Run R)). either o (find p s.latest.items)) found ∙ sym (find-append p (tree_runs s) s.latest.items),
      ap (λ l. l ++ s.latest.items) out ∙ sym (less-front p (tree_runs s) s.latest.items r (sym found)),
    )

-- A NUMBER THAT IS TAKEN OUT

pub record IsWithout {R : Type 0} (n : ℕ) (l l' : List (Run R)) : Type 0 where
  pub are : AreRuns l'
  pub rest : (m : ℕ) → rest_in l' m ≡ (if m == n then None else rest_in l m)

few_parts : (f l n m : ℕ) → (nat_le f n && nat_le n l) ≡ true → (if nat_lt f n then one (nat_le f m && nat_le m (n - 1)) else 0) + (if nat_lt n l then one (nat_le (n + 1) m && nat_le m l) else 0) + one (m == n) ≡ one (nat_le f m && nat_le m l)
few_parts f l n m h = grind (arith, nat_tests)

-- what the parts of a run say
front_times : {R : Type 0} (r : Run R) (n m : ℕ) → times (in_front r n) m ≡ (if nat_lt r.first n then one (nat_le r.first m && nat_le m (n - 1)) else 0)
front_times r n m = by_cases (nat_lt r.first n) (λ k. rw k (omega arith)) (λ k. rw k refl)

behind_times : {R : Type 0} (r : Run R) (n m : ℕ) → times (behind r n) m ≡ (if nat_lt n r.last then one (nat_le (n + 1) m && nat_le m r.last) else 0)
behind_times r n m = by_cases (nat_lt n r.last) (λ k. rw k (omega arith)) (λ k. rw k refl)

front_full : {R : Type 0} (r : Run R) (n : ℕ) → list_all is_full (in_front r n) ≡ true
front_full r n = by_cases (nat_lt r.first n) (λ k. let f : nat_le r.first (n - 1) ≡ true = below r.first n k in rw (k, f) refl) (λ k. rw k refl)
  where
    below : (f n : ℕ) → nat_lt f n ≡ true → nat_le f (n - 1) ≡ true
    below f n h = grind (arith, nat_tests)

behind_full : {R : Type 0} (r : Run R) (n : ℕ) → list_all is_full (behind r n) ≡ true
behind_full r n = by_cases (nat_lt n r.last) (λ k. let f : nat_le (n + 1) r.last ≡ true = above n r.last k in rw (k, f) refl) (λ k. rw k refl)
  where
    above : (n l : ℕ) → nat_lt n l ≡ true → nat_le (n + 1) l ≡ true
    above n l h = grind (arith, nat_tests)

front_small : {R : Type 0} (r : Run R) (n : ℕ) → covers r n ≡ true → is_small r ≡ true → list_all is_small (in_front r n) ≡ true
front_small r n here h = by_cases (nat_lt r.first n) (λ k. let f : nat_lt (n - 1) (2 ^ 32) ≡ true = lt-ltb (n - 1) (2 ^ 32) (omega (arith, ltb-true r.last (2 ^ 32) h, leb-true n r.last (and_parts (nat_le r.first n) (nat_le n r.last) here).1)) in rw (k, f) refl) (λ k. rw k refl)

behind_small : {R : Type 0} (r : Run R) (n : ℕ) → is_small r ≡ true → list_all is_small (behind r n) ≡ true
behind_small r n h = by_cases (nat_lt n r.last) (λ k. rw (k, h) refl) (λ k. rw k refl)

-- of one run, what it says of a number that it has
abbrev says : {R : Type 0} → List (Run R) → R → Type 0
says [] x = Unit {0}
says (r ∷ rs) x = (r.rest ≡ x) × says rs x

said : {R : Type 0} (l : List (Run R)) (x : R) (m : ℕ) → says l x → rest_in l m ≡ (if times l m == 0 then None else Some x)
said [] x m h = refl
said (r ∷ rs) x m h = by_cases (covers r m) (λ k. let more : (1 + times rs m == 0) ≡ false = not_none (times rs m) in rw (k, more) (ap (λ y. Some y) h.0)) (λ k. let same : 0 + times rs m ≡ times rs m = omega arith in rw (k, same) (said rs x m h.1))
  where
    not_none : (n : ℕ) → (1 + n == 0) ≡ false
    not_none n = grind (arith, nat_tests)

front_says : {R : Type 0} (r : Run R) (n : ℕ) → says (in_front r n) r.rest
front_says r n = by_cases (nat_lt r.first n) (λ k. rw k (refl, tt)) (λ k. rw k tt)

behind_says : {R : Type 0} (r : Run R) (n : ℕ) → says (behind r n) r.rest
behind_says r n = by_cases (nat_lt n r.last) (λ k. rw k (refl, tt)) (λ k. rw k tt)

both_say : {R : Type 0} (a b : List (Run R)) (x : R) → says a x → says b x → says (a ++ b) x
both_say [] b x h k = k
both_say (r ∷ rs) b x h k = (h.0, both_say rs b x h.1 k)

append_assoc : {A : Type 0} (a b c : List A) → (a ++ b) ++ c ≡ a ++ (b ++ c)
append_assoc [] b c = refl
append_assoc (x ∷ xs) b c = ap (λ l. x ∷ l) (append_assoc xs b c)

some_parts : {R : Type 0} (r : Run R) (n m : ℕ) → covers r n ≡ true → times (in_front r n ++ behind r n) m + one (m == n) ≡ one (covers r m)
some_parts r n m h = omega (arith, times-append (in_front r n) (behind r n) m, front_times r n m, behind_times r n m, few_parts r.first r.last n m h)

pub parted : {R : Type 0} (l : List (Run R)) (n : ℕ) (r : Run R) → AreRuns l → Some r ≡ find (λ (x : Run R). covers x n) l → IsWithout n l ((less_first (λ (x : Run R). covers x n) l ++ in_front r n) ++ behind r n)
parted {R = R} l n r are found =
    let p : Run R → Bool = λ x. covers x n in
    let left = less_first p l in
    let parts = in_front r n ++ behind r n in
    let whole : (left ++ in_front r n) ++ behind r n ≡ left ++ parts = append_assoc left (in_front r n) (behind r n) in
    let here : covers r n ≡ true = found_passes p l r (sym found) in
    let sum : (m : ℕ) → times (left ++ parts) m + one (m == n) ≡ times l m = λ m. omega (arith, times-append left parts m, some_parts r n m here, left_times l n m r (sym found)) in
    let full : list_all is_full (left ++ parts) ≡ true = full-append is_full left parts (left_full p is_full l are.full) (full-append is_full (in_front r n) (behind r n) (front_full r n) (behind_full r n)) in
    let few : (m : ℕ) → times (left ++ parts) m ≤ 1 = λ m. omega (arith, sum m, are.apart m) in
    let low : is_small r ≡ true = found_all p is_small l r are.small (sym found) in
    let small : list_all is_small (left ++ parts) ≡ true = full-append is_small left parts (left_full p is_small l are.small) (full-append is_small (in_front r n) (behind r n) (front_small r n here low) (behind_small r n low)) in
    record {
      are = record {
        apart = λ m. omega (arith, ap (λ (x : List (Run R)). times x m) whole, few m);
        full = ap (list_all is_full) whole ∙ full;
        small = ap (list_all is_small) whole ∙ small;
      };
      rest = λ m. ap (λ (x : List (Run R)). rest_in x m) whole ∙ rest-append left parts m ∙ each m here (said parts r.rest m (both_say (in_front r n) (behind r n) r.rest (front_says r n) (behind_says r n))) (some_parts r n m here);
    }
  where
    at_number : {R : Type 0} (r : Run R) (n m : ℕ) → covers r n ≡ true → (m == n) ≡ true → covers r m ≡ true
    at_number r n m h e = grind (arith, nat_tests)

    each : (m : ℕ) → covers r n ≡ true → rest_in (in_front r n ++ behind r n) m ≡ (if times (in_front r n ++ behind r n) m == 0 then None else Some r.rest) → times (in_front r n ++ behind r n) m + one (m == n) ≡ one (covers r m) → either (rest_in (less_first (λ (x : Run R). covers x n) l) m) (rest_in (in_front r n ++ behind r n) m) ≡ (if m == n then None else rest_in l m)
    each m here says sum =
        let gone = left_rest l n m r (are.apart m) (sym found) in
        by_cases (covers r m)
        (λ k.
        let gone' = rw k at gone in
        let was : rest_in l m ≡ Some r.rest = found_rest l n m r (are.apart m) (sym found) k in
        by_cases (m == n)
        (λ j.
        let sum' : times (in_front r n ++ behind r n) m + 1 ≡ 1 = rw (j, k) at sum in
        let none : (times (in_front r n ++ behind r n) m == 0) ≡ true = is_none (times (in_front r n ++ behind r n) m) (omega (arith, sum')) in
        rw (gone', says, none, j) refl)
        (λ j.
        let sum' : times (in_front r n ++ behind r n) m + 0 ≡ 1 = rw (j, k) at sum in
        let some : (times (in_front r n ++ behind r n) m == 0) ≡ false = is_some (times (in_front r n ++ behind r n) m) (omega (arith, sum')) in
        rw (gone', says, some, j) (sym was)))
        (λ k.
        let gone' = rw k at gone in
        let other : (m == n) ≡ false = by_cases (m == n) (λ j. absurd (false≢true (sym k ∙ at_number r n m here j))) (λ j. j) in
        let sum' : times (in_front r n ++ behind r n) m + 0 ≡ 0 = rw (other, k) at sum in
        let none : (times (in_front r n ++ behind r n) m == 0) ≡ true = is_none (times (in_front r n ++ behind r n) m) (omega (arith, sum')) in
        rw (gone', says, none, other) (keeps (rest_in l m)))
      where
        is_none : (n : ℕ) → n ≡ 0 → (n == 0) ≡ true
        is_none n h = grind (arith, nat_tests)

        is_some : (n : ℕ) → n ≡ 1 → (n == 0) ≡ false
        is_some n h = grind (arith, nat_tests)

        keeps : {A : Type 0} (o : Option A) → either o None ≡ o
        keeps None = refl
        keeps (Some x) = refl

-- a number that no run has
pub not_there : {R : Type 0} (l l' : List (Run R)) (n : ℕ) → AreRuns l → None ≡ find (λ (x : Run R). covers x n) l → l' ≡ less_first (λ (x : Run R). covers x n) l → IsWithout n l l'
not_there {R = R} l l' n are none less =
    let same : l' ≡ l = less ∙ none_found (λ (x : Run R). covers x n) l (sym none) in
    record {
      are = record { apart = λ m. omega (arith, ap (λ (x : List (Run R)). times x m) same, are.apart m); full = ap (list_all is_full) same ∙ are.full; small = ap (list_all is_small) same ∙ are.small };
      rest = λ m. ap (λ (x : List (Run R)). rest_in x m) same ∙ by_cases (m == n) (λ k. let e : m ≡ n = is_it m n k in rw k (ap (rest_in l) e ∙ ap (option_map (λ (r : Run R). r.rest)) (sym none))) (λ k. rw k refl);
    }
  where
    is_it : (m n : ℕ) → (m == n) ≡ true → m ≡ n
    is_it m n h = grind (arith, nat_tests)

pub without_as : {R : Type 0} (n : ℕ) (l l' l'' : List (Run R)) → l'' ≡ l' → IsWithout n l l' → IsWithout n l l''
without_as n l l' l'' e h = subst (IsWithout n l) (sym e) h

-- RUNS THAT ARE JOINED

-- the same is said of each number
pub record SaysTheSame {R : Type 0} (l l' : List (Run R)) : Type 0 where
  pub are : AreRuns l'
  pub rest : (m : ℕ) → rest_in l' m ≡ rest_in l m

pub same_then : {R : Type 0} (a b c : List (Run R)) → SaysTheSame a b → SaysTheSame b c → SaysTheSame a c
same_then a b c h k = record { are = k.are; rest = λ m. k.rest m ∙ h.rest m }

pub same_as : {R : Type 0} (a b c : List (Run R)) → c ≡ b → SaysTheSame a b → SaysTheSame a c
same_as a b c e h = subst (SaysTheSame a) (sym e) h

pub same_from : {R : Type 0} (a b c : List (Run R)) → b ≡ a → SaysTheSame a c → SaysTheSame b c
same_from a b c e h = subst (λ x. SaysTheSame x c) (sym e) h

pub not_joined : {R : Type 0} (l : List (Run R)) → AreRuns l → SaysTheSame l l
not_joined l h = record { are = h; rest = λ m. refl }

-- two runs beside each other that say the same, as one
pub joined : {R : Type 0} (l : List (Run R)) (k : ℕ) (next run both : Run R) → AreRuns (l ++ run ∷ []) → Some next ≡ find (λ (x : Run R). covers x k) l → next.rest ≡ run.rest → both.rest ≡ run.rest → is_full both ≡ true → is_small both ≡ true → ((m : ℕ) → one (covers both m) ≡ one (covers run m) + one (covers next m)) → SaysTheSame (l ++ run ∷ []) (less_first (λ (x : Run R). covers x k) l ++ both ∷ [])
joined {R = R} l k next run both are found same same' full small beside =
    let p : Run R → Bool = λ x. covers x k in
    let left = less_first p l in
    let parts = full-parts is_full l (run ∷ []) are.full in
    let few : (m : ℕ) → times l m ≤ 1 = λ m. omega (arith, are.apart m, times-append l (run ∷ []) m) in
    record {
      are = record {
        apart = λ m. omega (arith, times-append left (both ∷ []) m, beside m, left_times l k m next (sym found), are.apart m, times-append l (run ∷ []) m);
        full = full-append is_full left (both ∷ []) (left_full p is_full l parts.0) (rw full refl);
        small = full-append is_small left (both ∷ []) (left_full p is_small l (full-parts is_small l (run ∷ []) are.small).0) (rw small refl);
      };
      rest = λ m. rest-append left (both ∷ []) m ∙ each m (few m) (left_rest l k m next (few m) (sym found)) (beside m) (are.apart m) (times-append l (run ∷ []) m) ∙ sym (rest-append l (run ∷ []) m);
    }
  where
    each : (m : ℕ) → times l m ≤ 1 → rest_in (less_first (λ (x : Run R). covers x k) l) m ≡ (if covers next m then None else rest_in l m) → one (covers both m) ≡ one (covers run m) + one (covers next m) → times (l ++ run ∷ []) m ≤ 1 → times (l ++ run ∷ []) m ≡ times l m + times (run ∷ []) m → either (rest_in (less_first (λ (x : Run R). covers x k) l) m) (rest_in (both ∷ []) m) ≡ either (rest_in l m) (rest_in (run ∷ []) m)
    each m few gone beside all sum =
        by_cases (covers next m)
        (λ j.
        let gone' = rw j at gone in
        let was : rest_in l m ≡ Some next.rest = found_rest l k m next few (sym found) j in
        let in_both : covers both m ≡ true = is_in (covers both m) (covers run m) (rw j at beside) in
        rw (gone', in_both, was) (ap (λ x. Some x) (same' ∙ sym same)))
        (λ j.
        let gone' = rw j at gone in
        let beside' = rw j at beside in
        let as_run : covers both m ≡ covers run m = as_one (covers both m) (covers run m) beside' in
        rw (gone', as_run) (ap (λ x. either (rest_in l m) x) (alike (covers run m))))
      where
        is_in : (a b : Bool) → one a ≡ one b + 1 → a ≡ true
        is_in true b h = refl
        is_in false b h = absurd (omega (arith, h))

        as_one : (a b : Bool) → one a ≡ one b + 0 → a ≡ b
        as_one true true h = refl
        as_one true false h = absurd (omega (arith, h))
        as_one false true h = absurd (omega (arith, h))
        as_one false false h = refl

        alike : (b : Bool) → option_map (λ (x : Run R). x.rest) (cond b (Some both) None) ≡ option_map (λ (x : Run R). x.rest) (cond b (Some run) None)
        alike true = ap (λ x. Some x) same'
        alike false = refl

-- the numbers of two runs beside each other
pub beside : (f m' l f' l' : ℕ) → nat_le f m' ≡ true → nat_le f' l' ≡ true → f' ≡ m' + 1 → (m : ℕ) → one (nat_le f m && nat_le m l') ≡ one (nat_le f m && nat_le m m') + one (nat_le f' m && nat_le m l')
beside f m' l f' l' a b e m = grind (arith, nat_tests)

-- a run that was taken, with its parts put back
pub parted_into : {R : Type 0} (n : ℕ) (l l1 l2 l3 a b : List (Run R)) (r : Run R) → AreRuns l → Some r ≡ find (λ (x : Run R). covers x n) l → l1 ≡ less_first (λ (x : Run R). covers x n) l → l2 ≡ l1 ++ a → l3 ≡ l2 ++ b → a ≡ in_front r n → b ≡ behind r n → IsWithout n l l3
parted_into {R = R} n l l1 l2 l3 a b r are found e1 e2 e3 ea eb =
    let all : l3 ≡ (less_first (λ (x : Run R). covers x n) l ++ in_front r n) ++ behind r n = e3 ∙ (λ i. e2 i ++ eb i) ∙ (λ i. (e1 i ++ ea i) ++ behind r n) in
    without_as n l ((less_first (λ (x : Run R). covers x n) l ++ in_front r n) ++ behind r n) l3 all (parted l n r are found)

adjacent : (a b k : ℕ) (l : ℕ) → (nat_le b k && nat_le k l) ≡ true → k ≤ a + 1 → a < b → b ≡ a + 1
adjacent a b k l h le lt = omega (arith, leb-true b k (and_parts (nat_le b k) (nat_le k l) h).0)

adjacent_back : (f l b k : ℕ) → (nat_le f k && nat_le k l) ≡ true → b ≤ k + 1 → l < b → b ≡ l + 1
adjacent_back f l b k h le lt = omega (arith, leb-true k l (and_parts (nat_le f k) (nat_le k l) h).1)

pub less_full : (f l f' l' : ℕ) → nat_le f l ≡ true → nat_le f' l' ≡ true → f' ≡ l + 1 → nat_le f l' ≡ true
less_full f l f' l' a b e = grind (arith, nat_tests)

pub joined_next : {R : Type 0} (s : SlotRuns R) (es : List (ℕ × Stretch R)) (k : ℕ) (next run : Run R) → AreRuns (runs s ++ run ∷ []) → IsOrdered nat_cmp s.tree → Some next ≡ find (λ (x : Run R). covers x k) (tree_runs s) → es ≡ remove_entry (is_at (nat_cmp next.last)) s.tree.entries → k ≤ run.last + 1 → (run.last < next.first) × (run.rest ≡ next.rest) → SaysTheSame (runs s ++ run ∷ []) ((map run_of es ++ s.latest.items) ++ record run { last = next.last } ∷ [])
joined_next {R = R} s es k next run are ordered found out le ahead =
    let lt = ahead.0 in
    let same = sym ahead.1 in
    let taken = taken_front s es k next ordered found out in
    let parts = full-parts is_full (runs s) (run ∷ []) are.full in
    let p : Run R → Bool = λ x. covers x k in
    let here : covers next k ≡ true = found_passes p (runs s) next (sym taken.0) in
    let full : is_full next ≡ true = found_all p is_full (runs s) next parts.0 (sym taken.0) in
    let full' : is_full run ≡ true = (and_parts (is_full run) true parts.1).0 in
    let at : next.first ≡ run.last + 1 = adjacent run.last next.first k next.last here le lt in
    same_as (runs s ++ run ∷ []) (less_first p (runs s) ++ record run { last = next.last } ∷ []) ((map run_of es ++ s.latest.items) ++ record run { last = next.last } ∷ [])
    (ap (λ (l : List (Run R)). l ++ record run { last = next.last } ∷ []) taken.1)
    (joined (runs s) k next run (record run { last = next.last }) are taken.0 same refl (less_full run.first run.last next.first next.last full' full at) (found_all p is_small (runs s) next (full-parts is_small (runs s) (run ∷ []) are.small).0 (sym taken.0)) (beside run.first run.last run.last next.first next.last full' full at))

swap_sum : (a b c : ℕ) → a ≡ b + c → a ≡ c + b
swap_sum a b c h = omega (arith, h)

pub joined_before : {R : Type 0} (s : SlotRuns R) (es : List (ℕ × Stretch R)) (k : ℕ) (before run : Run R) → AreRuns (runs s ++ run ∷ []) → IsOrdered nat_cmp s.tree → Some before ≡ find (λ (x : Run R). covers x k) (tree_runs s) → es ≡ remove_entry (is_at (nat_cmp before.last)) s.tree.entries → run.first ≤ k + 1 → (before.last < run.first) × (before.rest ≡ run.rest) → SaysTheSame (runs s ++ run ∷ []) ((map run_of es ++ s.latest.items) ++ record before { last = run.last } ∷ [])
joined_before {R = R} s es k before run are ordered found out le ahead =
    let lt = ahead.0 in
    let same = ahead.1 in
    let taken = taken_front s es k before ordered found out in
    let parts = full-parts is_full (runs s) (run ∷ []) are.full in
    let p : Run R → Bool = λ x. covers x k in
    let here : covers before k ≡ true = found_passes p (runs s) before (sym taken.0) in
    let full : is_full before ≡ true = found_all p is_full (runs s) before parts.0 (sym taken.0) in
    let full' : is_full run ≡ true = (and_parts (is_full run) true parts.1).0 in
    let at : run.first ≡ before.last + 1 = adjacent_back before.first before.last run.first k here le lt in
    same_as (runs s ++ run ∷ []) (less_first p (runs s) ++ record before { last = run.last } ∷ []) ((map run_of es ++ s.latest.items) ++ record before { last = run.last } ∷ [])
    (ap (λ (l : List (Run R)). l ++ record before { last = run.last } ∷ []) taken.1)
    (joined (runs s) k before run (record before { last = run.last }) are taken.0 same same (less_full before.first before.last run.first run.last full full' at) (and_parts (is_small run) true (full-parts is_small (runs s) (run ∷ []) are.small).1).0 (λ m. swap_sum (one (covers (record before { last = run.last }) m)) (one (covers before m)) (one (covers run m)) (beside before.first before.last before.last run.first run.last full full' at m)))

-- A RUN THAT GOES INTO THE TREE

pub by_order : {P : Type 0} → (o : Ordering) → (o ≡ Less → P) → (o ≡ Equal → P) → (o ≡ Greater → P) → P
by_order Less f g h = f refl
by_order Equal f g h = g refl
by_order Greater f g h = h refl

-- where no run has its last number, it goes in beside the others
put_times : {R : Type 0} (es : List (ℕ × Stretch R)) (k : ℕ) (v : Stretch R) (m : ℕ) → times (map run_of es) k ≡ 0 → list_all is_full (map run_of es) ≡ true → times (map run_of (insert_entry nat_cmp es k v)) m ≡ times (map run_of es) m + one (covers (run_of (k, v)) m)
put_times [] k v m none full = omega arith
put_times (x ∷ xs) k v m none full =
    let a = and_parts (is_full (run_of x)) (list_all is_full (map run_of xs)) full in
    by_order (nat_cmp k x.0)
    (λ e. rw e (omega arith))
    (λ e.
    let same : k ≡ x.0 = equal_is k x.0 e in
    let here : covers (run_of x) k ≡ true = at_last x.1.first x.0 k a.0 same in
    let none' = rw here at none in
    absurd (omega (arith, none')))
    (λ e. rw e (omega (arith, put_times xs k v m (omega (arith, none)) a.1)))
  where
    equal_is : (a b : ℕ) → nat_cmp a b ≡ Equal → a ≡ b
    equal_is a b h = grind (arith, nat_tests)

    at_last : (f l k : ℕ) → nat_le f l ≡ true → k ≡ l → (nat_le f k && nat_le k l) ≡ true
    at_last f l k h e = grind (arith, nat_tests)

put_full : {R : Type 0} (p : Run R → Bool) (es : List (ℕ × Stretch R)) (k : ℕ) (v : Stretch R) → p (run_of (k, v)) ≡ true → list_all p (map run_of es) ≡ true → list_all p (map run_of (insert_entry nat_cmp es k v)) ≡ true
put_full p [] k v h full = rw h refl
put_full {R = R} p (x ∷ xs) k v h full =
    let a = and_parts (p (run_of x)) (list_all p (map run_of xs)) full in
    by_order (nat_cmp k x.0)
    (λ e. rw (e, h) full)
    (λ e. let same : x.0 ≡ k = equal_is k x.0 e in let h' : p (run_of (x.0, v)) ≡ true = ap (λ (n : ℕ). p (run_of (n, v))) same ∙ h in rw (e, h') a.1)
    (λ e. rw (e, a.0) (put_full p xs k v h a.1))
  where
    equal_is : (a b : ℕ) → nat_cmp a b ≡ Equal → b ≡ a
    equal_is a b h = grind (arith, nat_tests)

put_rest : {R : Type 0} (es : List (ℕ × Stretch R)) (k : ℕ) (v : Stretch R) (m : ℕ) → times (map run_of es) k ≡ 0 → list_all is_full (map run_of es) ≡ true → times (map run_of es) m + one (covers (run_of (k, v)) m) ≤ 1 → rest_in (map run_of (insert_entry nat_cmp es k v)) m ≡ either (rest_in (map run_of es) m) (rest_in (run_of (k, v) ∷ []) m)
put_rest [] k v m none full few = refl
put_rest (x ∷ xs) k v m none full few =
    let a = and_parts (is_full (run_of x)) (list_all is_full (map run_of xs)) full in
    by_order (nat_cmp k x.0)
    (λ e.
    by_cases (covers (run_of (k, v)) m)
    (λ j. let few' = rw j at few in let none' : rest_in (map run_of (x ∷ xs)) m ≡ None = none_times (map run_of (x ∷ xs)) m (omega (arith, few')) in rw (e, none', j) refl)
    (λ j. rw (e, j) (keeps (rest_in (map run_of (x ∷ xs)) m))))
    (λ e.
    let same : k ≡ x.0 = equal_is k x.0 e in
    let here : covers (run_of x) k ≡ true = at_last x.1.first x.0 k a.0 same in
    let none' = rw here at none in
    absurd (omega (arith, none')))
    (λ e.
    by_cases (covers (run_of x) m)
    (λ j. rw (e, j) refl)
    (λ j. let few' = rw j at few in rw (e, j) (put_rest xs k v m (omega (arith, none)) a.1 (omega (arith, few')))))
  where
    equal_is : (a b : ℕ) → nat_cmp a b ≡ Equal → a ≡ b
    equal_is a b h = grind (arith, nat_tests)

    at_last : (f l k : ℕ) → nat_le f l ≡ true → k ≡ l → (nat_le f k && nat_le k l) ≡ true
    at_last f l k h e = grind (arith, nat_tests)

    keeps : {A : Type 0} (o : Option A) → o ≡ either o None
    keeps None = refl
    keeps (Some x) = refl

either_swap : {R : Type 0} (a b : List (Run R)) (c : Run R) (m : ℕ) → times a m + times b m + one (covers c m) ≤ 1 → either (either (rest_in a m) (rest_in (c ∷ []) m)) (rest_in b m) ≡ either (either (rest_in a m) (rest_in b m)) (rest_in (c ∷ []) m)
either_swap a b c m few =
    by_cases (covers c m)
    (λ j.
    let few' = rw j at few in
    let na : rest_in a m ≡ None = none_times a m (omega (arith, few')) in
    let nb : rest_in b m ≡ None = none_times b m (omega (arith, few')) in
    rw (na, nb, j) refl)
    (λ j. rw j (last (rest_in a m) (rest_in b m)))
  where
    last : {A : Type 0} (x y : Option A) → either (either x None) y ≡ either (either x y) None
    last None None = refl
    last None (Some y) = refl
    last (Some x) y = refl

-- a run that goes into the tree
pub settled : {R : Type 0} (old es : List (ℕ × Stretch R)) (latest : List (Run R)) (run : Run R) (v : Stretch R) → AreRuns ((map run_of old ++ latest) ++ run ∷ []) → es ≡ insert_entry nat_cmp old run.last v → run_of (run.last, v) ≡ run → SaysTheSame ((map run_of old ++ latest) ++ run ∷ []) (map run_of es ++ latest)
settled {R = R} old es latest run v are put is =
    let tree = map run_of old in
    let all = tree ++ latest in
    let parts = full-parts is_full all (run ∷ []) are.full in
    let both = full-parts is_full tree latest parts.0 in
    let full : is_full run ≡ true = (and_parts (is_full run) true parts.1).0 in
    let low_parts = full-parts is_small all (run ∷ []) are.small in
    let low_both = full-parts is_small tree latest low_parts.0 in
    let low : is_small run ≡ true = (and_parts (is_small run) true low_parts.1).0 in
    let sum : (m : ℕ) → times tree m + times latest m + one (covers run m) ≤ 1 = λ m. omega (arith, are.apart m, times-append all (run ∷ []) m, times-append tree latest m) in
    let here : one (covers run run.last) ≡ 1 = at_end run.first run.last full in
    let none : times tree run.last ≡ 0 = omega (arith, sum run.last, here) in
    let is' : (m : ℕ) → one (covers (run_of (run.last, v)) m) ≡ one (covers run m) = λ m. ap (λ (r : Run R). one (covers r m)) is in
    let grown : (m : ℕ) → times (map run_of es) m ≡ times tree m + one (covers run m) = λ m. ap (λ x. times (map run_of x) m) put ∙ put_times old run.last v m none both.0 ∙ ap (λ n. times tree m + n) (is' m) in
    record {
      are = record {
        apart = λ m. omega (arith, times-append (map run_of es) latest m, grown m, sum m);
        full = full-append is_full (map run_of es) latest (ap (λ x. list_all is_full (map run_of x)) put ∙ put_full is_full old run.last v (ap is_full is ∙ full) both.0) both.1;
        small = full-append is_small (map run_of es) latest (ap (λ x. list_all is_small (map run_of x)) put ∙ put_full is_small old run.last v (ap is_small is ∙ low) low_both.0) low_both.1;
      };
      rest = λ m.
          rest-append (map run_of es) latest m
          ∙ ap (λ x. either (rest_in (map run_of x) m) (rest_in latest m)) put
          ∙ ap (λ x. either x (rest_in latest m)) (put_rest old run.last v m none both.0 (omega (arith, is' m, sum m)))
          ∙ ap (λ (r : Run R). either (either (rest_in tree m) (rest_in (r ∷ []) m)) (rest_in latest m)) is
          ∙ either_swap tree latest run m (sum m)
          ∙ sym (rest-append all (run ∷ []) m ∙ ap (λ x. either x (rest_in (run ∷ []) m)) (rest-append tree latest m));
    }
  where
    at_end : (f l : ℕ) → nat_le f l ≡ true → one (nat_le f l && nat_le l l) ≡ 1
    at_end f l h = grind (arith, nat_tests)

pub next_joined : {R : Type 0} (s s' : SlotRuns R) (k : ℕ) (next run both : Run R) → AreRuns (runs s ++ run ∷ []) → IsOrdered nat_cmp s.tree → Some next ≡ find (λ (x : Run R). covers x k) (tree_runs s) → s'.tree.entries ≡ remove_entry (is_at (nat_cmp next.last)) s.tree.entries → s'.latest ≡ s.latest → k ≤ run.last + 1 → (run.last < next.first) × (run.rest ≡ next.rest) → both ≡ record run { last = next.last } → SaysTheSame (runs s ++ run ∷ []) (runs s' ++ both ∷ [])
next_joined {R = R} s s' k next run both are ordered found out latest le ahead is =
    same_as (runs s ++ run ∷ []) ((map run_of s'.tree.entries ++ s.latest.items) ++ record run { last = next.last } ∷ []) (runs s' ++ both ∷ [])
    (λ i. (map run_of s'.tree.entries ++ (latest i).items) ++ is i ∷ [])
    (joined_next s s'.tree.entries k next run are ordered found out le ahead)

pub before_joined : {R : Type 0} (s s' : SlotRuns R) (k : ℕ) (before run both : Run R) → AreRuns (runs s ++ run ∷ []) → IsOrdered nat_cmp s.tree → Some before ≡ find (λ (x : Run R). covers x k) (tree_runs s) → s'.tree.entries ≡ remove_entry (is_at (nat_cmp before.last)) s.tree.entries → s'.latest ≡ s.latest → run.first ≤ k + 1 → (before.last < run.first) × (before.rest ≡ run.rest) → both ≡ record before { last = run.last } → SaysTheSame (runs s ++ run ∷ []) (runs s' ++ both ∷ [])
before_joined {R = R} s s' k before run both are ordered found out latest le ahead is =
    same_as (runs s ++ run ∷ []) ((map run_of s'.tree.entries ++ s.latest.items) ++ record before { last = run.last } ∷ []) (runs s' ++ both ∷ [])
    (λ i. (map run_of s'.tree.entries ++ (latest i).items) ++ is i ∷ [])
    (joined_before s s'.tree.entries k before run are ordered found out le ahead)

-- the last of the runs beside the tree is the last of all
pub popped : {R : Type 0} (s : SlotRuns R) (l : List (Run R)) (run : Run R) → s.latest.items ≡ l ++ run ∷ [] → runs s ≡ (tree_runs s ++ l) ++ run ∷ []
popped s l run e = ap (λ x. tree_runs s ++ x) e ∙ sym (append_assoc (tree_runs s) l (run ∷ []))
