-- Slots in order, and what is said of each number: one says the other.
use Rattle.std.proofs.Common.{◌≡◌, ℕ, zero, suc, ◌+◌, ◌-◌, ◌<◌, ◌≤◌, Bool, true, false, not, List, [], ◌∷◌, ◌++◌, filter, Option, Some, None, refl, sym, ap, ◌∙◌, subst, arith}
use Rattle.std.specs.Prelude.{nat_le, nat_lt, ◌&&◌, ◌==◌, if◌then◌else◌, option_map}
use Rattle.std.specs.List.{list_all, flat_map}
use Rattle.std.specs.declared.cmp.Ordering.{Ordering}
use Rattle.std.specs.declared.cmp.Ordering.TheVariants.{Less, Equal, Greater}
use Rattle.std.specs.Ordering.{is_lt, is_eq}
use Rattle.std.proofs.lemmas.Bool.{and_parts, false≢true, eqb-true}
use Rattle.std.proofs.lemmas.Bool.Decides.{nat_tests}
use Rattle.psb_bytes.specs.Objects.{object_eq, object_cmp}
use Rattle.psb_bytes.specs.declared.ids.Object.{Object}
use Rattle.psb_bytes.specs.declared.ids.Object.TheVariants.{Chunk, Slot}
use Rattle.psb_model.specs.Words.{has, listed, with_one, with_all, without}
use Rattle.std.proofs.lemmas.Grind.{flat_map-append}
use Rattle.psb_model.proofs.ByObject.{object_eq-same, object_eq-refl, object_eq-swap, by_cases, all_with_one}
use Rattle.psb_model.proofs.Steady.{neither}
use Rattle.psb_model.proofs.ObjectOrder.{object_total, same_object, less_then}
use Rattle.peer_lists.specs.Entries.{in_order, find_at}
use Rattle.slot_runs.specs.declared.run.Run.{Run}
use Rattle.slot_runs.specs.Runs.{covers, times, rest_in, AreRuns}
use Rattle.peer_lists.specs.Slots.{slots_from, expand, slot_items}
use Rattle.peer_lists.proofs.Ordered.{before_all, in_order_with, in_order_kept}
use Rattle.peer_lists.proofs.Found.{lacks_find, rest_ordered}
use Rattle.peer_lists.proofs.Trees.{with_more, IsJoin}
use Rattle.slot_runs.proofs.Runs.{either}

-- TWO LISTS IN ORDER THAT HAVE THE SAME

first_is : {E : Type 0} (key : E → Object) (x : E) (xs : List E) → find_at key (x ∷ xs) (key x) ≡ Some x
first_is key x xs = rw (object_eq-refl (key x)) refl

pub none_before : {E : Type 0} (key : E → Object) (y : E) (ys : List E) (o : Object) → in_order key (y ∷ ys) ≡ true → is_lt (object_cmp o (key y)) ≡ true → find_at key (y ∷ ys) o ≡ None
none_before key y ys o h lt =
    let a = and_parts (list_all (λ x. is_lt (object_cmp (key y) (key x))) ys) (in_order key ys) h in
    lacks_find key (y ∷ ys) o (before_all key o (y ∷ ys) (rw lt (below_rest key o y ys lt a.0)))
  where
    below_rest : {E : Type 0} (key : E → Object) (o : Object) (y : E) (xs : List E) → is_lt (object_cmp o (key y)) ≡ true → list_all (λ x. is_lt (object_cmp (key y) (key x))) xs ≡ true → list_all (λ x. is_lt (object_cmp o (key x))) xs ≡ true
    below_rest key o y [] h k = refl
    below_rest key o y (x ∷ xs) h k = let a = and_parts (is_lt (object_cmp (key y) (key x))) (list_all (λ z. is_lt (object_cmp (key y) (key z))) xs) k in rw (less_then o (key y) (key x) h a.0) (below_rest key o y xs h a.1)

by_order : {P : Type 0} → (o : Ordering) → (is_lt o ≡ true → P) → (is_eq o ≡ true → P) → (o ≡ Greater → P) → P
by_order Less f g h = f refl
by_order Equal f g h = g refl
by_order Greater f g h = h refl

greater_swap : (a b : Object) → object_cmp a b ≡ Greater → is_lt (object_cmp b a) ≡ true
greater_swap a b e = ap is_lt (object_total.antisymm b a) ∙ ap (λ o. is_lt (turned o)) e
  where
    turned : Ordering → Ordering
    turned Less = Greater
    turned Equal = Equal
    turned Greater = Less

pub one_list : {E : Type 0} (key : E → Object) (l m : List E) → in_order key l ≡ true → in_order key m ≡ true → ((o : Object) → find_at key l o ≡ find_at key m o) → l ≡ m
one_list key [] [] h k same = refl
one_list key [] (y ∷ ys) h k same = let bad : None ≡ Some y = same (key y) ∙ first_is key y ys in absurd (cc)
one_list key (x ∷ xs) [] h k same = let bad : Some x ≡ None = sym (first_is key x xs) ∙ same (key x) in absurd (cc)
one_list key (x ∷ xs) (y ∷ ys) h k same =
    by_order (object_cmp (key x) (key y))
    (λ lt. let bad : Some x ≡ None = sym (first_is key x xs) ∙ same (key x) ∙ none_before key y ys (key x) k lt in absurd (cc))
    (λ eq.
    let at : object_eq (key x) (key y) ≡ true = same_object (key x) (key y) ∙ eq in
    let keys : key x ≡ key y = object_eq-same (key x) (key y) at in
    let both : Some x ≡ Some y = sym (first_is key x xs) ∙ same (key x) ∙ ap (find_at key (y ∷ ys)) keys ∙ first_is key y ys in
    let heads : x ≡ y = cc in
    let rest : xs ≡ ys = one_list key xs ys (rest_ordered key x xs h) (rest_ordered key y ys k) (λ o.
    by_cases (object_eq (key x) o)
    (λ j. none_behind key x xs o h j ∙ sym (none_behind key y ys o k (ap (λ a. object_eq a o) (sym keys) ∙ j)))
    (λ j. let both' = same o in let j' : object_eq (key y) o ≡ false = ap (λ a. object_eq a o) (sym keys) ∙ j in let a = rw (j, j') at both' in a)) in
    (λ i. heads i ∷ rest i))
    (λ gt. let bad : None ≡ Some y = sym (none_before key x xs (key y) h (greater_swap (key x) (key y) gt)) ∙ same (key y) ∙ first_is key y ys in absurd (cc))
  where
    none_behind : {E : Type 0} (key : E → Object) (x : E) (xs : List E) (o : Object) → in_order key (x ∷ xs) ≡ true → object_eq (key x) o ≡ true → find_at key xs o ≡ None
    none_behind key x xs o h k =
        let a = and_parts (list_all (λ y. is_lt (object_cmp (key x) (key y))) xs) (in_order key xs) h in
        lacks_find key xs o (ap (has key xs) (sym (object_eq-same (key x) o k)) ∙ before_all key (key x) xs a.0)

-- TABLES

abbrev pub is_slot : Object → Bool
is_slot (Chunk n) = false
is_slot (Slot n) = true

-- slots in order, of which this is said
pub record IsTable {E R : Type 0} (key : E → Object) (joined : Object → R → E) (l : List E) (f : ℕ → Option R) : Type 0 where
  pub ordered : in_order key l ≡ true
  pub at : (n : ℕ) → find_at key l (Slot n) ≡ option_map (joined (Slot n)) (f n)
  pub slots : list_all (λ e. is_slot (key e)) l ≡ true

pub no_chunk : {E : Type 0} (key : E → Object) (l : List E) (c : List ℕ) → list_all (λ e. is_slot (key e)) l ≡ true → find_at key l (Chunk c) ≡ None
no_chunk key [] c h = refl
no_chunk key (x ∷ xs) c h =
    let a = and_parts (is_slot (key x)) (list_all (λ e. is_slot (key e)) xs) h in
    rw (other (key x) c a.0) (no_chunk key xs c a.1)
  where
    other : (o : Object) (c : List ℕ) → is_slot o ≡ true → object_eq o (Chunk c) ≡ false
    other (Chunk n) c h = absurd (false≢true h)
    other (Slot n) c h = refl

pub one_table : {E R : Type 0} (key : E → Object) (joined : Object → R → E) (l m : List E) (f g : ℕ → Option R) → IsTable key joined l f → IsTable key joined m g → ((n : ℕ) → f n ≡ g n) → l ≡ m
one_table key joined l m f g h k same = one_list key l m h.ordered k.ordered each
  where
    each : (o : Object) → find_at key l o ≡ find_at key m o
    each (Chunk c) = no_chunk key l c h.slots ∙ sym (no_chunk key m c k.slots)
    each (Slot n) = h.at n ∙ ap (option_map (joined (Slot n))) (same n) ∙ sym (k.at n)

as_said : {E R : Type 0} (key : E → Object) (joined : Object → R → E) (l : List E) (f g : ℕ → Option R) → IsTable key joined l f → ((n : ℕ) → f n ≡ g n) → IsTable key joined l g
as_said key joined l f g h same = record { ordered = h.ordered; at = λ n. h.at n ∙ ap (option_map (joined (Slot n))) (same n); slots = h.slots }

empty : {E R : Type 0} (key : E → Object) (joined : Object → R → E) → IsTable key joined [] (λ (n : ℕ). None)
empty key joined = record { ordered = refl; at = λ n. refl; slots = refl }

pub found_with : {E : Type 0} (key : E → Object) (e : E) (l : List E) (o : Object) → has key l (key e) ≡ false → find_at key (with_one key e l) o ≡ (if object_eq (key e) o then Some e else find_at key l o)
found_with key e [] o absent = refl
found_with key e (x ∷ xs) o absent =
    let n = neither (object_eq (key x) (key e)) (has key xs (key e)) absent in
    by_cases (is_lt (object_cmp (key e) (key x)))
    (λ k. rw k refl)
    (λ k.
    by_cases (object_eq (key x) o)
    (λ j.
    let other : object_eq (key e) o ≡ false = ap (object_eq (key e)) (sym (object_eq-same (key x) o j)) ∙ object_eq-swap (key e) (key x) ∙ n.0 in
    rw (k, j, other) refl)
    (λ j. rw (k, j) (found_with key e xs o n.1)))

pub is_none_has : {E : Type 0} (key : E → Object) (l : List E) (o : Object) → find_at key l o ≡ None → has key l o ≡ false
is_none_has key [] o h = refl
is_none_has key (x ∷ xs) o h = by_cases (object_eq (key x) o) (λ k. let h' : Some x ≡ None = rw k at h in absurd (cc)) (λ k. let h' = rw k at h in rw k (is_none_has key xs o h'))

put_one : {E R : Type 0} (key : E → Object) (joined : Object → R → E) → IsJoin key joined → (l : List E) (f : ℕ → Option R) (n : ℕ) (x : R) → IsTable key joined l f → f n ≡ None → IsTable key joined (with_one key (joined (Slot n) x) l) (λ m. if n == m then Some x else f m)
put_one key joined join l f n x h none =
    let e = joined (Slot n) x in
    let absent : has key l (key e) ≡ false = ap (has key l) (join (Slot n) x) ∙ is_none_has key l (Slot n) (h.at n ∙ ap (option_map (joined (Slot n))) none) in
    record {
      ordered = in_order_with key e l h.ordered absent;
      at = λ m. found_with key e l (Slot m) absent ∙ ap (λ o. if object_eq o (Slot m) then Some e else find_at key l (Slot m)) (join (Slot n) x) ∙ each m;
      slots = all_with_one key (λ e. is_slot (key e)) e l (ap is_slot (join (Slot n) x)) h.slots;
    }
  where
    each : (m : ℕ) → (if n == m then Some (joined (Slot n) x) else find_at key l (Slot m)) ≡ option_map (joined (Slot m)) (if n == m then Some x else f m)
    each m = by_cases (n == m) (λ k. rw k (ap (λ (a : ℕ). Some (joined (Slot a) x)) (eqb-true n m k))) (λ k. rw k (h.at m))

put_slots : {E R : Type 0} (key : E → Object) (joined : Object → R → E) → IsJoin key joined → (l : List E) (f : ℕ → Option R) (x : R) (n u : ℕ) → IsTable key joined l f → ((m : ℕ) → n ≤ m → m < n + u → f m ≡ None) → IsTable key joined (with_all key (slots_from joined x n u) l) (λ m. if nat_le n m && nat_lt m (n + u) then Some x else f m)
put_slots key joined join l f x n zero h none = as_said key joined l f (λ m. if nat_le n m && nat_lt m (n + zero) then Some x else f m) h (λ m. let out : (nat_le n m && nat_lt m (n + zero)) ≡ false = outside n m in rw out refl)
  where
    outside : (n m : ℕ) → (nat_le n m && nat_lt m (n + zero)) ≡ false
    outside n m = grind (arith, nat_tests)
put_slots {R = R} key joined join l f x n (suc u) h none =
    let one = put_one key joined join l f n x h (none n (omega arith) (omega arith)) in
    as_said key joined (with_all key (slots_from joined x (n + 1) u) (with_one key (joined (Slot n) x) l))
    (λ m. if nat_le (n + 1) m && nat_lt m ((n + 1) + u) then Some x else (if n == m then Some x else f m))
    (λ m. if nat_le n m && nat_lt m (n + suc u) then Some x else f m)
    (put_slots key joined join (with_one key (joined (Slot n) x) l) (λ m. if n == m then Some x else f m) x (n + 1) u one (λ m from to. let other : (n == m) ≡ false = apart n m from in rw other (none m (omega (arith, from)) (omega (arith, to)))))
    (λ m. each m)
  where
    apart : (n m : ℕ) → n + 1 ≤ m → (n == m) ≡ false
    apart n m h = grind (arith, nat_tests)

    here : (n m : ℕ) → (nat_le (n + 1) m && nat_lt m ((n + 1) + u)) ≡ true → (nat_le n m && nat_lt m (n + suc u)) ≡ true
    here n m h = grind (arith, nat_tests)

    first : (n m : ℕ) → (n == m) ≡ true → (nat_le n m && nat_lt m (n + suc u)) ≡ true
    first n m h = grind (arith, nat_tests)

    neither_of : (n m : ℕ) → (nat_le (n + 1) m && nat_lt m ((n + 1) + u)) ≡ false → (n == m) ≡ false → (nat_le n m && nat_lt m (n + suc u)) ≡ false
    neither_of n m h k = grind (arith, nat_tests)

    each : (m : ℕ) → (if nat_le (n + 1) m && nat_lt m ((n + 1) + u) then Some x else (if n == m then Some x else f m)) ≡ (if nat_le n m && nat_lt m (n + suc u) then Some x else f m)
    each m =
        by_cases (nat_le (n + 1) m && nat_lt m ((n + 1) + u))
        (λ k. rw (here n m k, k) refl)
        (λ k. by_cases (n == m) (λ j. rw (first n m j, k, j) refl) (λ j. rw (neither_of n m k j, k, j) refl))

put_run : {E R : Type 0} (key : E → Object) (joined : Object → R → E) → IsJoin key joined → (l : List E) (f : ℕ → Option R) (r : Run R) → IsTable key joined l f → nat_le r.first r.last ≡ true → ((m : ℕ) → covers r m ≡ true → f m ≡ None) → IsTable key joined (with_all key (expand joined r) l) (λ m. if covers r m then Some r.rest else f m)
put_run key joined join l f r h full none =
    as_said key joined (with_all key (expand joined r) l)
    (λ m. if nat_le r.first m && nat_lt m (r.first + (r.last + 1 - r.first)) then Some r.rest else f m)
    (λ m. if covers r m then Some r.rest else f m)
    (put_slots key joined join l f r.rest r.first (r.last + 1 - r.first) h (λ m from to. none m (within r.first r.last m full from to)))
    (λ m. ap (λ b. if b then Some r.rest else f m) (same r.first r.last m full))
  where
    within : (a b m : ℕ) → nat_le a b ≡ true → a ≤ m → m < a + (b + 1 - a) → (nat_le a m && nat_le m b) ≡ true
    within a b m h from to = grind (arith, nat_tests)

    same : (a b m : ℕ) → nat_le a b ≡ true → (nat_le a m && nat_lt m (a + (b + 1 - a))) ≡ (nat_le a m && nat_le m b)
    same a b m h = grind (arith, nat_tests)

put_runs : {E R : Type 0} (key : E → Object) (joined : Object → R → E) → IsJoin key joined → (rs : List (Run R)) (l : List E) (f : ℕ → Option R) → IsTable key joined l f → ((m : ℕ) → times rs m ≤ 1) → list_all (λ (r : Run R). nat_le r.first r.last) rs ≡ true → ((m : ℕ) → 1 ≤ times rs m → f m ≡ None) → IsTable key joined (with_all key (flat_map (expand joined) rs) l) (λ m. either (f m) (rest_in rs m))
put_runs key joined join [] l f h few full none = as_said key joined l f (λ m. either (f m) None) h (λ m. keeps (f m))
  where
    keeps : {A : Type 0} (o : Option A) → o ≡ either o None
    keeps None = refl
    keeps (Some x) = refl
put_runs {E = E} {R = R} key joined join (r ∷ rs) l f h few full none =
    let a = and_parts (nat_le r.first r.last) (list_all (λ (x : Run R). nat_le x.first x.last) rs) full in
    let g : ℕ → Option R = λ m. if covers r m then Some r.rest else f m in
    let one : IsTable key joined (with_all key (expand joined r) l) g = put_run key joined join l f r h a.0 (λ m k. none m (let n : 1 + times rs m ≡ times (r ∷ rs) m = rw k refl in omega (arith, n))) in
    let rest = put_runs key joined join rs (with_all key (expand joined r) l) g one (λ m. omega (arith, few m)) a.1 (λ m some. after m some (few m) (none m)) in
    let parted : with_all key (flat_map (expand joined) (r ∷ rs)) l ≡ with_all key (flat_map (expand joined) rs) (with_all key (expand joined r) l) = with_more key (expand joined r) (flat_map (expand joined) rs) l in
    subst (λ (x : List E). IsTable key joined x (λ m. either (f m) (rest_in (r ∷ rs) m))) (sym parted)
    (as_said key joined (with_all key (flat_map (expand joined) rs) (with_all key (expand joined r) l)) (λ m. either (g m) (rest_in rs m)) (λ m. either (f m) (rest_in (r ∷ rs) m)) rest (λ m. each m (few m) (none m)))
  where
    after : (m : ℕ) → 1 ≤ times rs m → times (r ∷ rs) m ≤ 1 → (1 ≤ times (r ∷ rs) m → f m ≡ None) → (if covers r m then Some r.rest else f m) ≡ None
    after m some few none =
        by_cases (covers r m)
        (λ k. let few' = rw k at few in absurd (omega (arith, some, few')))
        (λ k. let none' = rw k at none in rw k (none' (omega (arith, some))))

    each : (m : ℕ) → times (r ∷ rs) m ≤ 1 → (1 ≤ times (r ∷ rs) m → f m ≡ None) → either (if covers r m then Some r.rest else f m) (rest_in rs m) ≡ either (f m) (rest_in (r ∷ rs) m)
    each m few none =
        by_cases (covers r m)
        (λ k. let none' = rw k at none in rw (k, none' (omega arith)) refl)
        (λ k. rw k refl)

-- what runs stand for
pub table_of : {E R : Type 0} (key : E → Object) (joined : Object → R → E) → IsJoin key joined → (rs : List (Run R)) → AreRuns rs → IsTable key joined (slot_items key joined rs) (rest_in rs)
table_of key joined join rs are = put_runs key joined join rs [] (λ m. None) (empty key joined) are.apart are.full (λ m some. refl)

-- runs that say the same stand for the same
pub same_slots : {E R : Type 0} (key : E → Object) (joined : Object → R → E) → IsJoin key joined → (rs ts : List (Run R)) → AreRuns rs → AreRuns ts → ((n : ℕ) → rest_in ts n ≡ rest_in rs n) → slot_items key joined ts ≡ slot_items key joined rs
same_slots key joined join rs ts are are' same = one_table key joined (slot_items key joined ts) (slot_items key joined rs) (rest_in ts) (rest_in rs) (table_of key joined join ts are') (table_of key joined join rs are) same

-- one run more
pub slots_more : {E R : Type 0} (key : E → Object) (joined : Object → R → E) (rs ts : List (Run R)) → slot_items key joined (rs ++ ts) ≡ with_all key (flat_map (expand joined) ts) (slot_items key joined rs)
slots_more key joined rs ts = ap (λ l. with_all key l []) (flat_map-append (expand joined) rs ts) ∙ with_more key (flat_map (expand joined) rs) (flat_map (expand joined) ts) []

-- SLOTS THAT LEAVE

filtered : {E : Type 0} (key : E → Object) (p : Object → Bool) (l : List E) (o : Object) → find_at key (filter (λ e. not (p (key e))) l) o ≡ (if p o then None else find_at key l o)
filtered key p [] o = by_cases (p o) (λ k. rw k refl) (λ k. rw k refl)
filtered key p (x ∷ xs) o =
    by_cases (object_eq (key x) o)
    (λ j.
    let same : p (key x) ≡ p o = ap p (object_eq-same (key x) o j) in
    by_cases (p o)
    (λ k. let k' : p (key x) ≡ true = same ∙ k in let rest = rw k at (filtered key p xs o) in rw (k', k) rest)
    (λ k. let k' : p (key x) ≡ false = same ∙ k in rw (k', k, j) refl))
    (λ j. by_cases (p (key x)) (λ k. rw (k, j) (filtered key p xs o)) (λ k. rw (k, j) (filtered key p xs o)))

slots_kept : {E : Type 0} (t p : E → Bool) (l : List E) → list_all p l ≡ true → list_all p (filter t l) ≡ true
slots_kept t p [] h = refl
slots_kept t p (x ∷ xs) h = let a = and_parts (p x) (list_all p xs) h in by_cases (t x) (λ k. rw (k, a.0) (slots_kept t p xs a.1)) (λ k. rw k (slots_kept t p xs a.1))

-- what is said once slots are gone
pub without_table : {E R : Type 0} (key : E → Object) (joined : Object → R → E) (l : List E) (f : ℕ → Option R) (objects : List Object) → IsTable key joined l f → IsTable key joined (without key objects l) (λ n. if listed objects (Slot n) then None else f n)
without_table key joined l f objects h = record {
  ordered = in_order_kept key (λ e. not (listed objects (key e))) l h.ordered;
  at = λ n. filtered key (listed objects) l (Slot n) ∙ ap (λ o. if listed objects (Slot n) then None else o) (h.at n) ∙ each n;
  slots = slots_kept (λ e. not (listed objects (key e))) (λ e. is_slot (key e)) l h.slots;
}
  where
    each : (n : ℕ) → (if listed objects (Slot n) then None else option_map (joined (Slot n)) (f n)) ≡ option_map (joined (Slot n)) (if listed objects (Slot n) then None else f n)
    each n = by_cases (listed objects (Slot n)) (λ k. rw k refl) (λ k. rw k refl)

-- runs without these numbers stand for the slots without them
pub gone_slots : {E R : Type 0} (key : E → Object) (joined : Object → R → E) → IsJoin key joined → (rs ts : List (Run R)) (objects : List Object) → AreRuns rs → AreRuns ts → ((n : ℕ) → rest_in ts n ≡ (if listed objects (Slot n) then None else rest_in rs n)) → slot_items key joined ts ≡ without key objects (slot_items key joined rs)
gone_slots key joined join rs ts objects are are' same =
    one_table key joined (slot_items key joined ts) (without key objects (slot_items key joined rs)) (rest_in ts) (λ n. if listed objects (Slot n) then None else rest_in rs n)
    (table_of key joined join ts are') (without_table key joined (slot_items key joined rs) (rest_in rs) objects (table_of key joined join rs are)) same
