-- Chunks, and slots behind them.
use Rattle.std.proofs.Common.{◌≡◌, ℕ, zero, suc, ◌+◌, ◌-◌, ◌^◌, ◌<◌, ◌≤◌, Bool, true, false, not, List, [], ◌∷◌, ◌++◌, map, filter, Option, Some, None, refl, sym, ap, ◌∙◌, subst, arith}
use Rattle.std.specs.Prelude.{nat_le, nat_lt, ◌&&◌, ◌==◌, option_map}
use Rattle.std.specs.List.{list_all, list_any, flat_map, prefix_len}
use Rattle.std.specs.Ordering.{is_lt, nat_cmp}
use Rattle.std.proofs.lemmas.Bool.{and_parts, false≢true, leb-true, le-leb, eqb-true, eq-eqb, ltb-true, ltb-false, lt-ltb}
use Rattle.std.proofs.lemmas.Bool.Decides.{nat_tests}
use Rattle.std.proofs.lemmas.List.{append_assoc}
use Rattle.psb_bytes.specs.Objects.{object_eq, object_cmp}
use Rattle.psb_bytes.specs.declared.ids.Object.{Object}
use Rattle.psb_bytes.specs.declared.ids.Object.TheVariants.{Chunk, Slot}
use Rattle.psb_model.specs.Words.{has, listed, slots, with_one, with_all, without}
use Rattle.psb_model.specs.Grammar.{ascend}
use Rattle.psb_model.proofs.ByObject.{by_cases}
use Rattle.psb_model.proofs.Steady.{neither}
use Rattle.peer_lists.specs.Chunks.{is_chunk}
use Rattle.peer_lists.specs.Entries.{in_order, find_at, from_object, lacks_all}
use Rattle.slot_runs.specs.declared.run.Run.{Run}
use Rattle.slot_runs.specs.Runs.{covers, rest_in, AreRuns, IsNext}
use Rattle.peer_lists.specs.Walks.{IsSlotFrom}
use Rattle.peer_lists.specs.Slots.{slots_from, expand, slot_items}
use Rattle.peer_lists.specs.declared.entry_list.EntryList.{EntryList}
use Rattle.peer_lists.specs.Trees.{tree_items}
use Rattle.slot_runs.specs.SlotRuns.{runs}
use Rattle.peer_lists.specs.EntryLists.{items, IsList}
use Rattle.peer_lists.proofs.Ordered.{is_false}
use Rattle.peer_lists.proofs.Found.{lacks_find, rest_ordered}
use Rattle.peer_lists.proofs.Trees.{IsJoin}
use Rattle.slot_runs.proofs.Runs.{are_more, single, either, rest-append}
use Rattle.slot_runs.proofs.Slots.{find-append}
use Rattle.peer_lists.proofs.Tables.{is_slot, IsTable, no_chunk, table_of, slots_more, none_before}

abbrev pub chunks : {E : Type 0} → (E → Object) → List E → Bool
chunks key = list_all (λ e. is_chunk (key e))

abbrev pub are_slots : {E : Type 0} → (E → Object) → List E → Bool
are_slots key = list_all (λ e. is_slot (key e))

pub no_slot : {E : Type 0} (key : E → Object) (l : List E) (n : ℕ) → chunks key l ≡ true → find_at key l (Slot n) ≡ None
no_slot key [] n h = refl
no_slot key (x ∷ xs) n h =
    let a = and_parts (is_chunk (key x)) (chunks key xs) h in
    rw (other (key x) n a.0) (no_slot key xs n a.1)
  where
    other : (o : Object) (n : ℕ) → is_chunk o ≡ true → object_eq o (Slot n) ≡ false
    other (Chunk c) n h = refl
    other (Slot m) n h = absurd (false≢true h)

-- WHAT IS FOUND

pub chunk_found : {E : Type 0} (key : E → Object) (c s : List E) (name : List ℕ) → are_slots key s ≡ true → find_at key c (Chunk name) ≡ find_at key (c ++ s) (Chunk name)
chunk_found key c s name h = sym (find-append (λ e. object_eq (key e) (Chunk name)) c s ∙ ap (either (find_at key c (Chunk name))) (no_chunk key s name h) ∙ keeps (find_at key c (Chunk name)))
  where
    keeps : {A : Type 0} (o : Option A) → either o None ≡ o
    keeps None = refl
    keeps (Some x) = refl

pub slot_found : {E : Type 0} (key : E → Object) (c s : List E) (n : ℕ) → chunks key c ≡ true → find_at key s (Slot n) ≡ find_at key (c ++ s) (Slot n)
slot_found key c s n h = sym (find-append (λ e. object_eq (key e) (Slot n)) c s ∙ ap (λ o. either o (find_at key s (Slot n))) (no_slot key c n h))

-- CHUNKS THAT COME AND GO

chunk_first : (a b : Object) → is_chunk a ≡ true → is_slot b ≡ true → is_lt (object_cmp a b) ≡ true
chunk_first (Chunk a) (Chunk b) h k = absurd (false≢true k)
chunk_first (Chunk a) (Slot b) h k = refl
chunk_first (Slot a) b h k = absurd (false≢true h)

slot_last : (a b : Object) → is_slot a ≡ true → is_chunk b ≡ true → is_lt (object_cmp a b) ≡ false
slot_last (Chunk a) b h k = absurd (false≢true h)
slot_last (Slot a) (Chunk b) h k = refl
slot_last (Slot a) (Slot b) h k = absurd (false≢true k)

pub chunk_in : {E : Type 0} (key : E → Object) (e : E) (c s : List E) → is_chunk (key e) ≡ true → are_slots key s ≡ true → with_one key e c ++ s ≡ with_one key e (c ++ s)
chunk_in key e [] [] h k = refl
chunk_in key e [] (y ∷ ys) h k = let a = and_parts (is_slot (key y)) (are_slots key ys) k in rw (chunk_first (key e) (key y) h a.0) refl
chunk_in key e (x ∷ xs) s h k = by_cases (is_lt (object_cmp (key e) (key x))) (λ j. rw j refl) (λ j. rw j (ap (λ l. x ∷ l) (chunk_in key e xs s h k)))

filter-append : {A : Type 0} (p : A → Bool) (a b : List A) → filter p (a ++ b) ≡ filter p a ++ filter p b
filter-append p [] b = refl
filter-append p (x ∷ xs) b = by_cases (p x) (λ k. rw k (ap (λ l. x ∷ l) (filter-append p xs b))) (λ k. rw k (filter-append p xs b))

slots_stay : {E : Type 0} (key : E → Object) (o : Object) (s : List E) → is_chunk o ≡ true → are_slots key s ≡ true → without key (o ∷ []) s ≡ s
slots_stay key o [] h k = refl
slots_stay key o (x ∷ xs) h k =
    let a = and_parts (is_slot (key x)) (are_slots key xs) k in
    rw (other o (key x) h a.0) (ap (λ l. x ∷ l) (slots_stay key o xs h a.1))
  where
    other : (o p : Object) → is_chunk o ≡ true → is_slot p ≡ true → object_eq o p ≡ false
    other (Chunk a) (Chunk b) h k = absurd (false≢true k)
    other (Chunk a) (Slot b) h k = refl
    other (Slot a) p h k = absurd (false≢true h)

pub chunk_out : {E : Type 0} (key : E → Object) (o : Object) (c s : List E) → is_chunk o ≡ true → are_slots key s ≡ true → without key (o ∷ []) c ++ s ≡ without key (o ∷ []) (c ++ s)
chunk_out key o c s h k = ap (λ l. without key (o ∷ []) c ++ l) (sym (slots_stay key o s h k)) ∙ sym (filter-append (λ e. not (listed (o ∷ []) (key e))) c s)

chunks_stay : {E : Type 0} (key : E → Object) (ns : List ℕ) (c : List E) → chunks key c ≡ true → without key (slots ns) c ≡ c
chunks_stay key ns [] h = refl
chunks_stay key ns (x ∷ xs) h =
    let a = and_parts (is_chunk (key x)) (chunks key xs) h in
    rw (other ns (key x) a.0) (ap (λ l. x ∷ l) (chunks_stay key ns xs a.1))
  where
    other : (ns : List ℕ) (o : Object) → is_chunk o ≡ true → listed (slots ns) o ≡ false
    other [] o h = refl
    other (n ∷ ns) (Chunk c) h = other ns (Chunk c) h
    other (n ∷ ns) (Slot m) h = absurd (false≢true h)

pub slots_out : {E : Type 0} (key : E → Object) (ns : List ℕ) (c s s' : List E) → chunks key c ≡ true → s' ≡ without key (slots ns) s → c ++ s' ≡ without key (slots ns) (c ++ s)
slots_out key ns c s s' h e = ap (λ l. c ++ l) e ∙ ap (λ l. l ++ without key (slots ns) s) (sym (chunks_stay key ns c h)) ∙ sym (filter-append (λ x. not (listed (slots ns) (key x))) c s)

pub slots_in : {E : Type 0} (key : E → Object) (es c s : List E) → are_slots key es ≡ true → chunks key c ≡ true → c ++ with_all key es s ≡ with_all key es (c ++ s)
slots_in key [] c s h k = refl
slots_in {E = E} key (e ∷ es) c s h k =
    let a = and_parts (is_slot (key e)) (are_slots key es) h in
    slots_in key es c (with_one key e s) a.1 k ∙ ap (with_all key es) (sym (one_in e c s a.0 k))
  where
    one_in : (e : E) (c s : List E) → is_slot (key e) ≡ true → chunks key c ≡ true → with_one key e (c ++ s) ≡ c ++ with_one key e s
    one_in e [] s h k = refl
    one_in e (x ∷ xs) s h k = let a = and_parts (is_chunk (key x)) (chunks key xs) k in rw (slot_last (key e) (key x) h a.0) (ap (λ l. x ∷ l) (one_in e xs s h a.1))

pub lacks_front : {E : Type 0} (key : E → Object) (c s : List E) (o : Object) → has key (c ++ s) o ≡ false → has key c o ≡ false
lacks_front key [] s o h = refl
lacks_front key (x ∷ xs) s o h = let n = neither (object_eq (key x) o) (has key (xs ++ s) o) h in rw n.0 (lacks_front key xs s o n.1)

lacks_back : {E : Type 0} (key : E → Object) (c s : List E) (o : Object) → has key (c ++ s) o ≡ false → has key s o ≡ false
lacks_back key [] s o h = h
lacks_back key (x ∷ xs) s o h = lacks_back key xs s o (neither (object_eq (key x) o) (has key (xs ++ s) o) h).1

-- SLOTS THAT COME

-- of a slot that is not there nothing is said
pub none_said : {E R : Type 0} (key : E → Object) (joined : Object → R → E) (s : List E) (f : ℕ → Option R) (n : ℕ) → IsTable key joined s f → has key s (Slot n) ≡ false → f n ≡ None
none_said {R = R} key joined s f n h lacks = of (f n) (sym (h.at n) ∙ lacks_find key s (Slot n) lacks)
  where
    of : (o : Option R) → option_map (joined (Slot n)) o ≡ None → o ≡ None
    of None h = refl
    of (Some x) h = absurd (cc)

slots_lacked : {E R : Type 0} (key : E → Object) (joined : Object → R → E) → IsJoin key joined → (x : R) (n u m : ℕ) (l : List E) → lacks_all key (slots_from joined x n u) l ≡ true → n ≤ m → m < n + u → has key l (Slot m) ≡ false
slots_lacked key joined join x n zero m l h from to = absurd (omega (arith, from, to))
slots_lacked key joined join x n (suc u) m l h from to =
    let a = and_parts (not (has key l (key (joined (Slot n) x)))) (lacks_all key (slots_from joined x (n + 1) u) l) h in
    by_cases (n == m)
    (λ k. let here : has key l (Slot n) ≡ false = ap (has key l) (sym (join (Slot n) x)) ∙ is_false (has key l (key (joined (Slot n) x))) a.0 in ap (λ i. has key l (Slot i)) (sym (eqb-true n m k)) ∙ here)
    (λ k. slots_lacked key joined join x (n + 1) u m l a.1 (above n m k from) (omega (arith, to)))
  where
    above : (n m : ℕ) → (n == m) ≡ false → n ≤ m → n + 1 ≤ m
    above n m h le = grind (arith, nat_tests)

from_slots : {E R : Type 0} (key : E → Object) (joined : Object → R → E) → IsJoin key joined → (x : R) (n u : ℕ) → are_slots key (slots_from joined x n u) ≡ true
from_slots key joined join x n zero = refl
from_slots key joined join x n (suc u) = rw (ap is_slot (join (Slot n) x)) (from_slots key joined join x (n + 1) u)

-- a run comes
pub run_in : {E R : Type 0} (key : E → Object) (joined : Object → R → E) → IsJoin key joined → (c : List E) (rs ts : List (Run R)) (x : R) (first count : ℕ) → chunks key c ≡ true → AreRuns rs → 0 < count → first + count < 2 ^ 32 → lacks_all key (slots_from joined x first count) (c ++ slot_items key joined rs) ≡ true → ts ≡ rs ++ record { first = first; last = first + (count - 1); rest = x } ∷ [] → AreRuns ts × (c ++ slot_items key joined ts ≡ with_all key (slots_from joined x first count) (c ++ slot_items key joined rs))
run_in {E = E} {R = R} key joined join c rs ts x first count h are some fits lacks is =
    let r : Run R = record { first = first; last = first + (count - 1); rest = x } in
    let table = table_of key joined join rs are in
    let none : (m : ℕ) → covers r m ≡ true → rest_in rs m ≡ None = λ m k. let p = and_parts (nat_le first m) (nat_le m (first + (count - 1))) k in
    none_said key joined (slot_items key joined rs) (rest_in rs) m table (lacks_back key c (slot_items key joined rs) (Slot m) (slots_lacked key joined join x first count m (c ++ slot_items key joined rs) lacks (leb-true first m p.0) (omega (arith, leb-true m (first + (count - 1)) p.1, some)))) in
    let more : AreRuns (rs ++ r ∷ []) = are_more rs r are (le-leb first (first + (count - 1)) (omega arith)) (lt-ltb (first + (count - 1)) (2 ^ 32) (omega (arith, fits, some))) none in
    let same : flat_map (expand joined) (r ∷ []) ≡ slots_from joined x first count = nothing_behind (expand joined r) ∙ ap (slots_from joined x first) (as_many first count some) in (
      subst AreRuns (sym is) more,
      ap (λ l. c ++ slot_items key joined l) is ∙ ap (λ l. c ++ l) (slots_more key joined rs (r ∷ []) ∙ ap (λ l. with_all key l (slot_items key joined rs)) same) ∙ slots_in key (slots_from joined x first count) c (slot_items key joined rs) (from_slots key joined join x first count) h,
    )
  where
    as_many : (a n : ℕ) → 0 < n → a + (n - 1) + 1 - a ≡ n
    as_many a n h = omega (arith, h)

    nothing_behind : (l : List E) → l ++ [] ≡ l
    nothing_behind [] = refl
    nothing_behind (y ∷ ys) = ap (λ l. y ∷ l) (nothing_behind ys)

-- slots that come one by one
abbrev one_of : List ℕ → ℕ → Bool
one_of ns m = list_any (λ (n : ℕ). n == m) ns

above : (n : ℕ) (ns : List ℕ) (m : ℕ) → ascend (n ∷ ns) ≡ true → one_of ns m ≡ true → n < m
above n [] m h k = absurd (false≢true k)
above n (x ∷ xs) m h k =
    let a = and_parts (nat_lt n x) (ascend (x ∷ xs)) h in
    let lt = ltb-true n x a.0 in
    by_cases (x == m)
    (λ j. omega (arith, lt, eqb-true x m j))
    (λ j. let k' = rw j at k in omega (arith, lt, above x xs m a.1 k'))

rest_ascends : (n : ℕ) (ns : List ℕ) → ascend (n ∷ ns) ≡ true → ascend ns ≡ true
rest_ascends n [] h = refl
rest_ascends n (x ∷ xs) h = (and_parts (nat_lt n x) (ascend (x ∷ xs)) h).1

are_each : {R : Type 0} (x : R) (rs : List (Run R)) (ns : List ℕ) → AreRuns rs → ascend ns ≡ true → list_all (λ (n : ℕ). nat_lt n (2 ^ 32)) ns ≡ true → ((m : ℕ) → one_of ns m ≡ true → rest_in rs m ≡ None) → AreRuns (rs ++ map (single x) ns)
are_each x rs [] are up low none = subst AreRuns (sym (nothing_behind rs)) are
  where
    nothing_behind : {A : Type 0} (l : List A) → l ++ [] ≡ l
    nothing_behind [] = refl
    nothing_behind (y ∷ ys) = ap (λ l. y ∷ l) (nothing_behind ys)
are_each {R = R} x rs (n ∷ ns) are up low none =
    let small = and_parts (nat_lt n (2 ^ 32)) (list_all (λ (m : ℕ). nat_lt m (2 ^ 32)) ns) low in
    let first : (n == n) ≡ true = eq-eqb n n refl in
    let one : AreRuns (rs ++ single x n ∷ []) = are_more rs (single x n) are (le-leb n n (omega arith)) small.0 (λ m k. let p = and_parts (nat_le n m) (nat_le m n) k in let same : n ≡ m = omega (arith, leb-true n m p.0, leb-true m n p.1) in ap (rest_in rs) (sym same) ∙ none n (rw first refl)) in
    subst AreRuns (append_assoc rs (single x n ∷ []) (map (single x) ns))
    (are_each x (rs ++ single x n ∷ []) ns one (rest_ascends n ns up) small.1 (λ m k.
    let lt = above n ns m up k in
    let here : one_of (n ∷ ns) m ≡ true = by_cases (n == m) (λ j. rw j refl) (λ j. rw j k) in
    let out : covers (single x n) m ≡ false = outside n m lt in
    rest-append rs (single x n ∷ []) m ∙ ap (λ o. either o (rest_in (single x n ∷ []) m)) (none m here) ∙ rw out refl))
  where
    outside : (n m : ℕ) → n < m → (nat_le n m && nat_le m n) ≡ false
    outside n m h = grind (arith, nat_tests)

each_lacked : {E R : Type 0} (key : E → Object) (joined : Object → R → E) → IsJoin key joined → (x : R) (ns : List ℕ) (m : ℕ) (l : List E) → lacks_all key (map (λ n. joined (Slot n) x) ns) l ≡ true → one_of ns m ≡ true → has key l (Slot m) ≡ false
each_lacked key joined join x [] m l h k = absurd (false≢true k)
each_lacked key joined join x (n ∷ ns) m l h k =
    let a = and_parts (not (has key l (key (joined (Slot n) x)))) (lacks_all key (map (λ n. joined (Slot n) x) ns) l) h in
    by_cases (n == m)
    (λ j. let here : has key l (Slot n) ≡ false = ap (has key l) (sym (join (Slot n) x)) ∙ is_false (has key l (key (joined (Slot n) x))) a.0 in ap (λ i. has key l (Slot i)) (sym (eqb-true n m j)) ∙ here)
    (λ j. let k' = rw j at k in each_lacked key joined join x ns m l a.1 k')

each_slot : {E R : Type 0} (key : E → Object) (joined : Object → R → E) → IsJoin key joined → (x : R) (ns : List ℕ) → are_slots key (map (λ n. joined (Slot n) x) ns) ≡ true
each_slot key joined join x [] = refl
each_slot key joined join x (n ∷ ns) = rw (ap is_slot (join (Slot n) x)) (each_slot key joined join x ns)

each_expands : {E R : Type 0} (joined : Object → R → E) (x : R) (ns : List ℕ) → flat_map (expand joined) (map (single x) ns) ≡ map (λ n. joined (Slot n) x) ns
each_expands joined x [] = refl
each_expands joined x (n ∷ ns) = let one : n + 1 - n ≡ 1 = omega arith in rw one (ap (λ l. joined (Slot n) x ∷ l) (each_expands joined x ns))

pub each_in : {E R : Type 0} (key : E → Object) (joined : Object → R → E) → IsJoin key joined → (c : List E) (rs ts : List (Run R)) (x : R) (ns : List ℕ) → chunks key c ≡ true → AreRuns rs → ascend ns ≡ true → list_all (λ (n : ℕ). nat_lt n (2 ^ 32)) ns ≡ true → lacks_all key (map (λ n. joined (Slot n) x) ns) (c ++ slot_items key joined rs) ≡ true → ts ≡ rs ++ map (single x) ns → AreRuns ts × (c ++ slot_items key joined ts ≡ with_all key (map (λ n. joined (Slot n) x) ns) (c ++ slot_items key joined rs))
each_in key joined join c rs ts x ns h are up low lacks is =
    let table = table_of key joined join rs are in (
      subst AreRuns (sym is) (are_each x rs ns are up low (λ m k. none_said key joined (slot_items key joined rs) (rest_in rs) m table (lacks_back key c (slot_items key joined rs) (Slot m) (each_lacked key joined join x ns m (c ++ slot_items key joined rs) lacks k)))),
      ap (λ l. c ++ slot_items key joined l) is
          ∙ ap (λ l. c ++ l) (slots_more key joined rs (map (single x) ns) ∙ ap (λ l. with_all key l (slot_items key joined rs)) (each_expands joined x ns))
          ∙ slots_in key (map (λ n. joined (Slot n) x) ns) c (slot_items key joined rs) (each_slot key joined join x ns) h,
    )

-- THE FIRST SLOT FROM A NUMBER ON

abbrev lower : {E : Type 0} → (E → Object) → ℕ → E → Bool
lower key n e = is_lt (object_cmp (key e) (Slot n))

pub past_chunks : {E : Type 0} (key : E → Object) (c s : List E) (n : ℕ) → chunks key c ≡ true → from_object key (Slot n) (c ++ s) ≡ from_object key (Slot n) s
past_chunks key [] s n h = refl
past_chunks key (x ∷ xs) s n h =
    let a = and_parts (is_chunk (key x)) (chunks key xs) h in
    let less : lower key n x ≡ true = chunk_first (key x) (Slot n) a.0 refl in
    let more : 1 + prefix_len (lower key n) (xs ++ s) ≡ suc (prefix_len (lower key n) (xs ++ s)) = omega arith in
    rw (less, more) (past_chunks key xs s n a.1)

lt_test : (a b : ℕ) → is_lt (nat_cmp a b) ≡ nat_lt a b
lt_test a b = grind (arith, nat_tests)

no_drop : {E : Type 0} (key : E → Object) (x : E) (xs : List E) (n : ℕ) → in_order key (x ∷ xs) ≡ true → are_slots key xs ≡ true → key x ≡ Slot n → from_object key (Slot (n + 1)) xs ≡ xs
no_drop key x [] n h k e = refl
no_drop key x (y ∷ ys) n h k e =
    let a = and_parts (list_all (λ z. is_lt (object_cmp (key x) (key z))) (y ∷ ys)) (in_order key (y ∷ ys)) h in
    let b = and_parts (is_lt (object_cmp (key x) (key y))) (list_all (λ z. is_lt (object_cmp (key x) (key z))) ys) a.0 in
    let c = and_parts (is_slot (key y)) (are_slots key ys) k in
    let keeps : lower key (n + 1) y ≡ false = of (key y) c.0 (ap (λ o. is_lt (object_cmp o (key y))) (sym e) ∙ b.0) in
    rw keeps refl
  where
    of : (o : Object) → is_slot o ≡ true → is_lt (object_cmp (Slot n) o) ≡ true → is_lt (object_cmp o (Slot (n + 1))) ≡ false
    of (Chunk c) h k = absurd (false≢true h)
    of (Slot m) h k = lt_test m (n + 1) ∙ above n m (sym (lt_test n m) ∙ k)
      where
        above : (n m : ℕ) → nat_lt n m ≡ true → nat_lt m (n + 1) ≡ false
        above n m h = grind (arith, nat_tests)

drops : {E : Type 0} (key : E → Object) (x : E) (xs : List E) (n : ℕ) → lower key n x ≡ true → from_object key (Slot n) (x ∷ xs) ≡ from_object key (Slot n) xs
drops key x xs n h = let more : 1 + prefix_len (lower key n) xs ≡ suc (prefix_len (lower key n) xs) = omega arith in rw (h, more) refl

slot_of : (o : Object) → is_slot o ≡ true → (n : ℕ) × (o ≡ Slot n)
slot_of (Chunk c) h = absurd (false≢true h)
slot_of (Slot n) h = (n, refl)

pub first_at : {E : Type 0} (key : E → Object) (l : List E) (n m : ℕ) (e : E) → in_order key l ≡ true → are_slots key l ≡ true → ((k : ℕ) → n ≤ k → k < m → find_at key l (Slot k) ≡ None) → n ≤ m → find_at key l (Slot m) ≡ Some e → from_object key (Slot n) l ≡ e ∷ from_object key (Slot (m + 1)) l
first_at key [] n m e h k none le found = absurd (cc)
first_at {E = E} key (x ∷ xs) n m e h k none le found =
    let a = and_parts (is_slot (key x)) (are_slots key xs) k in
    let s = slot_of (key x) a.0 in
    let j = s.0 in
    let lower_is : (i : ℕ) → lower key i x ≡ nat_lt j i = λ i. ap (λ o. is_lt (object_cmp o (Slot i))) s.1 ∙ lt_test j i in
    let at : (i : ℕ) → object_eq (key x) (Slot i) ≡ (j == i) = λ i. ap (λ o. object_eq o (Slot i)) s.1 in
    by_cases (nat_lt j n)
    (λ b.
    let lt = ltb-true j n b in
    let other : (i : ℕ) → n ≤ i → find_at key xs (Slot i) ≡ find_at key (x ∷ xs) (Slot i) = λ i from. let away : object_eq (key x) (Slot i) ≡ false = at i ∙ apart j i (omega (arith, lt, from)) in rw away refl in
    let later : nat_lt j (m + 1) ≡ true = lt-ltb j (m + 1) (omega (arith, lt, le)) in
    drops key x xs n (lower_is n ∙ b)
    ∙ first_at key xs n m e (rest_ordered key x xs h) a.1 (λ i from to. other i from ∙ none i from to) le (other m le ∙ found)
    ∙ ap (λ l. e ∷ l) (sym (drops key x xs (m + 1) (lower_is (m + 1) ∙ later))))
    (λ b.
    let ge = ltb-false j n b in
    let own : find_at key (x ∷ xs) (Slot j) ≡ Some x = let here : object_eq (key x) (Slot j) ≡ true = at j ∙ eq-eqb j j refl in rw here refl in
    by_cases (nat_lt j m)
    (λ c. let bad : Some x ≡ None = sym own ∙ none j ge (ltb-true j m c) in absurd (cc))
    (λ c.
    by_cases (nat_lt m j)
    (λ d.
    let bad : Some e ≡ None = sym found ∙ none_before key x xs (Slot m) h (ap (λ o. is_lt (object_cmp (Slot m) o)) s.1 ∙ lt_test m j ∙ d) in
    absurd (cc))
    (λ d.
    let same : j ≡ m = omega (arith, ltb-false j m c, ltb-false m j d) in
    let both : Some x ≡ Some e = sym own ∙ ap (λ i. find_at key (x ∷ xs) (Slot i)) same ∙ found in
    let is : x ≡ e = cc in
    let next : nat_lt j (m + 1) ≡ true = lt-ltb j (m + 1) (omega (arith, same)) in
    let stays : lower key n x ≡ false = lower_is n ∙ b in
    let whole : from_object key (Slot n) (x ∷ xs) ≡ x ∷ xs = rw stays refl in
    whole ∙ ap (λ y. y ∷ xs) is ∙ ap (λ l. e ∷ l) (sym (drops key x xs (m + 1) (lower_is (m + 1) ∙ next) ∙ no_drop key x xs m h a.1 (s.1 ∙ ap (λ i. Slot i) same))))))
  where
    apart : (a b : ℕ) → a < b → (a == b) ≡ false
    apart a b h = grind (arith, nat_tests)

pub none_from : {E : Type 0} (key : E → Object) (l : List E) (n : ℕ) → are_slots key l ≡ true → ((k : ℕ) → n ≤ k → find_at key l (Slot k) ≡ None) → from_object key (Slot n) l ≡ []
none_from key [] n k none = refl
none_from {E = E} key (x ∷ xs) n k none =
    let a = and_parts (is_slot (key x)) (are_slots key xs) k in
    let s = slot_of (key x) a.0 in
    let j = s.0 in
    let lower_is : lower key n x ≡ nat_lt j n = ap (λ o. is_lt (object_cmp o (Slot n))) s.1 ∙ lt_test j n in
    let at : (i : ℕ) → object_eq (key x) (Slot i) ≡ (j == i) = λ i. ap (λ o. object_eq o (Slot i)) s.1 in
    by_cases (nat_lt j n)
    (λ b.
    let lt = ltb-true j n b in
    drops key x xs n (lower_is ∙ b) ∙ none_from key xs n a.1 (λ i from. let away : object_eq (key x) (Slot i) ≡ false = at i ∙ apart j i (omega (arith, lt, from)) in rw away at (none i from)))
    (λ b. let here : object_eq (key x) (Slot j) ≡ true = at j ∙ eq-eqb j j refl in let bad : Some x ≡ None = rw here at (none j (ltb-false j n b)) in absurd (cc))
  where
    apart : (a b : ℕ) → a < b → (a == b) ≡ false
    apart a b h = grind (arith, nat_tests)

-- all slots come from the first number on
pub from_start : {E : Type 0} (key : E → Object) (s : List E) → are_slots key s ≡ true → from_object key (Slot 0) s ≡ s
from_start key [] k = refl
from_start key (x ∷ xs) k =
    let a = and_parts (is_slot (key x)) (are_slots key xs) k in
    let j = slot_of (key x) a.0 in
    let stays : lower key 0 x ≡ false = ap (λ o. is_lt (object_cmp o (Slot 0))) j.1 ∙ lt_test j.0 0 ∙ none_less j.0 in
    rw stays refl
  where
    none_less : (n : ℕ) → nat_lt n 0 ≡ false
    none_less n = grind (arith, nat_tests)

-- the first slot that runs have from a number on
pub none_next : {E R : Type 0} (key : E → Object) (joined : Object → R → E) → IsJoin key joined → (c : List E) (rs : List (Run R)) (n : ℕ) → chunks key c ≡ true → AreRuns rs → IsNext rs n None → IsSlotFrom key (c ++ slot_items key joined rs) n None
none_next key joined join c rs n h are next =
    let table = table_of key joined join rs are in
    past_chunks key c (slot_items key joined rs) n h ∙ none_from key (slot_items key joined rs) n table.slots (λ k from. table.at k ∙ ap (option_map (joined (Slot k))) (next k from))

pub some_next : {E R : Type 0} (key : E → Object) (joined : Object → R → E) → IsJoin key joined → (c : List E) (rs : List (Run R)) (n : ℕ) (r : Run R) (e : E) → chunks key c ≡ true → AreRuns rs → IsNext rs n (Some r) → e ≡ joined (Slot r.first) r.rest → IsSlotFrom key (c ++ slot_items key joined rs) n (Some e)
some_next key joined join c rs n r e h are next is =
    let table = table_of key joined join rs are in
    let s = slot_items key joined rs in (
      r.first,
      ap key is ∙ join (Slot r.first) r.rest,
      next.0,
      past_chunks key c s n h
          ∙ first_at key s n r.first e table.ordered table.slots (λ k from to. table.at k ∙ ap (option_map (joined (Slot k))) (next.3.none k from to)) next.0 (table.at r.first ∙ ap (option_map (joined (Slot r.first))) (next.2.all r.first (omega arith) next.1) ∙ ap (λ x. Some x) (sym is))
          ∙ ap (λ l. e ∷ l) (sym (past_chunks key c s (r.first + 1) h)),
    )

-- chunks, and slots behind them, are in order
pub both_ordered : {E : Type 0} (key : E → Object) (c s : List E) → in_order key c ≡ true → chunks key c ≡ true → in_order key s ≡ true → are_slots key s ≡ true → in_order key (c ++ s) ≡ true
both_ordered key [] s h k i j = i
both_ordered {E = E} key (x ∷ xs) s h k i j =
    let a = and_parts (list_all (λ y. is_lt (object_cmp (key x) (key y))) xs) (in_order key xs) h in
    let b = and_parts (is_chunk (key x)) (chunks key xs) k in
    rw (all_behind xs b.0 a.0) (both_ordered key xs s a.1 b.1 i j)
  where
    before_slots : (l : List E) → is_chunk (key x) ≡ true → are_slots key l ≡ true → list_all (λ y. is_lt (object_cmp (key x) (key y))) l ≡ true
    before_slots [] h k = refl
    before_slots (y ∷ ys) h k = let a = and_parts (is_slot (key y)) (are_slots key ys) k in rw (chunk_first (key x) (key y) h a.0) (before_slots ys h a.1)

    all_behind : (l : List E) → is_chunk (key x) ≡ true → list_all (λ y. is_lt (object_cmp (key x) (key y))) l ≡ true → list_all (λ y. is_lt (object_cmp (key x) (key y))) (l ++ s) ≡ true
    all_behind [] h k = before_slots s h j
    all_behind (y ∷ ys) h k = let a = and_parts (is_lt (object_cmp (key x) (key y))) (list_all (λ y. is_lt (object_cmp (key x) (key y))) ys) k in rw a.0 (all_behind ys h a.1)

pub list_ordered : {E R : Type 0} (key : E → Object) (joined : Object → R → E) → IsJoin key joined → (l : EntryList E R) → IsList key joined l → in_order key (items key joined l) ≡ true
list_ordered key joined join l h =
    let table = table_of key joined join (runs l.slots) h.slots.are in
    both_ordered key (tree_items key joined l.chunks) (slot_items key joined (runs l.slots)) h.ordered h.chunks table.ordered table.slots

-- no slot has a number of more than four bytes
pub none_large : {E R : Type 0} (key : E → Object) (joined : Object → R → E) → IsJoin key joined → (c : List E) (rs : List (Run R)) → chunks key c ≡ true → AreRuns rs → from_object key (Slot (2 ^ 32)) (c ++ slot_items key joined rs) ≡ []
none_large key joined join c rs h are =
    let table = table_of key joined join rs are in
    past_chunks key c (slot_items key joined rs) (2 ^ 32) h
    ∙ none_from key (slot_items key joined rs) (2 ^ 32) table.slots (λ k from. table.at k ∙ ap (option_map (joined (Slot k))) (none rs k are.small from))
  where
    outside : (f l m : ℕ) → nat_lt l (2 ^ 32) ≡ true → 2 ^ 32 ≤ m → (nat_le f m && nat_le m l) ≡ false
    outside f l m h le = by_cases (nat_le m l) (λ k. absurd (omega (arith, le, leb-true m l k, ltb-true l (2 ^ 32) h))) (λ k. both (nat_le f m) (nat_le m l) k)
      where
        both : (a b : Bool) → b ≡ false → (a && b) ≡ false
        both true b h = h
        both false b h = refl

    none : {R : Type 0} (rs : List (Run R)) (m : ℕ) → list_all (λ (r : Run R). nat_lt r.last (2 ^ 32)) rs ≡ true → 2 ^ 32 ≤ m → rest_in rs m ≡ None
    none [] m h le = refl
    none (r ∷ rs) m h le = let a = and_parts (nat_lt r.last (2 ^ 32)) (list_all (λ (x : Run _). nat_lt x.last (2 ^ 32)) rs) h in rw (outside r.first r.last m a.0 le) (none rs m a.1 le)
