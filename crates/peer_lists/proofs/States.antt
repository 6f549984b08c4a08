-- An entry of a list that is changed.
use Rattle.std.proofs.Common.{◌≡◌, ℕ, Bool, true, false, List, [], ◌∷◌, ◌++◌, map, Option, Some, refl, sym, ap, ◌∙◌, arith}
use Rattle.std.specs.Prelude.{◌&&◌, ◌==◌, if◌then◌else◌}
use Rattle.std.specs.List.{list_all}
use Rattle.std.specs.Ordering.{is_lt}
use Rattle.std.proofs.lemmas.Bool.{and_parts, false≢true, eqb-true}
use Rattle.std.proofs.lemmas.Bool.Decides.{nat_tests}
use Rattle.psb_bytes.specs.Objects.{object_eq, object_cmp}
use Rattle.psb_bytes.specs.declared.ids.Object.{Object}
use Rattle.psb_bytes.specs.declared.ids.Object.TheVariants.{Chunk, Slot}
use Rattle.psb_model.specs.Words.{has}
use Rattle.psb_model.proofs.ByObject.{by_cases, object_eq-same, object_eq-refl}
use Rattle.peer_lists.specs.Chunks.{is_chunk}
use Rattle.peer_lists.specs.Entries.{in_order, find_at}
use Rattle.slot_runs.specs.declared.run.Run.{Run}
use Rattle.slot_runs.specs.Runs.{rest_in, AreRuns}
use Rattle.peer_lists.specs.Slots.{slot_items}
use Rattle.peer_lists.proofs.Ordered.{before_all}
use Rattle.peer_lists.proofs.Trees.{IsJoin}
use Rattle.peer_lists.proofs.Tables.{is_slot, IsTable, one_table, table_of}
use Rattle.peer_lists.proofs.Both.{chunks}

-- the entry at the object is changed by f
abbrev pub change : {E : Type 0} → (E → Object) → Object → (E → E) → List E → List E
change key o f = map (λ e. if object_eq (key e) o then f e else e)

-- the entry is another
abbrev pub set_at : {E : Type 0} → (E → Object) → Object → E → List E → List E
set_at key o x = change key o (λ _. x)

-- what reads only keys reads the same
all_keys : {E : Type 0} (key : E → Object) (p : Object → Bool) (o : Object) (x : E) (l : List E) → key x ≡ o → list_all (λ e. p (key e)) (set_at key o x l) ≡ list_all (λ e. p (key e)) l
all_keys key p o x [] is = refl
all_keys key p o x (e ∷ es) is =
    by_cases (object_eq (key e) o)
    (λ k. rw k (ap (λ q. p q && list_all (λ y. p (key y)) (set_at key o x es)) (is ∙ sym (object_eq-same (key e) o k)) ∙ ap (λ b. p (key e) && b) (all_keys key p o x es is)))
    (λ k. rw k (ap (λ b. p (key e) && b) (all_keys key p o x es is)))

order_stays : {E : Type 0} (key : E → Object) (o : Object) (x : E) (l : List E) → key x ≡ o → in_order key l ≡ true → in_order key (set_at key o x l) ≡ true
order_stays key o x [] is h = refl
order_stays key o x (e ∷ es) is h =
    let a = and_parts (list_all (λ y. is_lt (object_cmp (key e) (key y))) es) (in_order key es) h in
    let rest = all_keys key (λ q. is_lt (object_cmp (key e) q)) o x es is ∙ a.0 in
    by_cases (object_eq (key e) o)
    (λ k.
    let same : key x ≡ key e = is ∙ sym (object_eq-same (key e) o k) in
    let rest' : list_all (λ y. is_lt (object_cmp (key x) (key y))) (set_at key o x es) ≡ true = ap (λ q. list_all (λ y. is_lt (object_cmp q (key y))) (set_at key o x es)) same ∙ rest in
    rw (k, rest') (order_stays key o x es is a.1))
    (λ k. rw (k, rest) (order_stays key o x es is a.1))

set_here : {E : Type 0} (key : E → Object) (o : Object) (x : E) (l : List E) → key x ≡ o → has key l o ≡ true → find_at key (set_at key o x l) o ≡ Some x
set_here key o x [] is h = absurd (false≢true h)
set_here key o x (e ∷ es) is h =
    by_cases (object_eq (key e) o)
    (λ k. let at : object_eq (key x) o ≡ true = ap (λ q. object_eq q o) is ∙ object_eq-refl o in rw (k, at) refl)
    (λ k. let h' = rw k at h in rw (k, k) (set_here key o x es is h'))

set_other : {E : Type 0} (key : E → Object) (o p : Object) (x : E) (l : List E) → key x ≡ o → object_eq o p ≡ false → find_at key (set_at key o x l) p ≡ find_at key l p
set_other key o p x [] is other = refl
set_other key o p x (e ∷ es) is other =
    by_cases (object_eq (key e) o)
    (λ k.
    let new : object_eq (key x) p ≡ false = ap (λ q. object_eq q p) is ∙ other in
    let old : object_eq (key e) p ≡ false = ap (λ q. object_eq q p) (object_eq-same (key e) o k) ∙ other in
    rw (k, new, old) (set_other key o p x es is other))
    (λ k. rw k (by_cases (object_eq (key e) p) (λ j. rw j refl) (λ j. rw j (set_other key o p x es is other))))

set_table : {E R : Type 0} (key : E → Object) (joined : Object → R → E) → IsJoin key joined → (l : List E) (f : ℕ → Option R) (n : ℕ) (x : R) → IsTable key joined l f → has key l (Slot n) ≡ true → IsTable key joined (set_at key (Slot n) (joined (Slot n) x) l) (λ m. if m == n then Some x else f m)
set_table key joined join l f n x h there = record {
  ordered = order_stays key (Slot n) (joined (Slot n) x) l (join (Slot n) x) h.ordered;
  at = λ m. by_cases (m == n)
      (λ k. let same : m ≡ n = eqb-true m n k in rw k (ap (λ (i : ℕ). find_at key (set_at key (Slot n) (joined (Slot n) x) l) (Slot i)) same ∙ set_here key (Slot n) (joined (Slot n) x) l (join (Slot n) x) there ∙ ap (λ (i : ℕ). Some (joined (Slot i) x)) (sym same)))
      (λ k. rw k (set_other key (Slot n) (Slot m) (joined (Slot n) x) l (join (Slot n) x) (turned n m k) ∙ h.at m));
  slots = all_keys key is_slot (Slot n) (joined (Slot n) x) l (join (Slot n) x) ∙ h.slots;
}
  where
    turned : (n m : ℕ) → (m == n) ≡ false → (n == m) ≡ false
    turned n m h = grind (arith, nat_tests)

no_chunk_at : (o : Object) (n : ℕ) → is_chunk o ≡ true → object_eq o (Slot n) ≡ false
no_chunk_at (Chunk c) n h = refl
no_chunk_at (Slot m) n h = absurd (false≢true h)

past_has : {E : Type 0} (key : E → Object) (c s : List E) (n : ℕ) → chunks key c ≡ true → has key (c ++ s) (Slot n) ≡ has key s (Slot n)
past_has key [] s n h = refl
past_has key (x ∷ xs) s n h = let a = and_parts (is_chunk (key x)) (chunks key xs) h in rw (no_chunk_at (key x) n a.0) (past_has key xs s n a.1)

past_set : {E : Type 0} (key : E → Object) (c s : List E) (n : ℕ) (x : E) → chunks key c ≡ true → set_at key (Slot n) x (c ++ s) ≡ c ++ set_at key (Slot n) x s
past_set key [] s n x h = refl
past_set key (y ∷ ys) s n x h = let a = and_parts (is_chunk (key y)) (chunks key ys) h in rw (no_chunk_at (key y) n a.0) (ap (λ l. y ∷ l) (past_set key ys s n x a.1))

-- of a slot that is there something else is said
pub slot_set : {E R : Type 0} (key : E → Object) (joined : Object → R → E) → IsJoin key joined → (c : List E) (rs ts : List (Run R)) (n : ℕ) (x : R) → chunks key c ≡ true → AreRuns rs → AreRuns ts → ((m : ℕ) → rest_in ts m ≡ (if m == n then Some x else rest_in rs m)) → has key (c ++ slot_items key joined rs) (Slot n) ≡ true → c ++ slot_items key joined ts ≡ set_at key (Slot n) (joined (Slot n) x) (c ++ slot_items key joined rs)
slot_set key joined join c rs ts n x h are are' says there =
    let there' = sym (past_has key c (slot_items key joined rs) n h) ∙ there in
    ap (λ l. c ++ l) (one_table key joined (slot_items key joined ts) (set_at key (Slot n) (joined (Slot n) x) (slot_items key joined rs)) (rest_in ts) (λ m. if m == n then Some x else rest_in rs m)
    (table_of key joined join ts are') (set_table key joined join (slot_items key joined rs) (rest_in rs) n x (table_of key joined join rs are) there') says)
    ∙ sym (past_set key c (slot_items key joined rs) n (joined (Slot n) x) h)

-- A CHANGE OF THE ENTRY THAT IS FOUND

pub none_changed : {E : Type 0} (key : E → Object) (o : Object) (f : E → E) (l : List E) → has key l o ≡ false → l ≡ change key o f l
none_changed key o f [] h = refl
none_changed key o f (e ∷ es) h =
    by_cases (object_eq (key e) o)
    (λ k. let h' : true ≡ false = rw k at h in absurd (false≢true (sym h')))
    (λ k. let h' = rw k at h in rw k (ap (λ l. e ∷ l) (none_changed key o f es h')))

pub is_found : {E : Type 0} (key : E → Object) (l : List E) (o : Object) (e : E) → find_at key l o ≡ Some e → has key l o ≡ true
is_found key [] o e h = absurd (cc)
is_found key (x ∷ xs) o e h = by_cases (object_eq (key x) o) (λ k. rw k refl) (λ k. let h' = rw k at h in rw k (is_found key xs o e h'))

-- in a list in order it is the only one
pub found_changed : {E : Type 0} (key : E → Object) (o : Object) (f : E → E) (l : List E) (e : E) → in_order key l ≡ true → find_at key l o ≡ Some e → set_at key o (f e) l ≡ change key o f l
found_changed key o f [] e h found = refl
found_changed key o f (x ∷ xs) e h found =
    let a = and_parts (list_all (λ y. is_lt (object_cmp (key x) (key y))) xs) (in_order key xs) h in
    by_cases (object_eq (key x) o)
    (λ k.
    let found' : Some x ≡ Some e = rw k at found in
    let same : e ≡ x = cc in
    let none : has key xs o ≡ false = ap (has key xs) (sym (object_eq-same (key x) o k)) ∙ before_all key (key x) xs a.0 in
    rw k (ap (λ y. f y ∷ set_at key o (f e) xs) same ∙ ap (λ l. f x ∷ l) (sym (none_changed key o (λ _. f e) xs none) ∙ none_changed key o f xs none)))
    (λ k. let found' = rw k at found in rw k (ap (λ l. x ∷ l) (found_changed key o f xs e a.1 found')))

pub is_key : {E : Type 0} (key : E → Object) (l : List E) (o : Object) (e : E) → find_at key l o ≡ Some e → key e ≡ o
is_key key [] o e h = absurd (cc)
is_key key (x ∷ xs) o e h =
    by_cases (object_eq (key x) o)
    (λ k. let h' : Some x ≡ Some e = rw k at h in let same : x ≡ e = cc in ap key (sym same) ∙ object_eq-same (key x) o k)
    (λ k. let h' = rw k at h in is_key key xs o e h')
