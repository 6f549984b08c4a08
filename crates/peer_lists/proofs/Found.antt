-- The entry at an object: where it stands in a list in order, and what is asked of it.
use Rattle.std.proofs.Common.{◌≡◌, ℕ, zero, suc, ◌<◌, Bool, true, false, cond, List, [], ◌∷◌, length, get_or, Some, None, refl, sym, ap, ◌∙◌, arith}
use Rattle.std.specs.Prelude.{is_some, remove}
use Rattle.std.specs.List.{list_all}
use Rattle.std.specs.Ordering.{is_lt}
use Rattle.std.proofs.lemmas.Bool.{and_parts, false≢true}
use Rattle.psb_bytes.specs.Objects.{object_eq, object_cmp}
use Rattle.psb_bytes.specs.declared.ids.Object.{Object}
use Rattle.psb_model.specs.Words.{has, has_so, units_at, with_one, with_all, without}
use Rattle.psb_model.proofs.ByObject.{object_eq-same, object_eq-swap, by_cases}
use Rattle.peer_lists.specs.Entries.{in_order}
use Rattle.peer_lists.specs.Entries.{find_at}
use Rattle.peer_lists.proofs.Ordered.{or_false, before_all, apart, in_order_but_all}

pub find_has : {E : Type 0} (key : E → Object) (l : List E) (o : Object) → is_some (find_at key l o) ≡ has key l o
find_has key [] o = refl
find_has key (x ∷ xs) o = by_cases (object_eq (key x) o) (λ k. rw k refl) (λ k. rw k (find_has key xs o))

pub lacks_find : {E : Type 0} (key : E → Object) (l : List E) (o : Object) → has key l o ≡ false → find_at key l o ≡ None
lacks_find key [] o h = refl
lacks_find key (x ∷ xs) o h = by_cases (object_eq (key x) o) (λ k. absurd (false≢true (sym h ∙ rw k refl))) (λ k. let h' = rw k at h in rw k (lacks_find key xs o h'))

-- behind an entry at the object there is none
pub none_behind : {E : Type 0} (key : E → Object) (x : E) (xs : List E) (o : Object) → in_order key (x ∷ xs) ≡ true → object_eq (key x) o ≡ true → has key xs o ≡ false
none_behind key x xs o h k =
    let a = and_parts (list_all (λ y. is_lt (object_cmp (key x) (key y))) xs) (in_order key xs) h in
    ap (has key xs) (sym (object_eq-same (key x) o k)) ∙ before_all key (key x) xs a.0

pub rest_ordered : {E : Type 0} (key : E → Object) (x : E) (xs : List E) → in_order key (x ∷ xs) ≡ true → in_order key xs ≡ true
rest_ordered key x xs h = (and_parts (list_all (λ y. is_lt (object_cmp (key x) (key y))) xs) (in_order key xs) h).1

has_at : {E : Type 0} (key : E → Object) (xs : List E) (o : Object) (i : ℕ) (d : E) → i < length xs → object_eq (key (get_or xs i d)) o ≡ true → has key xs o ≡ true
has_at key [] o i d lt at = absurd (omega (arith, lt))
has_at key (y ∷ ys) o zero d lt at = rw at refl
has_at key (y ∷ ys) o (suc i) d lt at = by_cases (object_eq (key y) o) (λ k. rw k refl) (λ k. rw k (has_at key ys o i d (omega (arith, lt)) at))

-- the one that a search finds
pub found_at : {E : Type 0} (key : E → Object) (l : List E) (o : Object) (i : ℕ) (e : E) → in_order key l ≡ true → i < length l → e ≡ get_or l i e → object_eq (key (get_or l i e)) o ≡ true → Some e ≡ find_at key l o
found_at key [] o i e h lt is at = absurd (omega (arith, lt))
found_at key (x ∷ xs) o zero e h lt is at = rw at (ap (λ y. Some y) is)
found_at key (x ∷ xs) o (suc i) e h lt is at =
    by_cases (object_eq (key x) o)
    (λ k. absurd (false≢true (sym (none_behind key x xs o h k) ∙ has_at key xs o i e (omega (arith, lt)) at)))
    (λ k. rw k (found_at key xs o i e (rest_ordered key x xs h) (omega (arith, lt)) is at))

-- WHAT IS ASKED OF IT

lacks_units : {E : Type 0} (key : E → Object) (size : E → ℕ) (l : List E) (o : Object) → has key l o ≡ false → units_at key size l o ≡ 0
lacks_units key size [] o h = refl
lacks_units key size (x ∷ xs) o h = by_cases (object_eq (key x) o) (λ k. absurd (false≢true (sym h ∙ rw k refl))) (λ k. let h' = rw k at h in rw k (omega (arith, lacks_units key size xs o h')))

lacks_so : {E : Type 0} (key : E → Object) (test : E → Bool) (l : List E) (o : Object) → has key l o ≡ false → has_so key test l o ≡ false
lacks_so key test [] o h = refl
lacks_so key test (x ∷ xs) o h = by_cases (object_eq (key x) o) (λ k. absurd (false≢true (sym h ∙ rw k refl))) (λ k. let h' = rw k at h in rw k (lacks_so key test xs o h'))

pub found_units : {E : Type 0} (key : E → Object) (size : E → ℕ) (l : List E) (o : Object) (e : E) → in_order key l ≡ true → Some e ≡ find_at key l o → size e ≡ units_at key size l o
found_units key size [] o e h f = absurd cc
found_units key size (x ∷ xs) o e h f =
    by_cases (object_eq (key x) o)
    (λ k.
    let f' = rw k at f in
    let same : e ≡ x = cc in
    let none : units_at key size xs o ≡ 0 = lacks_units key size xs o (none_behind key x xs o h k) in
    rw k (omega (arith, ap size same, none)))
    (λ k. let f' = rw k at f in rw k (omega (arith, found_units key size xs o e (rest_ordered key x xs h) f')))

pub none_units : {E : Type 0} (key : E → Object) (size : E → ℕ) (l : List E) (o : Object) → None ≡ find_at key l o → 0 ≡ units_at key size l o
none_units key size l o f = sym (lacks_units key size l o (sym (find_has key l o) ∙ ap is_some (sym f)))

pub found_so : {E : Type 0} (key : E → Object) (test : E → Bool) (l : List E) (o : Object) (e : E) → in_order key l ≡ true → Some e ≡ find_at key l o → test e ≡ has_so key test l o
found_so key test [] o e h f = absurd cc
found_so key test (x ∷ xs) o e h f =
    by_cases (object_eq (key x) o)
    (λ k.
    let f' = rw k at f in
    let same : e ≡ x = cc in
    let none : has_so key test xs o ≡ false = lacks_so key test xs o (none_behind key x xs o h k) in
    rw (k, none) (ap test same ∙ sym (or_false (test x))))
    (λ k. let f' = rw k at f in rw k (found_so key test xs o e (rest_ordered key x xs h) f'))

pub none_so : {E : Type 0} (key : E → Object) (test : E → Bool) (l : List E) (o : Object) → None ≡ find_at key l o → false ≡ has_so key test l o
none_so key test l o f = sym (lacks_so key test l o (sym (find_has key l o) ∙ ap is_some (sym f)))

-- IN A LIST WITH MORE ENTRIES

find_with : {E : Type 0} (key : E → Object) (e : E) (l : List E) (o : Object) → has key l (key e) ≡ false → find_at key (with_one key e l) o ≡ cond (object_eq (key e) o) (Some e) (find_at key l o)
find_with key e [] o h = refl
find_with key e (x ∷ xs) o h =
    by_cases (is_lt (object_cmp (key e) (key x)))
    (λ k. rw k refl)
    (λ k.
    by_cases (object_eq (key x) (key e))
    (λ j. absurd (false≢true (sym h ∙ rw j refl)))
    (λ j.
    let h' = rw j at h in
    by_cases (object_eq (key x) o)
    (λ i. let other : object_eq (key e) o ≡ false = ap (object_eq (key e)) (sym (object_eq-same (key x) o i)) ∙ object_eq-swap (key e) (key x) ∙ j in rw (k, i, other) refl)
    (λ i. rw (k, i) (find_with key e xs o h'))))

-- what the list has, it has still
pub found_below : {E : Type 0} (key : E → Object) (es l : List E) (o : Object) (x : E) → in_order key (with_all key es l) ≡ true → find_at key l o ≡ Some x → Some x ≡ find_at key (with_all key es l) o
found_below key [] l o x h f = sym f
found_below key (e ∷ es) l o x h f =
    let absent = apart key e l (in_order_but_all key es (with_one key e l) h) in
    by_cases (object_eq (key e) o)
    (λ k. absurd (false≢true (sym absent ∙ ap (has key l) (object_eq-same (key e) o k) ∙ sym (find_has key l o) ∙ ap is_some f)))
    (λ k. found_below key es (with_one key e l) o x h (find_with key e l o absent ∙ rw k f))

-- and what it has not, the others may have
pub found_beside : {E : Type 0} (key : E → Object) (es l : List E) (o : Object) → in_order key (with_all key es l) ≡ true → find_at key l o ≡ None → find_at key es o ≡ find_at key (with_all key es l) o
found_beside key [] l o h f = sym f
found_beside key (e ∷ es) l o h f =
    let absent = apart key e l (in_order_but_all key es (with_one key e l) h) in
    by_cases (object_eq (key e) o)
    (λ k. rw k (found_below key es (with_one key e l) o e h (find_with key e l o absent ∙ rw k refl)))
    (λ k. rw k (found_beside key es (with_one key e l) o h (find_with key e l o absent ∙ rw k f)))

-- AN ENTRY THAT GOES OUT

pub without_absent : {E : Type 0} (key : E → Object) (l : List E) (o : Object) → has key l o ≡ false → without key (o ∷ []) l ≡ l
without_absent key [] o h = refl
without_absent key (x ∷ xs) o h =
    by_cases (object_eq (key x) o)
    (λ k. absurd (false≢true (sym h ∙ rw k refl)))
    (λ k. let h' = rw k at h in let swap : object_eq o (key x) ≡ false = object_eq-swap o (key x) ∙ k in rw swap (ap (λ l. x ∷ l) (without_absent key xs o h')))

-- the one at the object goes, and no other
pub without_first : {E : Type 0} (key : E → Object) (x : E) (xs : List E) (o : Object) → in_order key (x ∷ xs) ≡ true → object_eq (key x) o ≡ true → xs ≡ without key (o ∷ []) (x ∷ xs)
without_first key x xs o h k =
    let swap : object_eq o (key x) ≡ true = object_eq-swap o (key x) ∙ k in
    rw swap (sym (without_absent key xs o (none_behind key x xs o h k)))

pub removed : {E : Type 0} (key : E → Object) (l : List E) (o : Object) (i : ℕ) (d : E) → in_order key l ≡ true → i < length l → object_eq (key (get_or l i d)) o ≡ true → remove l i ≡ without key (o ∷ []) l
removed key [] o i d h lt at = absurd (omega (arith, lt))
removed key (x ∷ xs) o zero d h lt at = without_first key x xs o h at
removed key (x ∷ xs) o (suc i) d h lt at =
    by_cases (object_eq (key x) o)
    (λ k. absurd (false≢true (sym (none_behind key x xs o h k) ∙ has_at key xs o i d (omega (arith, lt)) at)))
    (λ k. let swap : object_eq o (key x) ≡ false = object_eq-swap o (key x) ∙ k in rw swap (ap (λ l. x ∷ l) (removed key xs o i d (rest_ordered key x xs h) (omega (arith, lt)) at)))

pub removed_at : {E : Type 0} (key : E → Object) (l seen : List E) (o : Object) (i : ℕ) (d : E) → seen ≡ l → in_order key l ≡ true → i < length seen → object_eq (key (get_or seen i d)) o ≡ true → remove l i ≡ without key (o ∷ []) l
removed_at key l seen o i d same h lt at = removed key l o i d h (omega (arith, lt, ap length same)) (ap (λ m. object_eq (key (get_or m i d)) o) (sym same) ∙ at)
