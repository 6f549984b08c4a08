-- Lists in object order, and names that ascend: what a search in one finds.
use Rattle.std.proofs.Common.{◌≡◌, ℕ, zero, suc, ◌+◌, ◌<◌, ◌≤◌, Bool, true, false, List, [], ◌∷◌, length, get_or, Result, Ok, Err, IfOk, IfErr, refl, sym, ap, ◌∙◌, arith}
use Rattle.std.specs.Prelude.{nat_lt, is_ok}
use Rattle.std.specs.List.{list_any, list_all, position_or_len}
use Rattle.std.specs.List.Sorted.{IsSearchInRange, IsBinarySearchResult}
use Rattle.std.specs.Cmp.Lexicographic.{slice_cmp}
use Rattle.std.specs.Ordering.{nat_cmp, is_lt, is_eq, ordering_reverse}
use Rattle.std.proofs.lemmas.Bool.{and_parts, ltb-true, ltb-false}
use Rattle.std.proofs.lemmas.List.Sums.{position_or_len_is}
use Rattle.std.proofs.lemmas.List.Folds.{list_any_at}
use Rattle.std.proofs.lemmas.List.Sorted.{searchable_from_sorted}
use Rattle.psb_bytes.specs.declared.ids.Object.{Object}
use Rattle.psb_bytes.specs.declared.ids.Object.TheVariants.{Chunk}
use Rattle.psb_model.specs.Words.{object_eq, object_cmp, has, in_order}
use Rattle.psb_model.specs.Conditions.{names_ascend}
use Rattle.psb_model.proofs.ByObject.{by_cases}
use Rattle.psb_model.proofs.ObjectOrder.{object_total, same_object, comes_first, less_then}

-- A SEARCH

-- the head comes before what stands at a later place
pub before_at : {E : Type 0} (key : E → Object) (e : E) (es : List E) (k : ℕ) (d : E) → list_all (λ x. is_lt (object_cmp (key e) (key x))) es ≡ true → k < length es → is_lt (object_cmp (key e) (key (get_or es k d))) ≡ true
before_at key e [] k d h lt = absurd (omega arith)
before_at key e (x ∷ xs) zero d h lt = (and_parts (is_lt (object_cmp (key e) (key x))) (list_all (λ x. is_lt (object_cmp (key e) (key x))) xs) h).0
before_at key e (x ∷ xs) (suc k) d h lt = before_at key e xs k d (and_parts (is_lt (object_cmp (key e) (key x))) (list_all (λ x. is_lt (object_cmp (key e) (key x))) xs) h).1 (omega arith)

-- a list in order is sorted, as std says it
pub sorted : {E : Type 0} (key : E → Object) (l : List E) → in_order key l ≡ true → (k : ℕ) (d : E) → k + 1 < length l → is_lt (object_cmp (key (get_or l (k + 1) d)) (key (get_or l k d))) ≡ false
sorted key [] h k d lt = absurd (omega arith)
sorted key (e ∷ es) h zero d lt = comes_first (key e) (key (get_or es 0 d)) (before_at key e es 0 d (and_parts (list_all (λ x. is_lt (object_cmp (key e) (key x))) es) (in_order key es) h).0 (omega arith))
sorted key (e ∷ es) h (suc k) d lt =
    let more : suc k + 1 ≡ suc (k + 1) = omega arith in
    rw more (sorted key es (and_parts (list_all (λ x. is_lt (object_cmp (key e) (key x))) es) (in_order key es) h).1 k d (omega arith))

-- what comes before an object is parted from what does not
pub parted : {E : Type 0} (key : E → Object) (o : Object) (l : List E) → in_order key l ≡ true → (i j : ℕ) (d : E) → i ≤ j → j < length l → is_lt (object_cmp (key (get_or l j d)) o) ≡ true → is_lt (object_cmp (key (get_or l i d)) o) ≡ true
parted key o [] h i j d le lt below = absurd (omega arith)
parted key o (e ∷ es) h zero zero d le lt below = below
parted key o (e ∷ es) h zero (suc j) d le lt below =
    let first = before_at key e es j d (and_parts (list_all (λ x. is_lt (object_cmp (key e) (key x))) es) (in_order key es) h).0 (omega arith) in
    less_then (key e) (key (get_or es j d)) o first below
parted key o (e ∷ es) h (suc i) zero d le lt below = absurd (omega arith)
parted key o (e ∷ es) h (suc i) (suc j) d le lt below = parted key o es (and_parts (list_all (λ x. is_lt (object_cmp (key e) (key x))) es) (in_order key es) h).1 i j d (omega arith) (omega arith) below

none_passes : {X : Type 0} (p : X → Bool) (xs : List X) → ((k : ℕ) (d : X) → k < length xs → p (get_or xs k d) ≡ false) → list_any p xs ≡ false
none_passes p [] h = refl
none_passes p (x ∷ xs) h = rw (h 0 x (omega arith)) (none_passes p xs (λ k d lt. h (suc k) d (omega arith)))

-- a search for an object ends at its entry, or at the place where it would go
pub searched : {E : Type 0} (key : E → Object) (none : E) (l : List E) (o : Object) (r : Result ℕ ℕ) → in_order key l ≡ true → IsSearchInRange r (length l) → IsBinarySearchResult (λ e. object_cmp (key e) o) l r → (is_ok r ≡ has key l o) × IfErr r (λ i. i ≡ position_or_len (λ e. is_lt (object_cmp o (key e))) l) × IfOk r (λ i. (i < length l) × ((d : E) → object_eq (key (get_or l i d)) o ≡ true))
searched {E = E} key none l o (Ok i) h range at =
    let here : (d : E) → object_eq (key (get_or l i d)) o ≡ true = λ d. same_object (key (get_or l i d)) o ∙ ap is_eq (at d) in
    (sym (list_any_at (λ e. object_eq (key e) o) l i none range (here none)), tt, (range, here))
searched {E = E} key none l o (Err i) h range at =
    let parted = at (searchable_from_sorted object_total key l o (λ k d low high. sorted key l h k d high)) in
    let other : (k : ℕ) (d : E) → k < length l → object_eq (key (get_or l k d)) o ≡ false = λ k d lt. by_cases (nat_lt k i)
    (λ b. same_object (key (get_or l k d)) o ∙ ap is_eq (parted.0 k d (omega arith) (ltb-true k i b)))
    (λ b. same_object (key (get_or l k d)) o ∙ ap is_eq (parted.1 k d (ltb-false k i b) lt)) in
    let first : (k : ℕ) → k < i → is_lt (object_cmp o (key (get_or l k none))) ≡ false = λ k lt. ap is_lt (object_total.antisymm o (key (get_or l k none)) ∙ ap ordering_reverse (parted.0 k none (omega arith) lt)) in
    let then : i < length l → is_lt (object_cmp o (key (get_or l i none))) ≡ true = λ lt. ap is_lt (object_total.antisymm o (key (get_or l i none)) ∙ ap ordering_reverse (parted.1 i none (omega arith) lt)) in
    (sym (none_passes (λ e. object_eq (key e) o) l other), sym (position_or_len_is (λ e. is_lt (object_cmp o (key e))) l i none range first then), tt)

-- what is below an entry is below the others behind it
pub below_rest : {E : Type 0} (key : E → Object) (e x : E) (xs : List E) → is_lt (object_cmp (key e) (key x)) ≡ true → list_all (λ y. is_lt (object_cmp (key x) (key y))) xs ≡ true → list_all (λ y. is_lt (object_cmp (key e) (key y))) xs ≡ true
below_rest key e x [] h k = refl
below_rest key e x (y ∷ ys) h k =
    let a = and_parts (is_lt (object_cmp (key x) (key y))) (list_all (λ y. is_lt (object_cmp (key x) (key y))) ys) k in
    rw (less_then (key e) (key x) (key y) h a.0) (below_rest key e x ys h a.1)

-- NAMES THAT ASCEND

-- names that ascend pair by pair are in order as a whole
pub ascending : (names : List (List ℕ)) → names_ascend names ≡ true → in_order Chunk names ≡ true
ascending [] h = refl
ascending (x ∷ []) h = refl
ascending (x ∷ y ∷ ys) h =
    let a = and_parts (is_lt (slice_cmp nat_cmp x y)) (names_ascend (y ∷ ys)) h in
    let rest = ascending (y ∷ ys) a.1 in
    let b = and_parts (list_all (λ z. is_lt (slice_cmp nat_cmp y z)) ys) (in_order Chunk ys) rest in
    rw (a.0, below_rest Chunk x y ys a.0 b.0) rest
