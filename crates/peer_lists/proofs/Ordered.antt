-- Lists in object order: what a search in one finds, and what goes in or is kept.
use Rattle.std.proofs.Common.{◌≡◌, ℕ, suc, ◌+◌, ◌≤◌, Bool, true, false, not, ◌||◌, cond, List, [], ◌∷◌, length, filter, refl, sym, ap, ◌∙◌, arith}
use Rattle.std.specs.Prelude.{insert}
use Rattle.std.specs.List.{list_all, position_or_len, prefix_len}
use Rattle.std.specs.declared.cmp.Ordering.{Ordering}
use Rattle.std.specs.declared.cmp.Ordering.TheVariants.{Less, Equal, Greater}
use Rattle.std.specs.Ordering.{is_lt, is_eq, ordering_reverse}
use Rattle.std.proofs.lemmas.Bool.{and_parts, true≢false}
use Rattle.std.proofs.lemmas.List.Sums.{prefix_len-le-length}
use Rattle.psb_bytes.specs.Objects.{object_eq, object_cmp}
use Rattle.psb_bytes.specs.declared.ids.Object.{Object}
use Rattle.psb_model.specs.Words.{has, with_one, with_all}
use Rattle.psb_model.proofs.ByObject.{by_cases, all_with_one, all_kept}
use Rattle.psb_model.proofs.ObjectOrder.{object_total, same_object}
use Rattle.psb_model.proofs.Steady.{neither}
pub use Rattle.psb_model.proofs.Searched.{before_at, sorted, parted, searched, below_rest}
use Rattle.peer_lists.specs.Entries.{in_order, lacks_all}

-- AN ENTRY THAT GOES IN

pub place_within : {E : Type 0} (test : E → Bool) (l : List E) (n : ℕ) → n ≡ position_or_len test l → n ≤ length l
place_within test l n h = omega (arith, h, prefix_len-le-length (λ x. not (test x)) l)

pub placed : {E : Type 0} (key : E → Object) (e : E) (l : List E) (n : ℕ) → n ≡ position_or_len (λ x. is_lt (object_cmp (key e) (key x))) l → insert l n e ≡ with_one key e l
placed key e l n h = ap (λ m. insert l m e) h ∙ at_first key e l
  where
    at_first : {E : Type 0} (key : E → Object) (e : E) (l : List E) → insert l (position_or_len (λ x. is_lt (object_cmp (key e) (key x))) l) e ≡ with_one key e l
    at_first key e [] = refl
    at_first key e (x ∷ xs) =
        by_cases (is_lt (object_cmp (key e) (key x)))
        (λ k. rw k refl)
        (λ k. let n = prefix_len (λ y. not (is_lt (object_cmp (key e) (key y)))) xs in
        let more : 1 + n ≡ suc n = omega arith in
        rw (k, more) (ap (λ l. x ∷ l) (at_first key e xs)))

-- of two that are not one, one comes before the other
pub one_is_first : (a b : Object) → object_eq a b ≡ false → is_lt (object_cmp b a) ≡ false → is_lt (object_cmp a b) ≡ true
one_is_first a b other h = by_order (object_cmp a b) (sym (same_object a b) ∙ other) (ap is_lt (sym (object_total.antisymm b a)) ∙ h)
  where
    by_order : (o : Ordering) → is_eq o ≡ false → is_lt (ordering_reverse o) ≡ false → is_lt o ≡ true
    by_order Less h k = refl
    by_order Equal h k = cc
    by_order Greater h k = cc

pub in_order_with : {E : Type 0} (key : E → Object) (e : E) (l : List E) → in_order key l ≡ true → has key l (key e) ≡ false → in_order key (with_one key e l) ≡ true
in_order_with key e [] h absent = refl
in_order_with key e (x ∷ xs) h absent =
    let a = and_parts (list_all (λ y. is_lt (object_cmp (key x) (key y))) xs) (in_order key xs) h in
    let n = neither (object_eq (key x) (key e)) (has key xs (key e)) absent in
    by_cases (is_lt (object_cmp (key e) (key x)))
    (λ b. rw b (rw b (rw (below_rest key e x xs b a.0) h)))
    (λ b. rw b (rw (all_with_one key (λ y. is_lt (object_cmp (key x) (key y))) e xs (one_is_first (key x) (key e) n.0 b) a.0) (in_order_with key e xs a.1 n.1)))

-- ENTRIES THAT GO IN, one after another

less_is_unequal : (o : Ordering) → is_lt o ≡ true → is_eq o ≡ false
less_is_unequal Less h = refl
less_is_unequal Equal h = absurd (true≢false (sym h))
less_is_unequal Greater h = refl

eq_reverse : (o : Ordering) → is_eq (ordering_reverse o) ≡ is_eq o
eq_reverse Less = refl
eq_reverse Equal = refl
eq_reverse Greater = refl

-- two that compare as equal, either way round, are one
pub equal_is_one : (a b : Object) → is_eq (object_cmp a b) ≡ object_eq b a
equal_is_one a b = ap is_eq (object_total.antisymm a b) ∙ eq_reverse (object_cmp b a) ∙ sym (same_object b a)

pub less_is_other : (a b : Object) → is_lt (object_cmp a b) ≡ true → object_eq b a ≡ false
less_is_other a b h = sym (equal_is_one a b) ∙ less_is_unequal (object_cmp a b) h

pub before_all : {E : Type 0} (key : E → Object) (o : Object) (l : List E) → list_all (λ x. is_lt (object_cmp o (key x))) l ≡ true → has key l o ≡ false
before_all key o [] h = refl
before_all key o (x ∷ xs) h =
    let a = and_parts (is_lt (object_cmp o (key x))) (list_all (λ y. is_lt (object_cmp o (key y))) xs) h in
    rw (less_is_other o (key x) a.0) (before_all key o xs a.1)

one_of_all : {E : Type 0} (key : E → Object) (p : E → Bool) (e : E) (l : List E) → list_all p (with_one key e l) ≡ true → p e ≡ true
one_of_all key p e [] h = (and_parts (p e) true h).0
one_of_all key p e (x ∷ xs) h =
    by_cases (is_lt (object_cmp (key e) (key x)))
    (λ k. let h' = rw k at h in (and_parts (p e) (list_all p (x ∷ xs)) h').0)
    (λ k. let h' = rw k at h in one_of_all key p e xs (and_parts (p x) (list_all p (with_one key e xs)) h').1)

-- in a list in order an entry is no other's
pub apart : {E : Type 0} (key : E → Object) (e : E) (l : List E) → in_order key (with_one key e l) ≡ true → has key l (key e) ≡ false
apart key e [] h = refl
apart key e (x ∷ xs) h =
    by_cases (is_lt (object_cmp (key e) (key x)))
    (λ k. let h' = rw k at h in before_all key (key e) (x ∷ xs) (and_parts (list_all (λ y. is_lt (object_cmp (key e) (key y))) (x ∷ xs)) (in_order key (x ∷ xs)) h').0)
    (λ k.
    let h' = rw k at h in
    let a = and_parts (list_all (λ y. is_lt (object_cmp (key x) (key y))) (with_one key e xs)) (in_order key (with_one key e xs)) h' in
    let first = one_of_all key (λ y. is_lt (object_cmp (key x) (key y))) e xs a.0 in
    let other : object_eq (key x) (key e) ≡ false = same_object (key x) (key e) ∙ less_is_unequal (object_cmp (key x) (key e)) first in
    rw other (apart key e xs a.1))

-- what an entry went into was in order
all_but : {E : Type 0} (key : E → Object) (p : E → Bool) (e : E) (l : List E) → list_all p (with_one key e l) ≡ true → list_all p l ≡ true
all_but key p e [] h = refl
all_but key p e (x ∷ xs) h =
    by_cases (is_lt (object_cmp (key e) (key x)))
    (λ k. let h' = rw k at h in (and_parts (p e) (list_all p (x ∷ xs)) h').1)
    (λ k.
    let h' = rw k at h in
    let a = and_parts (p x) (list_all p (with_one key e xs)) h' in
    rw a.0 (all_but key p e xs a.1))

pub in_order_but : {E : Type 0} (key : E → Object) (e : E) (l : List E) → in_order key (with_one key e l) ≡ true → in_order key l ≡ true
in_order_but key e [] h = refl
in_order_but key e (x ∷ xs) h =
    by_cases (is_lt (object_cmp (key e) (key x)))
    (λ k. let h' = rw k at h in (and_parts (list_all (λ y. is_lt (object_cmp (key e) (key y))) (x ∷ xs)) (in_order key (x ∷ xs)) h').1)
    (λ k.
    let h' = rw k at h in
    let a = and_parts (list_all (λ y. is_lt (object_cmp (key x) (key y))) (with_one key e xs)) (in_order key (with_one key e xs)) h' in
    rw (all_but key (λ y. is_lt (object_cmp (key x) (key y))) e xs a.0) (in_order_but key e xs a.1))

pub in_order_but_all : {E : Type 0} (key : E → Object) (es l : List E) → in_order key (with_all key es l) ≡ true → in_order key l ≡ true
in_order_but_all key [] l h = h
in_order_but_all key (e ∷ es) l h = in_order_but key e l (in_order_but_all key es (with_one key e l) h)

or_first : (p q : Bool) → (q || p) ≡ (p || q)
or_first true true = refl
or_first true false = refl
or_first false true = refl
or_first false false = refl

or_last : (p q r : Bool) → (p || (q || r)) ≡ ((p || q) || r)
or_last true q r = refl
or_last false q r = refl

pub or_false : (p : Bool) → (p || false) ≡ p
or_false true = refl
or_false false = refl

pub has_with : {E : Type 0} (key : E → Object) (e : E) (l : List E) (o : Object) → has key (with_one key e l) o ≡ (has key l o || object_eq (key e) o)
has_with key e [] o = or_false (object_eq (key e) o)
has_with key e (x ∷ xs) o =
    by_cases (is_lt (object_cmp (key e) (key x)))
    (λ k. rw k (or_first (has key (x ∷ xs) o) (object_eq (key e) o)))
    (λ k. rw k (ap (λ b. object_eq (key x) o || b) (has_with key e xs o) ∙ or_last (object_eq (key x) o) (has key xs o) (object_eq (key e) o)))

both_false : (p q : Bool) → p ≡ false → q ≡ false → (p || q) ≡ false
both_false false false h k = refl
both_false false true h k = k
both_false true q h k = h

pub is_false : (b : Bool) → not b ≡ true → b ≡ false
is_false true h = sym h
is_false false h = refl

-- entries that stand behind another are none of it
lacks_with : {E : Type 0} (key : E → Object) (e : E) (es l : List E) → list_all (λ x. is_lt (object_cmp (key e) (key x))) es ≡ true → lacks_all key es l ≡ true → lacks_all key es (with_one key e l) ≡ true
lacks_with key e [] l h k = refl
lacks_with key e (x ∷ xs) l h k =
    let a = and_parts (is_lt (object_cmp (key e) (key x))) (list_all (λ y. is_lt (object_cmp (key e) (key y))) xs) h in
    let b = and_parts (not (has key l (key x))) (lacks_all key xs l) k in
    let swap : object_eq (key e) (key x) ≡ false = same_object (key e) (key x) ∙ less_is_unequal (object_cmp (key e) (key x)) a.0 in
    let none : has key (with_one key e l) (key x) ≡ false = has_with key e l (key x) ∙ both_false (has key l (key x)) (object_eq (key e) (key x)) (is_false (has key l (key x)) b.0) swap in
    rw none (lacks_with key e xs l a.1 b.1)

pub in_order_with_all : {E : Type 0} (key : E → Object) (es l : List E) → in_order key es ≡ true → in_order key l ≡ true → lacks_all key es l ≡ true → in_order key (with_all key es l) ≡ true
in_order_with_all key [] l h k lacks = k
in_order_with_all key (e ∷ es) l h k lacks =
    let a = and_parts (list_all (λ x. is_lt (object_cmp (key e) (key x))) es) (in_order key es) h in
    let b = and_parts (not (has key l (key e))) (lacks_all key es l) lacks in
    in_order_with_all key es (with_one key e l) a.1 (in_order_with key e l k (is_false (has key l (key e)) b.0)) (lacks_with key e es l a.0 b.1)

-- WHAT IS KEPT

pub in_order_kept : {E : Type 0} (key : E → Object) (q : E → Bool) (l : List E) → in_order key l ≡ true → in_order key (filter q l) ≡ true
in_order_kept key q [] h = refl
in_order_kept {E = E} key q (x ∷ xs) h =
    let first : E → Bool = λ y. is_lt (object_cmp (key x) (key y)) in
    let a = and_parts (list_all first xs) (in_order key xs) h in
    by_cases (q x) (λ k. rw k (rw (all_kept first q xs a.0) (in_order_kept key q xs a.1))) (λ k. rw k (in_order_kept key q xs a.1))

goes_first : {E : Type 0} (key : E → Object) (e : E) (l : List E) → list_all (λ y. is_lt (object_cmp (key e) (key y))) l ≡ true → with_one key e l ≡ e ∷ l
goes_first key e [] h = refl
goes_first key e (x ∷ xs) h = let a = and_parts (is_lt (object_cmp (key e) (key x))) (list_all (λ y. is_lt (object_cmp (key e) (key y))) xs) h in rw a.0 refl

pub kept_with : {E : Type 0} (key : E → Object) (q : E → Bool) (e : E) (l : List E) → in_order key l ≡ true → cond (q e) (with_one key e (filter q l)) (filter q l) ≡ filter q (with_one key e l)
kept_with key q e [] h = refl
kept_with {E = E} key q e (x ∷ xs) h =
    let behind : E → Bool = λ y. is_lt (object_cmp (key e) (key y)) in
    let a = and_parts (list_all (λ y. is_lt (object_cmp (key x) (key y))) xs) (in_order key xs) h in
    by_cases (is_lt (object_cmp (key e) (key x)))
    (λ k.
    let all : list_all behind (x ∷ xs) ≡ true = rw k (below_rest key e x xs k a.0) in
    let first : with_one key e (filter q (x ∷ xs)) ≡ e ∷ filter q (x ∷ xs) = goes_first key e (filter q (x ∷ xs)) (all_kept behind q (x ∷ xs) all) in
    rw k (ap (λ l. cond (q e) l (filter q (x ∷ xs))) first))
    (λ k.
    let rest = kept_with key q e xs a.1 in
    by_cases (q x)
    (λ j. rw (k, j) (by_cases (q e) (λ i. let r = rw i at rest in rw i (rw k (ap (λ l. x ∷ l) r))) (λ i. let r = rw i at rest in rw i (ap (λ l. x ∷ l) r))))
    (λ j. rw (k, j) rest))

-- what is kept of entries that go in one after another
pub kept_with_all : {E : Type 0} (key : E → Object) (q : E → Bool) (es l : List E) → in_order key (with_all key es l) ≡ true → with_all key (filter q es) (filter q l) ≡ filter q (with_all key es l)
kept_with_all key q [] l h = refl
kept_with_all key q (e ∷ es) l h =
    let one = in_order_but_all key es (with_one key e l) h in
    let was = in_order_but key e l one in
    let step = kept_with key q e l was in
    by_cases (q e)
    (λ k. let step' = rw k at step in rw k (ap (with_all key (filter q es)) step' ∙ kept_with_all key q es (with_one key e l) h))
    (λ k. let step' = rw k at step in rw k (ap (with_all key (filter q es)) step' ∙ kept_with_all key q es (with_one key e l) h))
