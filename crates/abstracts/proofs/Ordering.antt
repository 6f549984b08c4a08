-- Names put in order stand in order, and are all there.
use Rattle.std.proofs.Common.{◌≡◌, ℕ, Bool, true, false, not, List, [], ◌∷◌, ◌++◌, map, refl, sym, ◌∙◌, ap, subst}
use Rattle.std.specs.List.{list_all}
use Rattle.std.specs.List.Sorted.{IsPermutation}
use Rattle.std.specs.declared.cmp.Ordering.{Ordering}
use Rattle.std.specs.declared.cmp.Ordering.TheVariants.{Less, Equal, Greater}
use Rattle.std.specs.Ordering.{nat_cmp, is_lt, ordering_reverse, ordering_then}
use Rattle.std.specs.Cmp.{IsTotalOrder}
use Rattle.std.specs.Cmp.Lexicographic.{slice_cmp, on_texts}
use Rattle.std.proofs.lemmas.Cmp.{then_total}
use Rattle.std.proofs.lemmas.Bool.{and_parts}
use Rattle.std.proofs.lemmas.List.Sorted.{IsPermutation-refl, IsPermutation-sym, IsPermutation-trans, IsPermutation-insert, IsPermutation-middle, IsPermutation-append_right}
use Rattle.std.proofs.lemmas.List.{append-nil}
use Rattle.abstracts.specs.declared.least.Salted.{Salted}
use Rattle.abstracts.specs.Least.{under_salt, first_by, comes_before, put_in, put_all, place_in, abstract_of}
use Rattle.abstracts.specs.Laws.{stand_in_order, IsAbstract}
use Rattle.abstracts.proofs.Puts.{by_test, put_there}

-- ---- all are there

put_moves : (x : Salted) (l : List Salted) → IsPermutation (x ∷ l) (put_in x l)
put_moves x l = subst (IsPermutation (x ∷ l)) (sym (put_there x l)) (IsPermutation-insert l (place_in x l) x)

-- those that stand, and those that come
moved_on : (l xs : List Salted) → IsPermutation (xs ++ l) (put_all l xs)
moved_on l [] = IsPermutation-refl l
moved_on l (x ∷ xs) =
    let here = IsPermutation-trans _ _ _ (IsPermutation-sym _ _ (IsPermutation-middle xs x l)) (IsPermutation-append_right xs _ _ (put_moves x l)) in
    IsPermutation-trans _ _ _ here (moved_on (put_in x l) xs)

all_moved : (xs : List Salted) → IsPermutation xs (put_all [] xs)
all_moved xs = subst (λ (m : List Salted). IsPermutation m (put_all [] xs)) (append-nil xs) (moved_on [] xs)

-- ---- in order

-- the hashes, and then the names
abbrev salted_cmp : Salted → Salted → Ordering
salted_cmp a b = ordering_then (slice_cmp nat_cmp a.hash b.hash) (slice_cmp nat_cmp a.name b.name)

salted_total : IsTotalOrder salted_cmp
salted_total = then_total (on_texts (λ (s : Salted). s.hash)) (on_texts (λ (s : Salted). s.name))

first_less : (o : Ordering) (a b : Salted) → first_by o a b ≡ is_lt (ordering_then o (slice_cmp nat_cmp a.name b.name))
first_less Less a b = refl
first_less Equal a b = refl
first_less Greater a b = refl

before_less : (a b : Salted) → comes_before a b ≡ is_lt (salted_cmp a b)
before_less a b = first_less (slice_cmp nat_cmp a.hash b.hash) a b

is_less : (o : Ordering) → is_lt o ≡ true → o ≡ Less
is_less Less h = refl
is_less Equal h = cc
is_less Greater h = cc

before_is : (a b : Salted) → comes_before a b ≡ true → salted_cmp a b ≡ Less
before_is a b h = is_less (salted_cmp a b) (sym (before_less a b) ∙ h)

-- no two come before one another
not_both : (x y : Salted) → comes_before x y ≡ true → comes_before y x ≡ false
not_both x y h = before_less y x ∙ ap is_lt (salted_total.antisymm y x ∙ ap ordering_reverse (before_is x y h))

before_then : (x y z : Salted) → comes_before x y ≡ true → comes_before y z ≡ true → comes_before x z ≡ true
before_then x y z h k = before_less x z ∙ ap is_lt (salted_total.trans x y z (before_is x y h) (before_is y z k))

-- it does not come before x
abbrev behind : Salted → Salted → Bool
behind x y = not (comes_before y x)

not_true : (b : Bool) → not b ≡ true → b ≡ false
not_true true h = cc
not_true false h = refl

-- what does not come before y does not come before what comes before y
still_behind : (x y z : Salted) → comes_before x y ≡ true → behind y z ≡ true → behind x z ≡ true
still_behind x y z h k = by_test (comes_before z x)
    (λ b. let first = before_then z x y b h in let late = not_true (comes_before z y) k in cc)
    (λ b. rw b refl)

all_behind : (x y : Salted) (l : List Salted) → comes_before x y ≡ true → list_all (behind y) l ≡ true → list_all (behind x) l ≡ true
all_behind x y [] first h = refl
all_behind x y (z ∷ zs) first h =
    let k = and_parts (behind y z) (list_all (behind y) zs) h in
    rw (still_behind x y z first k.0) (all_behind x y zs first k.1)

-- what holds of it and of all holds of all with it
put_holds : (p : Salted → Bool) (x : Salted) (l : List Salted) → p x ≡ true → list_all p l ≡ true → list_all p (put_in x l) ≡ true
put_holds p x [] h k = rw h refl
put_holds p x (y ∷ ys) h k =
    let a = and_parts (p y) (list_all p ys) k in
    by_test (comes_before x y)
    (λ b. rw b (rw h k))
    (λ b. rw b (rw a.0 (put_holds p x ys h a.1)))

order_put : (x : Salted) (l : List Salted) → stand_in_order l ≡ true → stand_in_order (put_in x l) ≡ true
order_put x [] h = refl
order_put x (y ∷ ys) h =
    let k = and_parts (list_all (behind y) ys) (stand_in_order ys) h in
    by_test (comes_before x y)
    (λ b. rw b (rw (not_both x y b) (rw (all_behind x y ys b k.0) h)))
    (λ b. let late : behind y x ≡ true = rw b refl in
    rw b (rw (put_holds (behind y) x ys late k.0) (order_put x ys k.1)))

order_all : (l xs : List Salted) → stand_in_order l ≡ true → stand_in_order (put_all l xs) ≡ true
order_all l [] h = h
order_all l (x ∷ xs) h = order_all (put_in x l) xs (order_put x l h)

-- the abstract has the k least
pub are_least : (names : List (List ℕ)) (salt : List ℕ) (k : ℕ) → IsAbstract names salt k (abstract_of names salt k)
are_least names salt k =
    let salted = map (under_salt salt) names in
    record { ordered = put_all [] salted; all = all_moved salted; order = order_all [] salted refl; first = refl }
