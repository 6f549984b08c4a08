-- The object at a place among those of two lists in object order.
use Rattle.std.proofs.Common.{◌≡◌, ◌≤◌, ◌<◌, ℕ, zero, suc, ◌+◌, ◌-◌, Bool, true, false, ◌&&◌, nat_lt, cond, List, [], ◌∷◌, length, Option, Some, None, refl, sym, ap, ◌∙◌, subst, arith}
use Rattle.std.specs.Prelude.{slice_get}
use Rattle.std.specs.List.{list_all, sum_by}
use Rattle.std.specs.declared.cmp.Ordering.{Ordering}
use Rattle.std.specs.declared.cmp.Ordering.TheVariants.{Less, Equal, Greater}
use Rattle.std.specs.Ordering.{is_lt, is_eq, ordering_reverse}
use Rattle.std.proofs.lemmas.Bool.{and_parts, true≢false, ltb-true, ltb-false, lt-ltb}
use Rattle.std.proofs.lemmas.List.Sums.{sum_by-cons}
use Rattle.std.proofs.lemmas.Option.{slice_get_past, slice_get_within}
use Rattle.psb_bytes.specs.Objects.{object_eq, object_cmp}
use Rattle.psb_bytes.specs.declared.ids.Object.{Object}
use Rattle.psb_model.specs.Words.{in_order, listed, occurs}
use Rattle.psb_model.proofs.ByObject.{by_cases, object_eq-same, object_eq-refl, has-occurs, lacks-units_at}
use Rattle.psb_model.proofs.ObjectOrder.{comes_first, less_then, same_object, object_total}
use Rattle.asked_objects.specs.Ranks.{precedes, is_first, is_within, IsSplit}

abbrev pub self : Object → Object
self o = o

-- how many objects come before this one
abbrev pub before : Object → Object → ℕ
before o x = cond (is_lt (object_cmp x o)) 1 0

abbrev pub rank : Object → List Object → ℕ
rank o [] = 0
rank o (x ∷ xs) = before o x + rank o xs

rank_sum : (o : Object) (l : List Object) → sum_by (before o) l ≡ rank o l
rank_sum o [] = refl
rank_sum o (x ∷ xs) = sum_by-cons (before o) x xs ∙ ap (λ n. before o x + n) (rank_sum o xs)

-- an object doesn't come before itself
pub not_itself : (o : Object) → is_lt (object_cmp o o) ≡ false
not_itself o = by_cases (is_lt (object_cmp o o)) (λ k. absurd (true≢false (sym k ∙ comes_first o o k))) (λ k. k)

one_less : (o x : Object) → before o x ≤ 1
one_less o x = by_cases (is_lt (object_cmp x o)) (λ k. rw k (omega arith)) (λ k. rw k (omega arith))

-- what holds of all holds of one that is found at a place
pub all_at : (p : Object → Bool) (l : List Object) (i : ℕ) (o : Object) → list_all p l ≡ true → slice_get l i ≡ Some o → p o ≡ true
all_at p [] i o h k = absurd (cc (k))
all_at p (x ∷ xs) zero o h k = let same : x ≡ o = cc (k) in ap p (sym same) ∙ (and_parts (p x) (list_all p xs) h).0
all_at p (x ∷ xs) (suc i) o h k = all_at p xs i o (and_parts (p x) (list_all p xs) h).1 k

pub all_listed : (p : Object → Bool) (l : List Object) (o : Object) → list_all p l ≡ true → listed l o ≡ true → p o ≡ true
all_listed p [] o h k = absurd (true≢false (sym k))
all_listed p (x ∷ xs) o h k =
    let a = and_parts (p x) (list_all p xs) h in
    by_cases (object_eq x o)
    (λ e. ap p (sym (object_eq-same x o e)) ∙ a.0)
    (λ e. let k' = rw e at k in all_listed p xs o a.1 k')

-- nothing that comes behind an object counts
none_counts : (o : Object) (l : List Object) → list_all (λ x. is_lt (object_cmp o x)) l ≡ true → rank o l ≡ 0
none_counts o [] h = refl
none_counts o (x ∷ xs) h =
    let a = and_parts (is_lt (object_cmp o x)) (list_all (λ y. is_lt (object_cmp o y)) xs) h in
    rw (comes_first o x a.0) (omega (arith, none_counts o xs a.1))

-- THE OBJECT OF A RANK

pub rank_get : (l : List Object) (o : Object) → in_order self l ≡ true → listed l o ≡ true → slice_get l (rank o l) ≡ Some o
rank_get [] o h k = absurd (true≢false (sym k))
rank_get (x ∷ xs) o h k =
    let a = and_parts (list_all (λ y. is_lt (object_cmp x y)) xs) (in_order self xs) h in
    by_cases (object_eq x o)
    (λ e. subst (λ y. slice_get (x ∷ xs) (rank y (x ∷ xs)) ≡ Some y) (object_eq-same x o e) (rw (not_itself x) (rw (none_counts x xs a.0) refl)))
    (λ e.
    let k' = rw e at k in
    let less : is_lt (object_cmp x o) ≡ true = all_listed (λ y. is_lt (object_cmp x y)) xs o a.0 k' in
    let more : rank o (x ∷ xs) ≡ suc (rank o xs) = rw less (omega arith) in
    subst (λ n. slice_get (x ∷ xs) n ≡ Some o) (sym more) (rank_get xs o a.1 k'))

pub get_rank : (l : List Object) (i : ℕ) (o : Object) → in_order self l ≡ true → slice_get l i ≡ Some o → rank o l ≡ i
get_rank [] i o h k = absurd (cc (k))
get_rank (x ∷ xs) zero o h k =
    let a = and_parts (list_all (λ y. is_lt (object_cmp x y)) xs) (in_order self xs) h in
    let same : x ≡ o = cc (k) in
    subst (λ y. rank y (x ∷ xs) ≡ 0) same (rw (not_itself x) (omega (arith, none_counts x xs a.0)))
get_rank (x ∷ xs) (suc i) o h k =
    let a = and_parts (list_all (λ y. is_lt (object_cmp x y)) xs) (in_order self xs) h in
    let less : is_lt (object_cmp x o) ≡ true = all_at (λ y. is_lt (object_cmp x y)) xs i o a.0 k in
    rw less (omega (arith, get_rank xs i o a.1 k))

-- THE RANK OF AN OBJECT AMONG OTHERS

rank_above : (l : List Object) (d : Object) (m : ℕ) (o : Object) → in_order self l ≡ true → slice_get l m ≡ Some o → is_lt (object_cmp o d) ≡ true → m < rank d l
rank_above [] d m o h k less = absurd (cc (k))
rank_above (x ∷ xs) d zero o h k less =
    let same : x ≡ o = cc (k) in
    let first : is_lt (object_cmp x d) ≡ true = ap (λ y. is_lt (object_cmp y d)) same ∙ less in
    rw first (omega arith)
rank_above (x ∷ xs) d (suc m) o h k less =
    let a = and_parts (list_all (λ y. is_lt (object_cmp x y)) xs) (in_order self xs) h in
    let first : is_lt (object_cmp x d) ≡ true = less_then x o d (all_at (λ y. is_lt (object_cmp x y)) xs m o a.0 k) less in
    rw first (omega (arith, rank_above xs d m o a.1 k less))

-- what comes behind one that does not come before an object doesn't either
none_before : (x d : Object) (l : List Object) → is_lt (object_cmp x d) ≡ false → list_all (λ y. is_lt (object_cmp x y)) l ≡ true → rank d l ≡ 0
none_before x d [] late h = refl
none_before x d (y ∷ ys) late h =
    let a = and_parts (is_lt (object_cmp x y)) (list_all (λ z. is_lt (object_cmp x z)) ys) h in
    by_cases (is_lt (object_cmp y d))
    (λ k. absurd (true≢false (sym (less_then x y d a.0 k) ∙ late)))
    (λ k. rw k (omega (arith, none_before x d ys late a.1)))

rank_below : (l : List Object) (d : Object) (m : ℕ) (o : Object) → in_order self l ≡ true → slice_get l m ≡ Some o → is_lt (object_cmp o d) ≡ false → rank d l ≤ m
rank_below [] d m o h k late = absurd (cc (k))
rank_below (x ∷ xs) d zero o h k late =
    let a = and_parts (list_all (λ y. is_lt (object_cmp x y)) xs) (in_order self xs) h in
    let same : x ≡ o = cc (k) in
    let first : is_lt (object_cmp x d) ≡ false = ap (λ y. is_lt (object_cmp y d)) same ∙ late in
    rw first (omega (arith, none_before x d xs first a.0))
rank_below (x ∷ xs) d (suc m) o h k late =
    let a = and_parts (list_all (λ y. is_lt (object_cmp x y)) xs) (in_order self xs) h in
    omega (arith, one_less d x, rank_below xs d m o a.1 k late)

pub rank_length : (d : Object) (l : List Object) → rank d l ≤ length l
rank_length d [] = omega arith
rank_length d (x ∷ xs) = omega (arith, one_less d x, rank_length d xs)

past_end : (l : List Object) (i : ℕ) → slice_get l i ≡ None → length l ≤ i
past_end [] i h = omega arith
past_end (x ∷ xs) zero h = absurd (cc (h))
past_end (x ∷ xs) (suc i) h = omega (arith, past_end xs i h)

-- at the end of a list all come before
rank_behind : (l : List Object) (d : Object) (m : ℕ) → slice_get l m ≡ None → rank d l ≤ m
rank_behind l d m h = omega (arith, rank_length d l, past_end l m h)

-- THE OBJECTS OF TWO LISTS IN ONE

pub record IsJoined (os there owed : List Object) : Type 0 where
  pub whole : in_order self os ≡ true
  pub first : in_order self there ≡ true
  pub second : in_order self owed ≡ true
  pub apart : (o : Object) → listed there o ≡ true → listed owed o ≡ true → ⊥
  pub sums : (f : Object → ℕ) → sum_by f os ≡ sum_by f there + sum_by f owed

-- units at an object, as a sum
at_object : (o : Object) (l : List Object) → sum_by (λ x. cond (object_eq x o) 1 0) l ≡ occurs self l o
at_object o [] = refl
at_object o (x ∷ xs) = sum_by-cons (λ (y : Object). cond (object_eq y o) 1 0) x xs ∙ ap (λ n. cond (object_eq x o) 1 0 + n) (at_object o xs)

pub count_same : (l m : List Object) (o : Object) → ((f : Object → ℕ) → sum_by f m ≡ sum_by f l) → occurs self m o ≡ occurs self l o
count_same l m o same = sym (at_object o m) ∙ same (λ x. cond (object_eq x o) 1 0) ∙ at_object o l

has_some : (l : List Object) (o : Object) → 1 ≤ occurs self l o → listed l o ≡ true
has_some l o h = by_cases (listed l o) (λ k. k) (λ k. absurd (omega (arith, h, lacks-units_at self (λ _. 1) l o k)))

count_all : (os there owed : List Object) → IsJoined os there owed → (o : Object) → occurs self os o ≡ occurs self there o + occurs self owed o
count_all os there owed j o =
    let f : Object → ℕ = λ x. cond (object_eq x o) 1 0 in
    omega (arith, at_object o os, at_object o there, at_object o owed, j.sums f)

pub in_first : (os there owed : List Object) → IsJoined os there owed → (o : Object) → listed there o ≡ true → listed os o ≡ true
in_first os there owed j o h = has_some os o (omega (arith, count_all os there owed j o, has-occurs self there o h))

pub in_second : (os there owed : List Object) → IsJoined os there owed → (o : Object) → listed owed o ≡ true → listed os o ≡ true
in_second os there owed j o h = has_some os o (omega (arith, count_all os there owed j o, has-occurs self owed o h))

ones : (l : List Object) → sum_by (λ (_ : Object). 1) l ≡ length l
ones [] = refl
ones (x ∷ xs) = omega (arith, sum_by-cons (λ (_ : Object). 1) x xs, ones xs)

pub length_all : (os there owed : List Object) → IsJoined os there owed → length os ≡ length there + length owed
length_all os there owed j = omega (arith, ones os, ones there, ones owed, j.sums (λ _. 1))

-- one that is found at a place is listed
pub listed_at : (l : List Object) (i : ℕ) (o : Object) → slice_get l i ≡ Some o → listed l o ≡ true
listed_at [] i o k = absurd (cc (k))
listed_at (x ∷ xs) zero o k = let same : object_eq x o ≡ true = ap (λ y. object_eq x y) (sym (cc (k))) ∙ object_eq-refl x in rw same refl
listed_at (x ∷ xs) (suc i) o k = by_cases (object_eq x o) (λ e. rw e refl) (λ e. rw e (listed_at xs i o k))

-- of two that are apart one comes first
other_first : (os there owed : List Object) → IsJoined os there owed → (a b : ℕ) (p d : Object) → slice_get there a ≡ Some p → slice_get owed b ≡ Some d → is_lt (object_cmp d p) ≡ false → is_lt (object_cmp p d) ≡ true
other_first os there owed j a b p d at_p at_d late =
    by_cases (object_eq d p)
    (λ e. absurd (j.apart p (listed_at there a p at_p) (subst (λ y. listed owed y ≡ true) (object_eq-same d p e) (listed_at owed b d at_d))))
    (λ e. turned d p e late)
  where
    by_order : (o : Ordering) → is_eq o ≡ false → is_lt o ≡ false → {b : Bool} → b ≡ is_lt (ordering_reverse o) → b ≡ true
    by_order Less e h k = absurd (cc (h))
    by_order Equal e h k = absurd (cc (e))
    by_order Greater e h k = k

    turned : (d p : Object) → object_eq d p ≡ false → is_lt (object_cmp d p) ≡ false → is_lt (object_cmp p d) ≡ true
    turned d p e late = by_order (object_cmp d p) (sym (same_object d p) ∙ e) late (ap is_lt (object_total.antisymm p d))

-- what stands at a place, or nothing
pub at_place : {P : Type 0} (l : List Object) (i : ℕ) → (slice_get l i ≡ None → P) → ((o : Object) → slice_get l i ≡ Some o → P) → P
at_place {P = P} l i f g = by_option (slice_get l i) refl
  where
    by_option : (x : Option Object) → slice_get l i ≡ x → P
    by_option None e = f e
    by_option (Some o) e = g o e

rank_all : (os there owed : List Object) → IsJoined os there owed → (d : Object) → rank d os ≡ rank d there + rank d owed
rank_all os there owed j d = omega (arith, rank_sum d os, rank_sum d there, rank_sum d owed, j.sums (before d))

found : (l : List Object) (o : Object) (i : ℕ) → in_order self l ≡ true → listed l o ≡ true → rank o l ≡ i → slice_get l i ≡ Some o
found l o i ordered has is = subst (λ n. slice_get l n ≡ Some o) is (rank_get l o ordered has)

-- THE SPLIT AT A PLACE

-- what is behind the split has all that stand in front of it before it
lower_there : (os there owed : List Object) (i j : ℕ) (d : Object) → IsJoined os there owed → IsSplit there owed i j → slice_get owed j ≡ Some d → i - j ≤ rank d there
lower_there os there owed i j d joined split at_d =
    by_cases (nat_lt j i)
    (λ less.
    let before : (nat_lt j i && precedes d (slice_get there (i - (j + 1)))) ≡ false = rw (at_d, is_within) at split.behind in
    let late : precedes d (slice_get there (i - (j + 1))) ≡ false = rw less at before in
    at_place there (i - (j + 1))
    (λ none. let late' : true ≡ false = rw none at late in absurd (true≢false late'))
    (λ p at_p.
    let late' : is_lt (object_cmp d p) ≡ false = rw at_p at late in
    let first = other_first os there owed joined (i - (j + 1)) j p d at_p at_d late' in
    omega (arith, rank_above there d (i - (j + 1)) p joined.first at_p first)))
    (λ less. omega (arith, ltb-false j i less))

lower_owed : (os there owed : List Object) (i j : ℕ) (o : Object) → IsJoined os there owed → IsSplit there owed i j → slice_get there (i - j) ≡ Some o → j ≤ rank o owed
lower_owed os there owed i zero o joined split at_o = omega arith
lower_owed os there owed i (suc k) o joined split at_o =
    let in_front = split.within k (omega arith) in
    at_place owed k
    (λ none. let wrong : false ≡ true = rw (none, is_within) at in_front in absurd (true≢false (sym wrong)))
    (λ e at_e.
    let both : (nat_lt k i && precedes e (slice_get there (i - (k + 1)))) ≡ true = rw (at_e, is_within) at in_front in
    let here : slice_get there (i - (k + 1)) ≡ Some o = ap (λ n. slice_get there (i - n)) (omega arith) ∙ at_o in
    let first = (and_parts (nat_lt k i) (precedes e (slice_get there (i - (k + 1)))) both).1 in
    let less : is_lt (object_cmp e o) ≡ true = rw here at first in
    omega (arith, rank_above owed o k e joined.second at_e less))

at_owed : (os there owed : List Object) (i j : ℕ) (d : Object) → IsJoined os there owed → IsSplit there owed i j → slice_get owed j ≡ Some d → rank d there ≤ i - j → slice_get os i ≡ Some d
at_owed os there owed i j d joined split at_d few =
    found os d i joined.whole (in_second os there owed joined d (listed_at owed j d at_d))
    (omega (arith, rank_all os there owed joined d, get_rank owed j d joined.second at_d, lower_there os there owed i j d joined split at_d, few, split.few))

at_there : (os there owed : List Object) (i j : ℕ) (o : Object) → IsJoined os there owed → IsSplit there owed i j → slice_get there (i - j) ≡ Some o → rank o owed ≤ j → slice_get os i ≡ Some o
at_there os there owed i j o joined split at_o few =
    found os o i joined.whole (in_first os there owed joined o (listed_at there (i - j) o at_o))
    (omega (arith, rank_all os there owed joined o, get_rank there (i - j) o joined.first at_o, lower_owed os there owed i j o joined split at_o, few, split.few))

-- THE OBJECT AT A PLACE of both lists is the first behind the split there.
pub first_owed : (os there owed : List Object) (i j : ℕ) → IsJoined os there owed → IsSplit there owed i j → (debt out : Option Object) → debt ≡ slice_get owed j → out ≡ slice_get there (i - j) → is_first debt out ≡ true → debt ≡ slice_get os i
first_owed os there owed i j joined split None out at_debt at_out h = absurd (true≢false (sym h))
first_owed os there owed i j joined split (Some d) None at_debt at_out h = sym (at_owed os there owed i j d joined split (sym at_debt) (rank_behind there d (i - j) (sym at_out)))
first_owed os there owed i j joined split (Some d) (Some o) at_debt at_out h = sym (at_owed os there owed i j d joined split (sym at_debt) (rank_below there d (i - j) o joined.first (sym at_out) (comes_first d o h)))

pub first_there : (os there owed : List Object) (i j : ℕ) → IsJoined os there owed → IsSplit there owed i j → (debt out : Option Object) → debt ≡ slice_get owed j → out ≡ slice_get there (i - j) → is_first debt out ≡ false → out ≡ slice_get os i
first_there os there owed i j joined split None None at_debt at_out h = sym (slice_get_past os i (omega (arith, length_all os there owed joined, past_end owed j (sym at_debt), past_end there (i - j) (sym at_out), split.few)))
first_there os there owed i j joined split None (Some o) at_debt at_out h = sym (at_there os there owed i j o joined split (sym at_out) (rank_behind owed o j (sym at_debt)))
first_there os there owed i j joined split (Some d) None at_debt at_out h = absurd (true≢false h)
first_there os there owed i j joined split (Some d) (Some o) at_debt at_out h = sym (at_there os there owed i j o joined split (sym at_out) (rank_below owed o j d joined.second (sym at_debt) h))

-- THE SPLIT AT THE NEXT PLACE

-- each comes before the next
next_first : (l : List Object) (a : ℕ) (x y : Object) → in_order self l ≡ true → slice_get l a ≡ Some x → slice_get l (a + 1) ≡ Some y → is_lt (object_cmp x y) ≡ true
next_first [] a x y h at_x at_y = absurd (cc (at_x))
next_first (z ∷ zs) zero x y h at_x at_y =
    let a = and_parts (list_all (λ w. is_lt (object_cmp z w)) zs) (in_order self zs) h in
    let same : z ≡ x = cc (at_x) in
    ap (λ w. is_lt (object_cmp w y)) (sym same) ∙ all_at (λ w. is_lt (object_cmp z w)) zs 0 y a.0 at_y
next_first (z ∷ zs) (suc a) x y h at_x at_y =
    let more : suc a + 1 ≡ suc (a + 1) = omega arith in
    next_first zs a x y (and_parts (list_all (λ w. is_lt (object_cmp z w)) zs) (in_order self zs) h).1 at_x (ap (slice_get (z ∷ zs)) (sym more) ∙ at_y)

and_none : (a b : Bool) → b ≡ false → (a && b) ≡ false
and_none true b h = h
and_none false b h = refl

pub no_split : (there owed : List Object) → IsSplit there owed 0 0
no_split there owed = record {
  some = omega arith;
  few = omega arith;
  within = λ k e. absurd (omega (arith, e));
  behind = at_place owed 0 (λ none. rw (none, is_within) refl) (λ d at_d. rw (at_d, is_within) refl);
}

-- the object in debt is passed
pub split_owed : (os there owed : List Object) (i j : ℕ) → IsJoined os there owed → IsSplit there owed i j → (debt out : Option Object) → debt ≡ slice_get owed j → out ≡ slice_get there (i - j) → is_first debt out ≡ true → IsSplit there owed (i + 1) (j + 1)
split_owed os there owed i j joined split None out at_debt at_out h = absurd (true≢false (sym h))
split_owed os there owed i j joined split (Some d) out at_debt at_out h = record {
  some = omega (arith, slice_get_within owed j d (sym at_debt));
  few = omega (arith, split.few);
  within = λ k e. let same : j ≡ k = omega (arith, e) in subst (λ n. is_within there owed (i + 1) n ≡ true) same here;
  behind = at_place owed (j + 1) (λ none. rw (none, is_within) refl) (λ e at_e. rw (at_e, is_within) (by_cases (nat_lt (j + 1) (i + 1)) (λ k. rw k (late e at_e (ltb-true (j + 1) (i + 1) k))) (λ k. rw k refl)));
}
  where
    place : slice_get there (i + 1 - (j + 1)) ≡ out
    place = ap (slice_get there) (omega arith) ∙ sym at_out

    here : is_within there owed (i + 1) j ≡ true
    here = rw (sym at_debt, is_within) (rw (lt-ltb j (i + 1) (omega (arith, split.few)), place) h)

    late : (e : Object) → slice_get owed (j + 1) ≡ Some e → j + 1 < i + 1 → precedes e (slice_get there (i + 1 - (j + 1 + 1))) ≡ false
    late e at_e less =
        let before : (nat_lt j i && precedes d (slice_get there (i - (j + 1)))) ≡ false = rw (sym at_debt, is_within) at split.behind in
        let here' : precedes d (slice_get there (i - (j + 1))) ≡ false = rw (lt-ltb j i (omega (arith, less))) at before in
        let same : i + 1 - (j + 1 + 1) ≡ i - (j + 1) = omega arith in
        at_place there (i - (j + 1))
        (λ none. let wrong : true ≡ false = rw none at here' in absurd (true≢false wrong))
        (λ p at_p.
        let after : is_lt (object_cmp d p) ≡ false = rw at_p at here' in
        ap (λ n. precedes e (slice_get there n)) same ∙ ap (precedes e) at_p
        ∙ by_cases (is_lt (object_cmp e p)) (λ b. absurd (true≢false (sym (less_then d e p (next_first owed j d e joined.second (sym at_debt) at_e) b) ∙ after))) (λ b. b))

-- the object there is passed
pub split_there : (os there owed : List Object) (i j : ℕ) → IsJoined os there owed → IsSplit there owed i j → (debt out : Option Object) → debt ≡ slice_get owed j → out ≡ slice_get there (i - j) → is_first debt out ≡ false → IsSplit there owed (i + 1) j
split_there os there owed i j joined split debt out at_debt at_out h = record {
  some = split.some;
  few = omega (arith, split.few);
  within = λ k e. passed k e (split.within k e);
  behind = later debt at_debt h;
}
  where
    later : (debt : Option Object) → debt ≡ slice_get owed j → is_first debt out ≡ false → is_within there owed (i + 1) j ≡ false
    later None at_none h = rw (sym at_none, is_within) refl
    later (Some d) at_d h =
        let place : slice_get there (i + 1 - (j + 1)) ≡ out = ap (slice_get there) (omega arith) ∙ sym at_out in
        rw (sym at_d, is_within) (and_none (nat_lt j (i + 1)) (precedes d (slice_get there (i + 1 - (j + 1)))) (ap (precedes d) place ∙ h))

    behind : (e : Object) → precedes e (slice_get there (i - j)) ≡ true → precedes e (slice_get there (i - j + 1)) ≡ true
    behind e first =
        at_place there (i - j + 1)
        (λ none. rw none refl)
        (λ q at_q.
        at_place there (i - j)
        (λ none. absurd (omega (arith, past_end there (i - j) none, slice_get_within there (i - j + 1) q at_q)))
        (λ o at_o.
        let less : is_lt (object_cmp e o) ≡ true = rw at_o at first in
        rw at_q (less_then e o q less (next_first there (i - j) o q joined.first at_o at_q))))

    passed : (k : ℕ) → k + 1 ≡ j → is_within there owed i k ≡ true → is_within there owed (i + 1) k ≡ true
    passed k e was =
        at_place owed k
        (λ none. let wrong : false ≡ true = rw (none, is_within) at was in absurd (true≢false (sym wrong)))
        (λ d at_d.
        let both : (nat_lt k i && precedes d (slice_get there (i - (k + 1)))) ≡ true = rw (at_d, is_within) at was in
        let first = (and_parts (nat_lt k i) (precedes d (slice_get there (i - (k + 1)))) both).1 in
        let here : i - (k + 1) ≡ i - j = omega (arith, e) in
        let next : i + 1 - (k + 1) ≡ i - j + 1 = omega (arith, e, split.few) in
        rw (at_d, is_within) (rw (lt-ltb k (i + 1) (omega (arith, e, split.few))) (ap (λ n. precedes d (slice_get there n)) next ∙ behind d (ap (λ n. precedes d (slice_get there n)) (sym here) ∙ first))))
