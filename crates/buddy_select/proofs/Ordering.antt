-- Candidates put in order stand in order, and are all there.
use Rattle.std.proofs.Common.{◌≡◌, ℕ, suc, ◌+◌, ◌<◌, ◌≤◌, Bool, true, false, not, ◌==◌, List, [], ◌∷◌, ◌++◌, length, take, get_or, refl, sym, ◌∙◌, ap, subst, arith}
use Rattle.std.specs.Prelude.{nat_le, insert}
use Rattle.std.specs.List.{list_all, list_any}
use Rattle.std.specs.List.Sorted.{IsPermutation}
use Rattle.std.proofs.lemmas.List.Sorted.{IsPermutation-trans, IsPermutation-insert, IsPermutation-cons, IsPermutation-to_front}
use Rattle.std.proofs.lemmas.Bool.{and_parts, leb-true, eqb-true, eq-eqb, true≢false}
use Rattle.std.proofs.lemmas.List.{take_more}
use Rattle.psb_model.specs.declared.entries.Candidate.{Candidate}
use Rattle.psb_model.specs.Candidates.{comes_before, in_select_order, distinct_peers}
use Rattle.buddy_select.specs.Order.{put_in, put_all, place_in}
use Rattle.buddy_select.specs.Choice.{stand_in_order}
use Rattle.buddy_select.proofs.Shares.{by_test, comes_then, one_first}

-- it is put at its place
pub place_within : (x : Candidate) (l : List Candidate) → place_in x l ≤ length l
place_within x [] = omega arith
place_within x (y ∷ ys) = by_test (comes_before x y) (λ k. rw k (omega arith)) (λ k. rw k (omega (arith, place_within x ys)))

pub put_there : (x : Candidate) (l : List Candidate) → put_in x l ≡ insert l (place_in x l) x
put_there x [] = refl
put_there x (y ∷ ys) = by_test (comes_before x y) (λ k. rw k refl) (λ k. rw k (ap (λ (r : List Candidate). y ∷ r) (put_there x ys)))

-- one more
pub put_last : (l xs : List Candidate) (x : Candidate) → put_all l (xs ++ x ∷ []) ≡ put_in x (put_all l xs)
put_last l [] x = refl
put_last l (y ∷ ys) x = put_last (put_in y l) ys x

pub put_moves : (x : Candidate) (l : List Candidate) → IsPermutation (x ∷ l) (put_in x l)
put_moves x l = subst (IsPermutation (x ∷ l)) (sym (put_there x l)) (IsPermutation-insert l (place_in x l) x)

-- one more is there
pub more_moved : (candidates : List Candidate) (i : ℕ) (d : Candidate) (l : List Candidate) → i < length candidates → IsPermutation (take i candidates) l → IsPermutation (take (i + 1) candidates) (put_in (get_or candidates i d) l)
more_moved candidates i d l here is =
    let x = get_or candidates i d in
    let first = subst (λ (m : List Candidate). IsPermutation m (x ∷ take i candidates)) (sym (take_more candidates i d here)) (IsPermutation-to_front (take i candidates) x) in
    IsPermutation-trans (take (i + 1) candidates) (x ∷ take i candidates) (put_in x l) first
    (IsPermutation-trans (x ∷ take i candidates) (x ∷ l) (put_in x l) (IsPermutation-cons x (take i candidates) l is) (put_moves x l))

-- ---- in order

abbrev asked : Candidate → Bool
asked y = nat_le 1 y.of

abbrev apart : Candidate → Candidate → Bool
apart x y = not (y.peer == x.peer)

-- what holds of it and of all holds of all with it
pub put_holds : (p : Candidate → Bool) (x : Candidate) (l : List Candidate) → p x ≡ true → list_all p l ≡ true → list_all p (put_in x l) ≡ true
put_holds p x [] h k = rw h refl
put_holds p x (y ∷ ys) h k =
    let a = and_parts (p y) (list_all p ys) k in
    by_test (comes_before x y)
    (λ b. rw b (rw h k))
    (λ b. rw b (rw a.0 (put_holds p x ys h a.1)))

all_behind : (x y : Candidate) (l : List Candidate) → 0 < x.of → 0 < y.of → comes_before x y ≡ true → list_all asked l ≡ true → list_all (comes_before y) l ≡ true → list_all (comes_before x) l ≡ true
all_behind x y [] a b first some h = refl
all_behind x y (z ∷ zs) a b first some h =
    let s = and_parts (asked z) (list_all asked zs) some in
    let k = and_parts (comes_before y z) (list_all (comes_before y) zs) h in
    rw (comes_then x y z a b (leb-true 1 z.of s.0) first k.0) (all_behind x y zs a b first s.1 k.1)

not_true : (b : Bool) → not b ≡ true → b ≡ false
not_true true h = absurd (true≢false (sym h))
not_true false h = refl

order_put : (x : Candidate) (l : List Candidate) → 0 < x.of → list_all asked l ≡ true → list_all (apart x) l ≡ true → stand_in_order l ≡ true → stand_in_order (put_in x l) ≡ true
order_put x [] a some other h = refl
order_put x (y ∷ ys) a some other h =
    let s = and_parts (asked y) (list_all asked ys) some in
    let o = and_parts (apart x y) (list_all (apart x) ys) other in
    let k = and_parts (list_all (comes_before y) ys) (stand_in_order ys) h in
    by_test (comes_before x y)
    (λ b. rw b (rw (b, all_behind x y ys a (leb-true 1 y.of s.0) b s.1 k.0) h))
    (λ b. let late : comes_before y x ≡ true = one_first x y (by_test (x.peer == y.peer) (λ e. absurd (true≢false (sym (eq-eqb y.peer x.peer (sym (eqb-true x.peer y.peer e))) ∙ not_true (y.peer == x.peer) o.0))) (λ e. e)) b in
    rw b (rw (put_holds (comes_before y) x ys late k.0) (order_put x ys a s.1 o.1 k.1)))

-- none of those that come is there
abbrev all_apart : List Candidate → List Candidate → Bool
all_apart l xs = list_all (λ (x : Candidate). list_all (apart x) l) xs

apart_put : (x : Candidate) (l xs : List Candidate) → list_any (λ (y : Candidate). x.peer == y.peer) xs ≡ false → all_apart l xs ≡ true → all_apart (put_in x l) xs ≡ true
apart_put x l [] none h = refl
apart_put x l (z ∷ zs) none h =
    let k = and_parts (list_all (apart z) l) (all_apart l zs) h in
    by_test (x.peer == z.peer)
    (λ e. let wrong : true ≡ false = rw e at none in absurd (true≢false wrong))
    (λ e. let less : list_any (λ (y : Candidate). x.peer == y.peer) zs ≡ false = rw e at none in
    rw (put_holds (apart z) x l (rw e refl) k.0) (apart_put x l zs less k.1))

order_all : (l xs : List Candidate) → list_all asked l ≡ true → list_all asked xs ≡ true → distinct_peers xs ≡ true → all_apart l xs ≡ true → stand_in_order l ≡ true → stand_in_order (put_all l xs) ≡ true
order_all l [] some more one other h = h
order_all l (x ∷ xs) some more one other h =
    let m = and_parts (asked x) (list_all asked xs) more in
    let d = and_parts (not (list_any (λ (y : Candidate). x.peer == y.peer) xs)) (distinct_peers xs) one in
    let o = and_parts (list_all (apart x) l) (all_apart l xs) other in
    let none = not_true (list_any (λ (y : Candidate). x.peer == y.peer) xs) d.0 in
    order_all (put_in x l) xs (put_holds asked x l m.0 some) m.1 d.1 (apart_put x l xs none o.1) (order_put x l (leb-true 1 x.of m.0) some o.0 h)

bare_apart : (xs : List Candidate) → all_apart [] xs ≡ true
bare_apart [] = refl
bare_apart (x ∷ xs) = bare_apart xs

pub put_in_order : (xs : List Candidate) → list_all asked xs ≡ true → distinct_peers xs ≡ true → stand_in_order (put_all [] xs) ≡ true
put_in_order xs more one = order_all [] xs refl more one (bare_apart xs) refl

-- each comes before the next
pub next_in_order : (l : List Candidate) → stand_in_order l ≡ true → in_select_order l ≡ true
next_in_order [] h = refl
next_in_order (x ∷ []) h = refl
next_in_order (x ∷ y ∷ ys) h =
    let k = and_parts (list_all (comes_before x) (y ∷ ys)) (stand_in_order (y ∷ ys)) h in
    let a = and_parts (comes_before x y) (list_all (comes_before x) ys) k.0 in
    rw a.0 (next_in_order (y ∷ ys) k.1)

-- ---- what they have stays

-- what holds of each that comes holds of each in order
pub all_hold : (p : Candidate → Bool) (l xs : List Candidate) → list_all p l ≡ true → list_all p xs ≡ true → list_all p (put_all l xs) ≡ true
all_hold p l [] h k = h
all_hold p l (x ∷ xs) h k = let a = and_parts (p x) (list_all p xs) k in all_hold p (put_in x l) xs (put_holds p x l a.0 h) a.1

put_longer : (x : Candidate) (l : List Candidate) → length (put_in x l) ≡ suc (length l)
put_longer x [] = refl
put_longer x (y ∷ ys) = by_test (comes_before x y) (λ k. rw k refl) (λ k. rw k (ap suc (put_longer x ys)))

all_long : (l xs : List Candidate) → length (put_all l xs) ≡ length l + length xs
all_long l [] = omega arith
all_long l (x ∷ xs) = omega (arith, all_long (put_in x l) xs, put_longer x l)

-- they are as many
pub put_long : (xs : List Candidate) → length (put_all [] xs) ≡ length xs
put_long xs = omega (arith, all_long [] xs)

abbrev unlike : Candidate → Candidate → Bool
unlike x y = not (x.peer == y.peer)

turned : (x y : Candidate) → apart x y ≡ true → unlike x y ≡ true
turned x y h = by_test (x.peer == y.peer) (λ e. absurd (true≢false (sym (eq-eqb y.peer x.peer (sym (eqb-true x.peer y.peer e))) ∙ not_true (y.peer == x.peer) h))) (λ e. rw e refl)

all_turned : (x : Candidate) (l : List Candidate) → list_all (apart x) l ≡ true → list_all (unlike x) l ≡ true
all_turned x [] h = refl
all_turned x (y ∷ ys) h = let a = and_parts (apart x y) (list_all (apart x) ys) h in rw (turned x y a.0) (all_turned x ys a.1)

none_like : (x : Candidate) (l : List Candidate) → list_all (unlike x) l ≡ true → not (list_any (λ (y : Candidate). x.peer == y.peer) l) ≡ true
none_like x [] h = refl
none_like x (y ∷ ys) h = let a = and_parts (unlike x y) (list_all (unlike x) ys) h in rw (not_true (x.peer == y.peer) a.0) (none_like x ys a.1)

all_unlike : (x : Candidate) (l : List Candidate) → not (list_any (λ (y : Candidate). x.peer == y.peer) l) ≡ true → list_all (unlike x) l ≡ true
all_unlike x [] h = refl
all_unlike x (y ∷ ys) h =
    by_test (x.peer == y.peer)
    (λ e. let wrong : false ≡ true = rw e at h in absurd (true≢false (sym wrong)))
    (λ e. let less : not (list_any (λ (z : Candidate). x.peer == z.peer) ys) ≡ true = rw e at h in rw e (all_unlike x ys less))

distinct_put : (x : Candidate) (l : List Candidate) → list_all (apart x) l ≡ true → distinct_peers l ≡ true → distinct_peers (put_in x l) ≡ true
distinct_put x [] h d = refl
distinct_put x (y ∷ ys) h d =
    let a = and_parts (apart x y) (list_all (apart x) ys) h in
    let two = and_parts (not (list_any (λ (z : Candidate). y.peer == z.peer) ys)) (distinct_peers ys) d in
    by_test (comes_before x y)
    (λ b. rw b (rw (none_like x (y ∷ ys) (all_turned x (y ∷ ys) h)) d))
    (λ b. rw b (rw (none_like y (put_in x ys) (put_holds (unlike y) x ys a.0 (all_unlike y ys two.0))) (distinct_put x ys a.1 two.1)))

distinct_all : (l xs : List Candidate) → distinct_peers l ≡ true → distinct_peers xs ≡ true → all_apart l xs ≡ true → distinct_peers (put_all l xs) ≡ true
distinct_all l [] d one other = d
distinct_all l (x ∷ xs) d one other =
    let k = and_parts (not (list_any (λ (y : Candidate). x.peer == y.peer) xs)) (distinct_peers xs) one in
    let o = and_parts (list_all (apart x) l) (all_apart l xs) other in
    let none = not_true (list_any (λ (y : Candidate). x.peer == y.peer) xs) k.0 in
    distinct_all (put_in x l) xs (distinct_put x l o.0 d) k.1 (apart_put x l xs none o.1)

-- no peer is listed twice
pub put_distinct : (xs : List Candidate) → distinct_peers xs ≡ true → distinct_peers (put_all [] xs) ≡ true
put_distinct xs one = distinct_all [] xs refl one (bare_apart xs)
