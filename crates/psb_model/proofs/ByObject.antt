-- Lists of entries by object: what they have at an object, and their sums.
use Rattle.std.proofs.Common.{◌≡◌, ℕ, ◌+◌, ◌≤◌, Bool, true, false, not, cond, List, [], ◌∷◌, ◌++◌, length, map, filter, sum_by, refl, sym, ap, ◌∙◌, subst, arith}
use Rattle.std.specs.List.{list_all}
use Rattle.std.proofs.lemmas.Bool.{false≢true, eqb-true, eq-eqb, cases_Bool, false_from_ne_true, and_parts}
use Rattle.std.proofs.lemmas.Slice.Eq.{bytes_eq-Decides}
use Rattle.std.proofs.lemmas.List.Sums.{sum_by-cons}
use Rattle.std.proofs.lemmas.List.Filters.{sum_by-filter_both}
use Rattle.std.specs.Ordering.{is_lt}
use Rattle.psb_bytes.specs.declared.ids.Object.{Object}
use Rattle.psb_bytes.specs.declared.ids.Object.TheVariants.{Chunk, Slot}
pub use Rattle.psb_model.specs.Words.{occurs}
use Rattle.psb_model.specs.Words.{has, has_so, listed, object_cmp, object_eq, objects_distinct, only, units_at, with_all, with_one, without}

pub object_eq-same : (a b : Object) → object_eq a b ≡ true → a ≡ b
object_eq-same (Chunk a) (Chunk b) h = ap Chunk ((bytes_eq-Decides a b).0 h)
object_eq-same (Chunk a) (Slot b) h = absurd (false≢true h)
object_eq-same (Slot a) (Chunk b) h = absurd (false≢true h)
object_eq-same (Slot a) (Slot b) h = ap Slot (eqb-true a b h)

pub object_eq-refl : (a : Object) → object_eq a a ≡ true
object_eq-refl (Chunk a) = (bytes_eq-Decides a a).1 refl
object_eq-refl (Slot a) = eq-eqb a a refl

-- the same at each Bool, with the equation
pub by_cases : {P : Type 0} (b : Bool) → (b ≡ true → P) → (b ≡ false → P) → P
by_cases true f g = f refl
by_cases false f g = g refl

pub object_eq-swap : (a b : Object) → object_eq a b ≡ object_eq b a
object_eq-swap a b =
    by_cases (object_eq a b)
    (λ h. h ∙ sym (subst (λ x. object_eq b x ≡ true) (sym (object_eq-same a b h)) (object_eq-refl b)))
    (λ h. h ∙ sym (false_from_ne_true (object_eq b a) (λ k. false≢true (sym h ∙ subst (λ x. object_eq a x ≡ true) (sym (object_eq-same b a k)) (object_eq-refl a)))))

-- what is asked of an object holds of one that is the same
pub carry : {A : Type 0} (f : Object → A) (a b : Object) → object_eq a b ≡ true → f a ≡ f b
carry f a b h = ap f (object_eq-same a b h)

at_without : {E : Type 0} (key : E → Object) (size : E → ℕ) (objects : List Object) (e : E) (l : List E) (o : Object) → (object_eq (key e) o ≡ true → listed objects (key e) ≡ listed objects o) → units_at key size (without key objects l) o ≡ cond (listed objects o) 0 (units_at key size l o) → units_at key size (without key objects (e ∷ l)) o ≡ cond (listed objects o) 0 (units_at key size (e ∷ l) o)
at_without key size objects e l o f ih = grind (arith, cases_Bool (object_eq (key e) o), cases_Bool (listed objects (key e)), cases_Bool (listed objects o))

pub units_at-without : {E : Type 0} (key : E → Object) (size : E → ℕ) (objects : List Object) (l : List E) (o : Object) → units_at key size (without key objects l) o ≡ cond (listed objects o) 0 (units_at key size l o)
units_at-without key size objects [] o = by_cases (listed objects o) (λ h. rw h) (λ h. rw h)
units_at-without key size objects (e ∷ es) o = at_without key size objects e es o (carry (listed objects) (key e) o) (units_at-without key size objects es o)

at_only : {E : Type 0} (key : E → Object) (size : E → ℕ) (objects : List Object) (e : E) (l : List E) (o : Object) → (object_eq (key e) o ≡ true → listed objects (key e) ≡ listed objects o) → units_at key size (only key objects l) o ≡ cond (listed objects o) (units_at key size l o) 0 → units_at key size (only key objects (e ∷ l)) o ≡ cond (listed objects o) (units_at key size (e ∷ l) o) 0
at_only key size objects e l o f ih = grind (arith, cases_Bool (object_eq (key e) o), cases_Bool (listed objects (key e)), cases_Bool (listed objects o))

pub units_at-only : {E : Type 0} (key : E → Object) (size : E → ℕ) (objects : List Object) (l : List E) (o : Object) → units_at key size (only key objects l) o ≡ cond (listed objects o) (units_at key size l o) 0
units_at-only key size objects [] o = by_cases (listed objects o) (λ h. rw h) (λ h. rw h)
units_at-only key size objects (e ∷ es) o = at_only key size objects e es o (carry (listed objects) (key e) o) (units_at-only key size objects es o)

at_filter : {E : Type 0} (key : E → Object) (size : E → ℕ) (q : E → Bool) (e : E) (l : List E) (o : Object) → units_at key size (filter (λ x. not (q x)) l) o + units_at key size (filter q l) o ≡ units_at key size l o → units_at key size (filter (λ x. not (q x)) (e ∷ l)) o + units_at key size (filter q (e ∷ l)) o ≡ units_at key size (e ∷ l) o
at_filter key size q e l o ih = grind (arith, cases_Bool (q e))

-- what a test parts
pub units_at-filter_both : {E : Type 0} (key : E → Object) (size : E → ℕ) (q : E → Bool) (l : List E) (o : Object) → units_at key size (filter (λ x. not (q x)) l) o + units_at key size (filter q l) o ≡ units_at key size l o
units_at-filter_both key size q [] o = refl
units_at-filter_both key size q (e ∷ es) o = at_filter key size q e es o (units_at-filter_both key size q es o)

at_with_one : {E : Type 0} (key : E → Object) (size : E → ℕ) (e x : E) (l : List E) (o : Object) → units_at key size (with_one key e l) o ≡ units_at key size (e ∷ l) o → units_at key size (with_one key e (x ∷ l)) o ≡ units_at key size (e ∷ x ∷ l) o
at_with_one key size e x l o ih = grind (arith, cases_Bool (is_lt (object_cmp (key e) (key x))))

pub units_at-with_one : {E : Type 0} (key : E → Object) (size : E → ℕ) (e : E) (l : List E) (o : Object) → units_at key size (with_one key e l) o ≡ units_at key size (e ∷ l) o
units_at-with_one key size e [] o = refl
units_at-with_one key size e (x ∷ xs) o = at_with_one key size e x xs o (units_at-with_one key size e xs o)

pub units_at-with_all : {E : Type 0} (key : E → Object) (size : E → ℕ) (es l : List E) (o : Object) → units_at key size (with_all key es l) o ≡ units_at key size es o + units_at key size l o
units_at-with_all key size [] l o = omega arith
units_at-with_all key size (e ∷ es) l o = omega (arith, units_at-with_all key size es (with_one key e l) o, units_at-with_one key size e l o)

pub units_at-append : {E : Type 0} (key : E → Object) (size : E → ℕ) (xs ys : List E) (o : Object) → units_at key size (xs ++ ys) o ≡ units_at key size xs o + units_at key size ys o
units_at-append key size [] ys o = omega arith
units_at-append key size (x ∷ xs) ys o = omega (arith, units_at-append key size xs ys o)

sum_with_one : {E : Type 0} (key : E → Object) (size : E → ℕ) (e x : E) (l : List E) → sum_by size (with_one key e l) ≡ size e + sum_by size l → sum_by size (with_one key e (x ∷ l)) ≡ size e + sum_by size (x ∷ l)
sum_with_one key size e x l ih = grind (arith, cases_Bool (is_lt (object_cmp (key e) (key x))), sum_by-cons size e (x ∷ l), sum_by-cons size x l, sum_by-cons size x (with_one key e l))

pub sum_by-with_one : {E : Type 0} (key : E → Object) (size : E → ℕ) (e : E) (l : List E) → sum_by size (with_one key e l) ≡ size e + sum_by size l
sum_by-with_one key size e [] = sum_by-cons size e []
sum_by-with_one key size e (x ∷ xs) = sum_with_one key size e x xs (sum_by-with_one key size e xs)

pub sum_by-with_all : {E : Type 0} (key : E → Object) (size : E → ℕ) (es l : List E) → sum_by size (with_all key es l) ≡ sum_by size es + sum_by size l
sum_by-with_all key size [] l = omega arith
sum_by-with_all key size (e ∷ es) l = omega (arith, sum_by-with_all key size es (with_one key e l), sum_by-with_one key size e l, sum_by-cons size e es)

not_not : (b : Bool) → b ≡ not (not b)
not_not true = refl
not_not false = refl

pub sum_by-without : {E : Type 0} (key : E → Object) (size : E → ℕ) (objects : List Object) (l : List E) → sum_by size (without key objects l) + sum_by size (only key objects l) ≡ sum_by size l
sum_by-without key size objects l = sum_by-filter_both (λ e. not (listed objects (key e))) (λ e. listed objects (key e)) (λ e. not_not (listed objects (key e))) size l

pub sum_by-parts : {E : Type 0} (q : E → Bool) (size : E → ℕ) (l : List E) → sum_by size (filter (λ x. not (q x)) l) + sum_by size (filter q l) ≡ sum_by size l
sum_by-parts q size l = sum_by-filter_both (λ e. not (q e)) q (λ e. not_not (q e)) size l

-- the units that the list has at these objects
abbrev pub sum_at : {E : Type 0} → (E → Object) → (E → ℕ) → List E → List Object → ℕ
sum_at key size l [] = 0
sum_at key size l (o ∷ os) = units_at key size l o + sum_at key size l os

sum_at-none : {E : Type 0} (key : E → Object) (size : E → ℕ) (os : List Object) → sum_at key size [] os ≡ 0
sum_at-none key size [] = refl
sum_at-none key size (o ∷ os) = omega (arith, sum_at-none key size os)

at_cons : {E : Type 0} (key : E → Object) (size : E → ℕ) (e : E) (l : List E) (o : Object) (os : List Object) → (object_eq (key e) o ≡ true → listed os (key e) ≡ listed os o) → object_eq o (key e) ≡ object_eq (key e) o → (objects_distinct os ≡ true → sum_at key size (e ∷ l) os ≡ cond (listed os (key e)) (size e) 0 + sum_at key size l os) → objects_distinct (o ∷ os) ≡ true → sum_at key size (e ∷ l) (o ∷ os) ≡ cond (listed (o ∷ os) (key e)) (size e) 0 + sum_at key size l (o ∷ os)
at_cons key size e l o os f swap ih d = grind (arith, cases_Bool (object_eq (key e) o), cases_Bool (listed os (key e)), cases_Bool (listed os o), cases_Bool (objects_distinct os))

pub sum_at-cons : {E : Type 0} (key : E → Object) (size : E → ℕ) (e : E) (l : List E) (os : List Object) → objects_distinct os ≡ true → sum_at key size (e ∷ l) os ≡ cond (listed os (key e)) (size e) 0 + sum_at key size l os
sum_at-cons key size e l [] d = refl
sum_at-cons key size e l (o ∷ os) d = at_cons key size e l o os (carry (listed os) (key e) o) (object_eq-swap o (key e)) (sum_at-cons key size e l os) d

by_only : {E : Type 0} (key : E → Object) (size : E → ℕ) (e : E) (l : List E) (os : List Object) → sum_at key size (e ∷ l) os ≡ cond (listed os (key e)) (size e) 0 + sum_at key size l os → sum_by size (only key os l) ≡ sum_at key size l os → sum_by size (only key os (e ∷ l)) ≡ sum_at key size (e ∷ l) os
by_only key size e l os c ih = grind (arith, cases_Bool (listed os (key e)), sum_by-cons size e (only key os l))

pub sum_by-only : {E : Type 0} (key : E → Object) (size : E → ℕ) (l : List E) (os : List Object) → objects_distinct os ≡ true → sum_by size (only key os l) ≡ sum_at key size l os
sum_by-only key size [] os d = sym (sum_at-none key size os)
sum_by-only key size (e ∷ es) os d = by_only key size e es os (sum_at-cons key size e es os d) (sum_by-only key size es os d)

-- at objects of one unit each it is their number
pub sum_at-ones : {E : Type 0} (key : E → Object) (size : E → ℕ) (l : List E) (os : List Object) → ((o : Object) → listed os o ≡ true → units_at key size l o ≡ 1) → sum_at key size l os ≡ length os
sum_at-ones key size l [] f = refl
sum_at-ones key size l (o ∷ os) f = omega (arith, f o (rw (object_eq-refl o) refl), sum_at-ones key size l os (λ x h. f x (at_more o os x h)))
  where
    at_more : (o : Object) (os : List Object) (x : Object) → listed os x ≡ true → listed (o ∷ os) x ≡ true
    at_more o os x h = by_cases (object_eq o x) (λ k. rw k refl) (λ k. rw (k, h) refl)

-- A slot has one unit, and a chunk at least one.
abbrev pub slot_size : Object → ℕ → Type 0
slot_size (Chunk n) u = 1 ≤ u
slot_size (Slot n) u = u ≡ 1

abbrev pub Ones : {E : Type 0} → (E → Object) → (E → ℕ) → List E → Type 0
Ones key size [] = Unit {0}
Ones key size (e ∷ es) = slot_size (key e) (size e) × Ones key size es

pub Ones-filter : {E : Type 0} (key : E → Object) (size : E → ℕ) (q : E → Bool) (l : List E) → Ones key size l → Ones key size (filter q l)
Ones-filter key size q [] h = tt
Ones-filter key size q (e ∷ es) h = by_cases (q e) (λ k. rw k (h.0, Ones-filter key size q es h.1)) (λ k. rw k (Ones-filter key size q es h.1))

pub Ones-with_one : {E : Type 0} (key : E → Object) (size : E → ℕ) (e : E) (l : List E) → slot_size (key e) (size e) → Ones key size l → Ones key size (with_one key e l)
Ones-with_one key size e [] s h = (s, tt)
Ones-with_one key size e (x ∷ xs) s h = by_cases (is_lt (object_cmp (key e) (key x))) (λ k. rw k (s, h)) (λ k. rw k (h.0, Ones-with_one key size e xs s h.1))

pub Ones-with_all : {E : Type 0} (key : E → Object) (size : E → ℕ) (es l : List E) → Ones key size es → Ones key size l → Ones key size (with_all key es l)
Ones-with_all key size [] l a b = b
Ones-with_all key size (e ∷ es) l a b = Ones-with_all key size es (with_one key e l) a.1 (Ones-with_one key size e l a.0 b)

pub Ones-append : {E : Type 0} (key : E → Object) (size : E → ℕ) (xs ys : List E) → Ones key size xs → Ones key size ys → Ones key size (xs ++ ys)
Ones-append key size [] ys a b = b
Ones-append key size (x ∷ xs) ys a b = (a.0, Ones-append key size xs ys a.1 b)

one_at : (k : Object) (u n : ℕ) → slot_size k u → object_eq k (Slot n) ≡ true → u ≡ 1
one_at (Chunk c) u n s h = absurd (false≢true h)
one_at (Slot m) u n s h = s

at_slot : {E : Type 0} (key : E → Object) (size : E → ℕ) (e : E) (l : List E) (n : ℕ) → (object_eq (key e) (Slot n) ≡ true → size e ≡ 1) → units_at key size l (Slot n) ≡ occurs key l (Slot n) → units_at key size (e ∷ l) (Slot n) ≡ occurs key (e ∷ l) (Slot n)
at_slot key size e l n f ih = grind (arith, cases_Bool (object_eq (key e) (Slot n)))

pub units_at-slot : {E : Type 0} (key : E → Object) (size : E → ℕ) (l : List E) (n : ℕ) → Ones key size l → units_at key size l (Slot n) ≡ occurs key l (Slot n)
units_at-slot key size [] n h = refl
units_at-slot key size (e ∷ es) n h = at_slot key size e es n (one_at (key e) (size e) n h.0) (units_at-slot key size es n h.1)

-- has, in numbers
at_has : {E : Type 0} (key : E → Object) (e : E) (l : List E) (o : Object) → (has key l o ≡ true → 1 ≤ occurs key l o) → has key (e ∷ l) o ≡ true → 1 ≤ occurs key (e ∷ l) o
at_has key e l o ih h = grind (arith, cases_Bool (object_eq (key e) o))

pub has-occurs : {E : Type 0} (key : E → Object) (l : List E) (o : Object) → has key l o ≡ true → 1 ≤ occurs key l o
has-occurs key [] o h = absurd (false≢true h)
has-occurs key (e ∷ es) o h = at_has key e es o (has-occurs key es o) h

at_lacks : {E : Type 0} (key : E → Object) (size : E → ℕ) (e : E) (l : List E) (o : Object) → (has key l o ≡ false → units_at key size l o ≡ 0) → has key (e ∷ l) o ≡ false → units_at key size (e ∷ l) o ≡ 0
at_lacks key size e l o ih h = grind (arith, cases_Bool (object_eq (key e) o))

pub lacks-units_at : {E : Type 0} (key : E → Object) (size : E → ℕ) (l : List E) (o : Object) → has key l o ≡ false → units_at key size l o ≡ 0
lacks-units_at key size [] o h = refl
lacks-units_at key size (e ∷ es) o h = at_lacks key size e es o (lacks-units_at key size es o) h

at_so : {E : Type 0} (key : E → Object) (test : E → Bool) (e : E) (l : List E) (o : Object) → (has_so key test l o ≡ true → has key l o ≡ true) → has_so key test (e ∷ l) o ≡ true → has key (e ∷ l) o ≡ true
at_so key test e l o ih h = grind (arith, cases_Bool (object_eq (key e) o), cases_Bool (test e))

pub has_so-has : {E : Type 0} (key : E → Object) (test : E → Bool) (l : List E) (o : Object) → has_so key test l o ≡ true → has key l o ≡ true
has_so-has key test [] o h = h
has_so-has key test (e ∷ es) o h = at_so key test e es o (has_so-has key test es o) h

-- A list whose entries keep their object and size, through a function.
pub units_at-map : {E F : Type 0} (key : E → Object) (size : E → ℕ) (key' : F → Object) (size' : F → ℕ) (g : E → F) → ((e : E) → key' (g e) ≡ key e) → ((e : E) → size' (g e) ≡ size e) → (l : List E) (o : Object) → units_at key' size' (map g l) o ≡ units_at key size l o
units_at-map key size key' size' g same_key same_size [] o = refl
units_at-map key size key' size' g same_key same_size (e ∷ es) o = rw (same_key e, same_size e) (ap (λ n. cond (object_eq (key e) o) (size e) 0 + n) (units_at-map key size key' size' g same_key same_size es o))

pub sum_by-map : {E F : Type 0} (size : E → ℕ) (size' : F → ℕ) (g : E → F) → ((e : E) → size' (g e) ≡ size e) → (l : List E) → sum_by size' (map g l) ≡ sum_by size l
sum_by-map size size' g same_size [] = refl
sum_by-map size size' g same_size (e ∷ es) = omega (arith, sum_by-cons size' (g e) (map g es), sum_by-cons size e es, same_size e, sum_by-map size size' g same_size es)

pub Ones-map : {E F : Type 0} (key : E → Object) (size : E → ℕ) (key' : F → Object) (size' : F → ℕ) (g : E → F) → ((e : E) → key' (g e) ≡ key e) → ((e : E) → size' (g e) ≡ size e) → (l : List E) → Ones key size l → Ones key' size' (map g l)
Ones-map key size key' size' g same_key same_size [] h = tt
Ones-map key size key' size' g same_key same_size (e ∷ es) h = (subst (λ k. slot_size k (size' (g e))) (sym (same_key e)) (subst (λ u. slot_size (key e) u) (sym (same_size e)) h.0), Ones-map key size key' size' g same_key same_size es h.1)

-- what holds of each entry and of one more
pub all_with_one : {E : Type 0} (key : E → Object) (t : E → Bool) (e : E) (l : List E) → t e ≡ true → list_all t l ≡ true → list_all t (with_one key e l) ≡ true
all_with_one key t e [] h k = rw h refl
all_with_one key t e (x ∷ xs) h k =
    let two = and_parts (t x) (list_all t xs) k in
    by_cases (is_lt (object_cmp (key e) (key x))) (λ j. rw (j, h) k) (λ j. rw (j, two.0) (all_with_one key t e xs h two.1))

-- what stands in a list that some entries left passed what all of it passed
pub all_kept : {E : Type 0} (t q : E → Bool) (l : List E) → list_all t l ≡ true → list_all t (filter q l) ≡ true
all_kept t q [] h = refl
all_kept t q (e ∷ es) h =
    let two = and_parts (t e) (list_all t es) h in
    by_cases (q e) (λ k. rw (k, two.0) (all_kept t q es two.1)) (λ k. rw k (all_kept t q es two.1))
