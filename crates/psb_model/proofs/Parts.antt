-- The lists that the changes name: slots, rows of debt, and what is used up.
use Rattle.std.proofs.Common.{◌≡◌, ◌⊎◌, ℕ, zero, suc, ◌+◌, ◌-◌, ◌<◌, ◌≤◌, Bool, true, false, ◌&&◌, ◌||◌, cond, eqb, leb, ltb, List, [], ◌∷◌, length, map, filter, sum_by, refl, sym, ap, ◌∙◌, inl, inr, arith}
use Rattle.std.proofs.lemmas.Bool.{false≢true, eqb-true, ne_eqb, ltb-true, leb-true, leb-false, cases_Bool, and_parts}
use Rattle.std.proofs.lemmas.Bool.Decides.{nat_tests}
use Rattle.std.proofs.lemmas.List.Sums.{sum_by-cons, sum_by-append}
use Rattle.psb_bytes.specs.declared.ids.Object.{Object}
use Rattle.psb_bytes.specs.declared.ids.Object.TheVariants.{Chunk, Slot}
use Rattle.psb_model.specs.declared.entries.OutEntry.{OutEntry}
use Rattle.psb_model.specs.declared.entries.DebtEntry.{DebtEntry}
use Rattle.psb_model.specs.Conditions.{each, each_slot, is_whole}
use Rattle.psb_model.specs.Effects.{debt_row, direct_slot, direct_slots, is_whole_listed, lost_rows, out_again, own_slot, own_slots}
use Rattle.psb_model.specs.Grammar.{ascend, is_count, numbers_listed, objects_listed}
use Rattle.psb_model.specs.Move.{use_up}
use Rattle.psb_model.specs.State.{debt_key, debt_size, in_key, in_size, out_key, out_size}
use Rattle.psb_model.specs.Words.{listed, object_eq, objects_distinct, only, slots, units_at}
use Rattle.psb_model.proofs.ByObject.{by_cases, carry, occurs, units_at-only, units_at-append, units_at-map, sum_by-only, sum_by-map, sum_at, Ones, Ones-filter, Ones-map, Ones-append}

-- What a record lists is in the grammar.
pub numbers_ascend : (ns : List ℕ) → numbers_listed ns ≡ true → ascend ns ≡ true
numbers_ascend ns h = (and_parts (ascend ns) (is_count (length ns)) h).0

pub objects_apart : (os : List Object) → objects_listed os ≡ true → objects_distinct os ≡ true
objects_apart os h = (and_parts (objects_distinct os) (is_count (length os)) h).0

-- Numbers that ascend are distinct slots.
above_all : (x : ℕ) (ns : List ℕ) (n : ℕ) → x ≤ n → ascend (n ∷ ns) ≡ true → x < n ⊎ (x ≡ n) → listed (slots ns) (Slot x) ≡ false
above_all x [] n le h c = refl
above_all x (m ∷ ms) n le h c =
    let parts = and_parts (ltb n m) (ascend (m ∷ ms)) h in
    let lt : n < m = ltb-true n m parts.0 in
    rw (ne_eqb m x (omega arith), above_all x ms m (omega arith) parts.1 (inl (omega arith))) refl

pub ascend-distinct : (ns : List ℕ) → ascend ns ≡ true → objects_distinct (slots ns) ≡ true
ascend-distinct [] h = refl
ascend-distinct (n ∷ []) h = refl
ascend-distinct (n ∷ m ∷ ms) h =
    let parts = and_parts (ltb n m) (ascend (m ∷ ms)) h in
    rw (above_all n (m ∷ ms) n (omega arith) h (inr refl), ascend-distinct (m ∷ ms) parts.1) refl

pub length-slots : (ns : List ℕ) → length (slots ns) ≡ length ns
length-slots [] = refl
length-slots (n ∷ ns) = ap suc (length-slots ns)

-- a chunk is no slot
pub no_chunk : (ns : List ℕ) (name : List ℕ) → listed (slots ns) (Chunk name) ≡ false
no_chunk [] name = refl
no_chunk (n ∷ ns) name = no_chunk ns name

-- what holds of each listed object
pub each-listed : (test : Object → Bool) (os : List Object) (o : Object) → each test os ≡ true → listed os o ≡ true → test o ≡ true
each-listed test [] o h l = absurd (false≢true l)
each-listed test (x ∷ xs) o h l =
    let parts = and_parts (test x) (each test xs) h in
    by_cases (object_eq x o)
    (λ k. sym (carry test x o k) ∙ parts.0)
    (λ k. each-listed test xs o parts.1 (sym (ap (λ b. b || listed xs o) k) ∙ l))

pub each_slot-each : (test : Object → Bool) (ns : List ℕ) → each_slot test ns ≡ each test (slots ns)
each_slot-each test [] = refl
each_slot-each test (n ∷ ns) = ap (λ b. test (Slot n) && b) (each_slot-each test ns)

pub each_slot-listed : (test : Object → Bool) (ns : List ℕ) (o : Object) → each_slot test ns ≡ true → listed (slots ns) o ≡ true → test o ≡ true
each_slot-listed test ns o h l = each-listed test (slots ns) o (sym (each_slot-each test ns) ∙ h) l

-- New Direct slots.
pub sum-direct_slots : (ns : List ℕ) → sum_by in_size (direct_slots ns) ≡ length ns
sum-direct_slots [] = refl
sum-direct_slots (n ∷ ns) = omega (arith, sum_by-cons in_size (direct_slot n) (direct_slots ns), sum-direct_slots ns)

direct_step : (n : ℕ) (ns : List ℕ) (o : Object) → (object_eq (Slot n) o ≡ true → listed (slots ns) (Slot n) ≡ listed (slots ns) o) → (objects_distinct (slots ns) ≡ true → occurs in_key (direct_slots ns) o ≡ cond (listed (slots ns) o) 1 0) → objects_distinct (slots (n ∷ ns)) ≡ true → occurs in_key (direct_slots (n ∷ ns)) o ≡ cond (listed (slots (n ∷ ns)) o) 1 0
direct_step n ns o f ih d = grind (arith, cases_Bool (object_eq (Slot n) o), cases_Bool (listed (slots ns) o), cases_Bool (listed (slots ns) (Slot n)), cases_Bool (objects_distinct (slots ns)))

pub occurs-direct_slots : (ns : List ℕ) (o : Object) → objects_distinct (slots ns) ≡ true → occurs in_key (direct_slots ns) o ≡ cond (listed (slots ns) o) 1 0
occurs-direct_slots [] o d = refl
occurs-direct_slots (n ∷ ns) o d = direct_step n ns o (carry (listed (slots ns)) (Slot n) o) (occurs-direct_slots ns o) d

pub Ones-direct_slots : (ns : List ℕ) → Ones in_key in_size (direct_slots ns)
Ones-direct_slots [] = tt
Ones-direct_slots (n ∷ ns) = (refl, Ones-direct_slots ns)

-- Own slots from first on.
pub sum-own_slots : (first u : ℕ) → sum_by out_size (own_slots first u) ≡ u
sum-own_slots first zero = refl
sum-own_slots first (suc u) = omega (arith, sum_by-cons out_size (own_slot first) (own_slots (first + 1) u), sum-own_slots (first + 1) u)

pub own_slots-chunk : (first u : ℕ) (name : List ℕ) → occurs out_key (own_slots first u) (Chunk name) ≡ 0
own_slots-chunk first zero name = refl
own_slots-chunk first (suc u) name = omega (arith, own_slots-chunk (first + 1) u name)

own_slots_below : (first u n : ℕ) → n < first → occurs out_key (own_slots first u) (Slot n) ≡ 0
own_slots_below first zero n h = refl
own_slots_below first (suc u) n h = rw (ne_eqb first n (omega arith)) (omega (arith, own_slots_below (first + 1) u n (omega arith)))

own_slots_above : (first u n : ℕ) → first + u ≤ n → occurs out_key (own_slots first u) (Slot n) ≡ 0
own_slots_above first zero n h = refl
own_slots_above first (suc u) n h = rw (ne_eqb first n (omega arith)) (omega (arith, own_slots_above (first + 1) u n (omega arith)))

own_slots_once : (first u n : ℕ) → occurs out_key (own_slots first u) (Slot n) ≤ 1
own_slots_once first zero n = omega arith
own_slots_once first (suc u) n =
    by_cases (eqb first n)
    (λ k. rw k (omega (arith, own_slots_below (first + 1) u n (omega (arith, eqb-true first n k)))))
    (λ k. rw k (omega (arith, own_slots_once (first + 1) u n)))

-- they occur once, and only from first on and below first + u
pub record IsRange (first u n k : ℕ) : Type 0 where
  pub once : k ≤ 1
  pub low : 1 ≤ k → first ≤ n
  pub high : 1 ≤ k → n < first + u

pub own_slots-slot : (first u n : ℕ) → IsRange first u n (occurs out_key (own_slots first u) (Slot n))
own_slots-slot first u n = record {
  once = own_slots_once first u n;
  low = λ h. by_cases (ltb n first) (λ k. absurd (omega (arith, own_slots_below first u n (ltb-true n first k)))) (λ k. omega (arith, ltb-false' n first k));
  high = λ h. by_cases (ltb n (first + u)) (λ k. ltb-true n (first + u) k) (λ k. absurd (omega (arith, own_slots_above first u n (ltb-false' n (first + u) k))));
}
  where
    ltb-false' : (a b : ℕ) → ltb a b ≡ false → b ≤ a
    ltb-false' a b h = grind (arith, nat_tests)

pub Ones-own_slots : (first u : ℕ) → Ones out_key out_size (own_slots first u)
Ones-own_slots first zero = tt
Ones-own_slots first (suc u) = (refl, Ones-own_slots (first + 1) u)

-- Rows of debt that a change books.
abbrev pub booked_units : DebtEntry → ℕ
booked_units d = d.units

pub sum-lost_rows : (n : ℕ) (declined : Bool) (os : List Object) (outs : List OutEntry) → sum_by debt_size (lost_rows n declined os outs) ≡ sum_at out_key out_size outs os
sum-lost_rows n declined [] outs = refl
sum-lost_rows n declined (o ∷ os) outs =
    sum_by-append debt_size (map (debt_row n declined) (only out_key (o ∷ []) outs)) (lost_rows n declined os outs)
    ∙ omega (arith, sum-lost_rows n declined os outs, sum_by-map out_size debt_size (debt_row n declined) (λ e. refl) (only out_key (o ∷ []) outs), sum_by-only out_key out_size outs (o ∷ []) refl)

lost_step : (o : Object) (os : List Object) (x : Object) (u here there : ℕ) → (object_eq o x ≡ true → listed os o ≡ listed os x) → objects_distinct (o ∷ os) ≡ true → here ≡ cond (object_eq o x || false) u 0 → (objects_distinct os ≡ true → there ≡ cond (listed os x) u 0) → here + there ≡ cond (listed (o ∷ os) x) u 0
lost_step o os x u here there f d a b = grind (arith, cases_Bool (object_eq o x), cases_Bool (listed os o), cases_Bool (listed os x), cases_Bool (objects_distinct os))

pub units_at-lost_rows : (size : OutEntry → ℕ) (size' : DebtEntry → ℕ) (n : ℕ) (declined : Bool) → ((e : OutEntry) → size' (debt_row n declined e) ≡ size e) → (os : List Object) (outs : List OutEntry) (x : Object) → objects_distinct os ≡ true → units_at debt_key size' (lost_rows n declined os outs) x ≡ cond (listed os x) (units_at out_key size outs x) 0
units_at-lost_rows size size' n declined same [] outs x d = refl
units_at-lost_rows size size' n declined same (o ∷ os) outs x d =
    units_at-append debt_key size' (map (debt_row n declined) (only out_key (o ∷ []) outs)) (lost_rows n declined os outs) x
    ∙ lost_step o os x (units_at out_key size outs x) _ _ (carry (listed os) o x) d
    (units_at-map out_key size debt_key size' (debt_row n declined) (λ e. refl) same (only out_key (o ∷ []) outs) x ∙ units_at-only out_key size (o ∷ []) outs x)
    (units_at-lost_rows size size' n declined same os outs x)

pub Ones-lost_rows : (n : ℕ) (declined : Bool) (os : List Object) (outs : List OutEntry) → Ones out_key out_size outs → Ones debt_key booked_units (lost_rows n declined os outs)
Ones-lost_rows n declined [] outs h = tt
Ones-lost_rows n declined (o ∷ os) outs h =
    Ones-append debt_key booked_units (map (debt_row n declined) (only out_key (o ∷ []) outs)) (lost_rows n declined os outs)
    (Ones-map out_key out_size debt_key booked_units (debt_row n declined) (λ e. refl) (λ e. refl) _ (Ones-filter out_key out_size (λ e. listed (o ∷ []) (out_key e)) outs h))
    (Ones-lost_rows n declined os outs h)

-- Whole rows go back with what is left of them.
pub sum-out_again : (objects : List Object) (ds : List DebtEntry) → sum_by out_size (map out_again (filter (is_whole_listed objects) ds)) ≡ sum_by debt_size (filter (is_whole_listed objects) ds)
sum-out_again objects [] = refl
sum-out_again objects (d ∷ ds) =
    by_cases (is_whole_listed objects d)
    (λ k. let whole : d.left ≡ d.units = eqb-true d.left d.units (and_parts (listed objects d.object) (is_whole d) k).1 in
    rw k (sum_by-cons out_size (out_again d) (map out_again (filter (is_whole_listed objects) ds)) ∙ omega (arith, whole, sum-out_again objects ds, sum_by-cons debt_size d (filter (is_whole_listed objects) ds))))
    (λ k. rw k (sum-out_again objects ds))

-- Units that are used up.
used_step : (n : ℕ) (d : DebtEntry) (ds : List DebtEntry) → (d.left ≤ suc n → suc n - d.left ≤ sum_by debt_size ds → sum_by debt_size (use_up (suc n - d.left) ds) + (suc n - d.left) ≡ sum_by debt_size ds) → suc n ≤ d.left + sum_by debt_size ds → sum_by debt_size (use_up (suc n) (d ∷ ds)) + suc n ≡ d.left + sum_by debt_size ds
used_step n d ds ih le =
    by_cases (leb d.left (suc n))
    (λ k. rw k (let h = ih (leb-true d.left (suc n) k) (omega arith) in omega (arith, h, leb-true d.left (suc n) k)))
    (λ k. rw k (let h = leb-false d.left (suc n) k in omega (arith, h, sum_by-cons debt_size (record d { left = d.left - suc n }) ds)))

pub sum-use_up : (n : ℕ) (ds : List DebtEntry) → n ≤ sum_by debt_size ds → sum_by debt_size (use_up n ds) + n ≡ sum_by debt_size ds
sum-use_up zero ds le = omega arith
sum-use_up (suc n) [] le = omega arith
sum-use_up (suc n) (d ∷ ds) le = used_step n d ds (λ _ h. sum-use_up (suc n - d.left) ds h) (omega (arith, sum_by-cons debt_size d ds)) ∙ sym (sum_by-cons debt_size d ds)

pub occurs-use_up : (n : ℕ) (ds : List DebtEntry) (o : Object) → occurs debt_key (use_up n ds) o ≤ occurs debt_key ds o
occurs-use_up zero ds o = omega arith
occurs-use_up (suc n) [] o = omega arith
occurs-use_up (suc n) (d ∷ ds) o =
    by_cases (leb d.left (suc n))
    (λ k. rw k (omega (arith, occurs-use_up (suc n - d.left) ds o)))
    (λ k. rw k (omega arith))

pub Ones-use_up : (n : ℕ) (ds : List DebtEntry) → Ones debt_key booked_units ds → Ones debt_key booked_units (use_up n ds)
Ones-use_up zero ds h = h
Ones-use_up (suc n) [] h = tt
Ones-use_up (suc n) (d ∷ ds) h =
    by_cases (leb d.left (suc n))
    (λ k. rw k (Ones-use_up (suc n - d.left) ds h.1))
    (λ k. rw k (h.0, h.1))
