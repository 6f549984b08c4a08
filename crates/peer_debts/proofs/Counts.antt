-- Rows of debt, and how many of them have each object.
use Rattle.std.proofs.Common.{◌≡◌, ℕ, zero, suc, ◌+◌, ◌-◌, ◌<◌, ◌≤◌, Bool, true, false, not, cond, List, [], ◌∷◌, ◌++◌, length, take, drop, map, filter, get_or, Option, Some, None, refl, sym, ap, ◌∙◌, subst, arith}
use Rattle.std.specs.Prelude.{nat_lt, nat_le, min, ◌||◌, if◌then◌else◌}
use Rattle.std.specs.Map.{lookup}
use Rattle.std.specs.BTreeMap.{BTreeMap, is_at, get}
use Rattle.std.specs.declared.cmp.Ordering.{Ordering}
use Rattle.std.specs.Ordering.{is_eq}
use Rattle.std.proofs.lemmas.Bool.Decides.{nat_tests}
use Rattle.std.proofs.lemmas.List.{take_more, drop_more, take-append-drop, length-drop, length-append, length-map, length-take-le, set_at, append_assoc}
use Rattle.std.proofs.Math.ListN.{set}
use Rattle.std.proofs.lemmas.List.Elements.{filter-append}
use Rattle.psb_bytes.specs.Objects.{object_eq}
use Rattle.psb_bytes.specs.declared.ids.Object.{Object}
use Rattle.psb_bytes.specs.declared.ids.Object.TheVariants.{Slot}
use Rattle.psb_model.specs.declared.entries.DebtEntry.{DebtEntry}
use Rattle.psb_model.specs.declared.entries.OutState.{OutState}
use Rattle.psb_model.specs.Words.{has, occurs}
use Rattle.psb_model.specs.State.{debt_key}
use Rattle.psb_model.proofs.ByObject.{by_cases, object_eq-same}
use Rattle.psb_model.proofs.ObjectOrder.{same_object}
use Rattle.peer_debts.specs.Debts.{or_zero, count_at, KnowsCounts, first_less}
use Rattle.peer_lists.proofs.Trees.{IsObjectOrder}

abbrev one : Bool → ℕ
one b = if b then 1 else 0

-- THE TREE

same_test : (cmp : Object → Object → Ordering) → IsObjectOrder cmp → (o k : Object) → is_eq (cmp o k) ≡ object_eq o k
same_test cmp law o k = ap is_eq (law o k) ∙ sym (same_object o k)

-- what the tree finds is its count
pub found_count : (cmp : Object → Object → Ordering) → IsObjectOrder cmp → (es : List (Object × ℕ)) (o : Object) → or_zero (lookup (is_at (cmp o)) es) ≡ count_at es o
found_count cmp law es o = ap (λ (t : Object → Bool). or_zero (lookup t es)) (λ i k. same_test cmp law o k i)

-- the tree after a change at one object
put_count : (cmp : Object → Object → Ordering) → IsObjectOrder cmp → (m n : BTreeMap Object ℕ) (k : Object) (w : Option ℕ) → ((q : Object) → get cmp n q ≡ cond (is_at (cmp k) q) w (get cmp m q)) → (q : Object) → count_at n.entries q ≡ (if object_eq k q then or_zero w else count_at m.entries q)
put_count cmp law m n k w step q =
    sym (found_count cmp law n.entries q) ∙ ap or_zero (step q) ∙ ap (λ (b : Bool). or_zero (cond b w (get cmp m q))) (same_test cmp law k q)
    ∙ by_cases (object_eq k q) (λ j. rw j refl) (λ j. rw j (found_count cmp law m.entries q))

pub count_more : (cmp : Object → Object → Ordering) → IsObjectOrder cmp → (m n : BTreeMap Object ℕ) (k : Object) (c : ℕ) → ((q : Object) → get cmp n q ≡ cond (is_at (cmp k) q) (Some c) (get cmp m q)) → c ≡ count_at m.entries k + 1 → (q : Object) → count_at n.entries q ≡ count_at m.entries q + (if object_eq k q then 1 else 0)
count_more cmp law m n k c step is q =
    put_count cmp law m n k (Some c) step q
    ∙ by_cases (object_eq k q)
    (λ j. rw j (is ∙ ap (λ (o : Object). count_at m.entries o + 1) (object_eq-same k q j)))
    (λ j. rw j (omega arith))

pub count_less : (cmp : Object → Object → Ordering) → IsObjectOrder cmp → (m n : BTreeMap Object ℕ) (k : Object) (w : Option ℕ) → ((q : Object) → get cmp n q ≡ cond (is_at (cmp k) q) w (get cmp m q)) → or_zero w ≡ count_at m.entries k - 1 → (q : Object) → count_at n.entries q ≡ count_at m.entries q - (if object_eq k q then 1 else 0)
count_less cmp law m n k w step is q =
    put_count cmp law m n k w step q
    ∙ by_cases (object_eq k q)
    (λ j. rw j (is ∙ ap (λ (o : Object). count_at m.entries o - 1) (object_eq-same k q j)))
    (λ j. rw j (omega arith))

-- where a count is, a key is
pub none_counted : (cmp : Object → Object → Ordering) → IsObjectOrder cmp → (m : BTreeMap Object ℕ) (k : Object) → get cmp m k ≡ None → count_at m.entries k ≡ 0
none_counted cmp law m k h = sym (found_count cmp law m.entries k) ∙ ap or_zero h

-- HOW OFTEN AN OBJECT OCCURS

abbrev times : List DebtEntry → Object → ℕ
times = occurs debt_key

times-append : (a b : List DebtEntry) (o : Object) → times (a ++ b) o ≡ times a o + times b o
times-append [] b o = omega arith
times-append (d ∷ ds) b o = omega (arith, times-append ds b o)

pub times_more : (l : List DebtEntry) (i : ℕ) (d : DebtEntry) (o : Object) → i < length l → times (take (i + 1) l) o ≡ times (take i l) o + (if object_eq (get_or l i d).object o then 1 else 0)
times_more l i d o lt = ap (λ (x : List DebtEntry). times x o) (take_more l i d lt) ∙ times-append (take i l) (get_or l i d ∷ []) o ∙ omega arith

times_within : (l : List DebtEntry) (o : Object) → times l o ≤ length l
times_within [] o = omega arith
times_within (d ∷ ds) o = by_cases (object_eq d.object o) (λ k. rw k (omega (arith, times_within ds o))) (λ k. rw k (omega (arith, times_within ds o)))

take_within : (n : ℕ) (l : List DebtEntry) → length (take n l) ≤ n
take_within zero l = omega arith
take_within (suc n) [] = omega arith
take_within (suc n) (d ∷ ds) = omega (arith, take_within n ds)

-- a count is no more than the rows that are counted
pub few_counted : (rows : List DebtEntry) (es : List (Object × ℕ)) (counted : ℕ) (o : Object) → KnowsCounts rows es counted → count_at es o ≤ counted
few_counted rows es counted o h = omega (arith, h.counts o, times_within (take counted rows) o, take_within counted rows)

-- one row more is counted
pub knows_more : (rows : List DebtEntry) (es ns : List (Object × ℕ)) (i : ℕ) (d : DebtEntry) → i < length rows → KnowsCounts rows es i → ((o : Object) → count_at ns o ≡ count_at es o + (if object_eq (get_or rows i d).object o then 1 else 0)) → KnowsCounts rows ns (i + 1)
knows_more rows es ns i d lt h step = record {
  within = omega (arith, lt);
  counts = λ o. omega (arith, step o, h.counts o, times_more rows i d o lt);
}

pub knows_still : (rows : List DebtEntry) (es ns : List (Object × ℕ)) (i : ℕ) → KnowsCounts rows es i → ((o : Object) → count_at ns o ≡ count_at es o) → KnowsCounts rows ns i
knows_still rows es ns i h step = record { within = h.within; counts = λ o. step o ∙ h.counts o }

-- one row more is counted no more
pub less_more : (rows : List DebtEntry) (start es ns : List (Object × ℕ)) (i : ℕ) (r : DebtEntry) → i < length rows → r ≡ get_or rows i r → ((o : Object) → count_at es o ≡ count_at start o - times (take i rows) o) → ((o : Object) → count_at ns o ≡ count_at es o - (if object_eq r.object o then 1 else 0)) → (o : Object) → count_at ns o ≡ count_at start o - times (take (i + 1) rows) o
less_more rows start es ns i r lt is before step o = omega (arith, step o, before o, times_more rows i r o lt, ap (λ (x : DebtEntry). one (object_eq x.object o)) is)

-- WHETHER AN OBJECT IS OWED

counted_has : (l : List DebtEntry) (o : Object) → nat_lt 0 (times l o) ≡ has debt_key l o
counted_has [] o = refl
counted_has (d ∷ ds) o = by_cases (object_eq d.object o) (λ k. rw k (some (times ds o))) (λ k. let same : 0 + times ds o ≡ times ds o = omega arith in rw (k, same) (counted_has ds o))
  where
    some : (n : ℕ) → nat_lt 0 (1 + n) ≡ true
    some n = grind (arith, nat_tests)

has-append : (a b : List DebtEntry) (o : Object) → has debt_key (a ++ b) o ≡ (has debt_key a o || has debt_key b o)
has-append [] b o = refl
has-append (d ∷ ds) b o = by_cases (object_eq d.object o) (λ k. rw k refl) (λ k. rw k (has-append ds b o))

pub known_has : (rows : List DebtEntry) (es : List (Object × ℕ)) (counted : ℕ) (o : Object) → KnowsCounts rows es counted → (nat_lt 0 (count_at es o) || has debt_key (drop counted rows) o) ≡ has debt_key rows o
known_has rows es counted o h =
    ap (λ (n : ℕ). nat_lt 0 n || has debt_key (drop counted rows) o) (h.counts o)
    ∙ ap (λ b. b || has debt_key (drop counted rows) o) (counted_has (take counted rows) o)
    ∙ sym (has-append (take counted rows) (drop counted rows) o)
    ∙ ap (λ (l : List DebtEntry). has debt_key l o) (take-append-drop counted rows)

pub known_first : (rows : List DebtEntry) (es : List (Object × ℕ)) (counted : ℕ) (o : Object) (n : ℕ) → KnowsCounts rows es counted → n ≡ count_at es o → 0 < n → nat_lt 0 n ≡ has debt_key rows o
known_first rows es counted o n h is some =
    let yes' : nat_lt 0 n ≡ true = grind (arith, nat_tests, some) in
    yes' ∙ sym (ap (λ b. b || has debt_key (drop counted rows) o) (ap (λ m. nat_lt 0 m) (sym is) ∙ yes')) ∙ known_has rows es counted o h

pub known_later : (rows : List DebtEntry) (es : List (Object × ℕ)) (counted : ℕ) (o : Object) (n : ℕ) (b : Bool) → KnowsCounts rows es counted → n ≡ count_at es o → n ≤ 0 → b ≡ has debt_key (drop counted rows) o → b ≡ has debt_key rows o
known_later rows es counted o n b h is none rest =
    let no' : nat_lt 0 n ≡ false = grind (arith, nat_tests, none) in
    rest ∙ sym (ap (λ x. x || has debt_key (drop counted rows) o) (ap (λ m. nat_lt 0 m) (sym is) ∙ no')) ∙ known_has rows es counted o h

-- ROWS THAT ARE TAKEN BACK

pub filter_more : (p : DebtEntry → Bool) (l : List DebtEntry) (i : ℕ) (d : DebtEntry) → i < length l → filter p (take (i + 1) l) ≡ (if p (get_or l i d) then filter p (take i l) ++ get_or l i d ∷ [] else filter p (take i l))
filter_more p l i d lt =
    ap (filter p) (take_more l i d lt) ∙ filter-append p (take i l) (get_or l i d ∷ [])
    ∙ by_cases (p (get_or l i d)) (λ k. rw k refl) (λ k. rw k (nothing_behind (filter p (take i l))))
  where
    nothing_behind : (l : List DebtEntry) → l ++ [] ≡ l
    nothing_behind [] = refl
    nothing_behind (x ∷ xs) = ap (λ l. x ∷ l) (nothing_behind xs)

-- how many rows are left, and what is counted no more, of the first of the rows
pub record TakesBack (p : DebtEntry → Bool) (rows : List DebtEntry) (start es : List (Object × ℕ)) (kept i : ℕ) : Type 0 where
  pub left : kept ≡ length (filter (λ d. not (p d)) (take i rows))
  pub few : kept ≤ i
  pub counts : (o : Object) → count_at es o ≡ count_at start o - times (filter p (take i rows)) o

pub back_more : (p : DebtEntry → Bool) (rows : List DebtEntry) (start es ns : List (Object × ℕ)) (left i : ℕ) (r : DebtEntry) → i < length rows → r ≡ get_or rows i r → p r ≡ true → TakesBack p rows start es left i → ((o : Object) → count_at ns o ≡ count_at es o - (if object_eq r.object o then 1 else 0)) → TakesBack p rows start ns left (i + 1)
back_more p rows start es ns left i r lt is back h step =
    let at : p (get_or rows i r) ≡ true = ap p (sym is) ∙ back in
    let more : filter p (take (i + 1) rows) ≡ filter p (take i rows) ++ get_or rows i r ∷ [] = filter_more p rows i r lt ∙ rw at refl in
    let same : filter (λ x. not (p x)) (take (i + 1) rows) ≡ filter (λ x. not (p x)) (take i rows) = filter_more (λ x. not (p x)) rows i r lt ∙ rw at refl in
    record {
      left = h.left ∙ ap length (sym same);
      few = omega (arith, h.few);
      counts = λ o.
          let sum : times (filter p (take (i + 1) rows)) o ≡ times (filter p (take i rows)) o + one (object_eq (get_or rows i r).object o) =
          ap (λ (l : List DebtEntry). times l o) more ∙ times-append (filter p (take i rows)) (get_or rows i r ∷ []) o ∙ omega arith in
          omega (arith, step o, h.counts o, sum, ap (λ (x : DebtEntry). one (object_eq x.object o)) is);
    }

pub back_still : (p : DebtEntry → Bool) (rows : List DebtEntry) (start es : List (Object × ℕ)) (left i : ℕ) (r : DebtEntry) → i < length rows → r ≡ get_or rows i r → p r ≡ false → TakesBack p rows start es left i → TakesBack p rows start es (left + 1) (i + 1)
back_still p rows start es left i r lt is other h =
    let at : p (get_or rows i r) ≡ false = ap p (sym is) ∙ other in
    let same : filter p (take (i + 1) rows) ≡ filter p (take i rows) = filter_more p rows i r lt ∙ rw at refl in
    let more : filter (λ x. not (p x)) (take (i + 1) rows) ≡ filter (λ x. not (p x)) (take i rows) ++ get_or rows i r ∷ [] = filter_more (λ x. not (p x)) rows i r lt ∙ rw at refl in
    record {
      left = omega (arith, h.left, ap length more, length-append (filter (λ x. not (p x)) (take i rows)) (get_or rows i r ∷ []));
      few = omega (arith, h.few);
      counts = λ o. h.counts o ∙ ap (λ (l : List DebtEntry). count_at start o - times l o) (sym same);
    }

pub back_as : (p : DebtEntry → Bool) (rows : List DebtEntry) (start es es' : List (Object × ℕ)) (left left' i : ℕ) → es' ≡ es → left' ≡ left → TakesBack p rows start es left i → TakesBack p rows start es' left' i
back_as p rows start es es' left left' i e f h = subst (λ (x : List (Object × ℕ)). TakesBack p rows start x left' i) (sym e) (subst (λ (n : ℕ). TakesBack p rows start es n i) (sym f) h)

both_parts : (p : DebtEntry → Bool) (l : List DebtEntry) (o : Object) → times l o ≡ times (filter (λ x. not (p x)) l) o + times (filter p l) o
both_parts p [] o = refl
both_parts p (d ∷ ds) o = by_cases (p d) (λ k. rw k (omega (arith, both_parts p ds o))) (λ k. rw k (omega (arith, both_parts p ds o)))

kept_front : (q : DebtEntry → Bool) (l : List DebtEntry) (n : ℕ) → take (length (filter q (take n l))) (filter q l) ≡ filter q (take n l)
kept_front q l zero = refl
kept_front q [] (suc n) = refl
kept_front q (d ∷ ds) (suc n) =
    by_cases (q d)
    (λ k. rw k (ap (λ l. d ∷ l) (kept_front q ds n)))
    (λ k. rw k (kept_front q ds n))

kept_within : (q : DebtEntry → Bool) (l : List DebtEntry) (n : ℕ) → length (filter q (take n l)) ≤ length (filter q l)
kept_within q l zero = omega arith
kept_within q [] (suc n) = omega arith
kept_within q (d ∷ ds) (suc n) = by_cases (q d) (λ k. rw k (omega (arith, kept_within q ds n))) (λ k. rw k (kept_within q ds n))

pub knows_back : (p : DebtEntry → Bool) (rows rows' : List DebtEntry) (es ns : List (Object × ℕ)) (counted counted' : ℕ) → KnowsCounts rows es counted → rows' ≡ filter (λ x. not (p x)) rows → counted' ≡ length (filter (λ x. not (p x)) (take counted rows)) → ((o : Object) → count_at ns o ≡ count_at es o - times (filter p (take counted rows)) o) → KnowsCounts rows' ns counted'
knows_back p rows rows' es ns counted counted' h is left step =
    let q : DebtEntry → Bool = λ x. not (p x) in
    record {
      within = omega (arith, left, ap length is, kept_within q rows counted);
      counts = λ o.
          let sum : times (filter q (take counted rows)) o ≡ count_at ns o = omega (arith, step o, h.counts o, both_parts p (take counted rows) o) in
          sym sum ∙ ap (λ (l : List DebtEntry). times l o) (sym (kept_front q rows counted)) ∙ sym (λ i. times (take (left i) (is i)) o);
    }

-- ROWS THAT ARE USED UP

first_times : (u n : ℕ) (l : List DebtEntry) (o : Object) → times (take n (first_less u l)) o ≡ times (take n l) o
first_times u zero l o = refl
first_times u (suc n) [] o = refl
first_times u (suc n) (d ∷ ds) o = refl

first_length : (u : ℕ) (l : List DebtEntry) → length (first_less u l) ≡ length l
first_length u [] = refl
first_length u (d ∷ ds) = refl

-- the counted rows, in two parts
two_parts : (u c : ℕ) (l : List DebtEntry) (o : Object) → u ≤ c → times (take c l) o ≡ times (take u l) o + times (take (c - u) (drop u l)) o
two_parts zero c l o le = let same : c - 0 ≡ c = omega arith in rw same (omega arith)
two_parts (suc u) zero l o le = absurd (omega (arith, le))
two_parts (suc u) (suc c) [] o le = let none : times (take (suc c - suc u) []) o ≡ 0 = nothing (suc c - suc u) in omega (arith, none)
  where
    nothing : (n : ℕ) → times (take n []) o ≡ 0
    nothing zero = refl
    nothing (suc n) = refl
two_parts (suc u) (suc c) (d ∷ ds) o le = let same : suc c - suc u ≡ c - u = omega arith in rw same (omega (arith, two_parts u c ds o (omega (arith, le))))

pub knows_used : (rows rows' : List DebtEntry) (es ns : List (Object × ℕ)) (counted used gone units counted' : ℕ) → KnowsCounts rows es counted → used ≤ length rows → gone ≡ min used counted → counted' ≡ counted - gone → rows' ≡ first_less units (drop used rows) → ((o : Object) → count_at ns o ≡ count_at es o - times (take gone rows) o) → KnowsCounts rows' ns counted'
knows_used rows rows' es ns counted used gone units counted' h le gone_is counted_is is step = record {
  within = omega (arith, counted_is, gone_is, h.within, ap length is, first_length units (drop used rows), length-drop used rows);
  counts = λ o. each o ∙ sym (first_times units counted' (drop used rows) o) ∙ ap (λ (l : List DebtEntry). times (take counted' l) o) (sym is);
}
  where
    each : (o : Object) → count_at ns o ≡ times (take counted' (drop used rows)) o
    each o =
        by_cases (nat_le used counted)
        (λ k.
        let low : used ≤ counted = grind (arith, nat_tests, k) in
        let gone_used : gone ≡ used = omega (arith, gone_is, low) in
        let left : counted' ≡ counted - used = omega (arith, counted_is, gone_used) in
        let sum = two_parts used counted rows o low in
        let taken : times (take gone rows) o ≡ times (take used rows) o = ap (λ (n : ℕ). times (take n rows) o) gone_used in
        let rest : times (take counted' (drop used rows)) o ≡ times (take (counted - used) (drop used rows)) o = ap (λ (n : ℕ). times (take n (drop used rows)) o) left in
        omega (arith, step o, h.counts o, sum, taken, rest))
        (λ k.
        let high : counted < used = grind (arith, nat_tests, k) in
        let gone_all : gone ≡ counted = omega (arith, gone_is, high) in
        let none : counted' ≡ 0 = omega (arith, counted_is, gone_all) in
        let taken : times (take gone rows) o ≡ times (take counted rows) o = ap (λ (n : ℕ). times (take n rows) o) gone_all in
        let rest : times (take counted' (drop used rows)) o ≡ 0 = ap (λ (n : ℕ). times (take n (drop used rows)) o) none in
        omega (arith, step o, h.counts o, taken, rest))

-- ROWS WHOSE STATE IS SET

abbrev pub with_state : ℕ → OutState → DebtEntry → DebtEntry
with_state slot state d = if object_eq d.object (Slot slot) then record d { state = state } else d

state_key : (slot : ℕ) (state : OutState) (d : DebtEntry) → (with_state slot state d).object ≡ d.object
state_key slot state d = by_cases (object_eq d.object (Slot slot)) (λ k. rw k refl) (λ k. rw k refl)

state_times : (slot : ℕ) (state : OutState) (n : ℕ) (l : List DebtEntry) (o : Object) → times (take n (map (with_state slot state) l)) o ≡ times (take n l) o
state_times slot state zero l o = refl
state_times slot state (suc n) [] o = refl
state_times slot state (suc n) (d ∷ ds) o = (λ i. one (object_eq (state_key slot state d i) o) + state_times slot state n ds o i)

pub knows_states : (slot : ℕ) (state : OutState) (rows rows' : List DebtEntry) (es : List (Object × ℕ)) (counted : ℕ) → KnowsCounts rows es counted → rows' ≡ map (with_state slot state) rows → KnowsCounts rows' es counted
knows_states slot state rows rows' es counted h is = record {
  within = omega (arith, h.within, ap length is, as_many rows);
  counts = λ o. h.counts o ∙ sym (state_times slot state counted rows o) ∙ ap (λ (l : List DebtEntry). times (take counted l) o) (sym is);
}
  where
    as_many : (l : List DebtEntry) → length (map (with_state slot state) l) ≡ length l
    as_many [] = refl
    as_many (x ∷ xs) = ap suc (as_many xs)

-- one row more is as it is to be
pub state_more : (f : DebtEntry → DebtEntry) (old rows : List DebtEntry) (i : ℕ) (x r : DebtEntry) → i < length old → rows ≡ map f (take i old) ++ drop i old → x ≡ get_or rows i x → r ≡ f x → set rows i r ≡ map f (take (i + 1) old) ++ drop (i + 1) old
state_more f old rows i x r lt before is new =
    let y = get_or old i x in
    let front = map f (take i old) in
    let many : length front ≡ i = length-map (take i old) f ∙ length-take-le i old (omega (arith, lt)) in
    let split : rows ≡ front ++ y ∷ drop (i + 1) old = before ∙ ap (λ l. front ++ l) (drop_more old i x lt) in
    let here : x ≡ y = is ∙ ap (λ (l : List DebtEntry). get_or l i x) split ∙ ap (λ (n : ℕ). get_or (front ++ y ∷ drop (i + 1) old) n x) (sym many) ∙ at_seam front y (drop (i + 1) old) x in
    ap (λ (l : List DebtEntry). set l i r) split
    ∙ set_at front y (drop (i + 1) old) r i many
    ∙ ap (λ z. front ++ z ∷ drop (i + 1) old) (new ∙ ap f here)
    ∙ sym (append_assoc front (f y ∷ []) (drop (i + 1) old))
    ∙ ap (λ l. l ++ drop (i + 1) old) (sym (map_more (take i old) y) ∙ ap (map f) (sym (take_more old i x lt)))
  where
    at_seam : (a : List DebtEntry) (y : DebtEntry) (b : List DebtEntry) (d : DebtEntry) → get_or (a ++ y ∷ b) (length a) d ≡ y
    at_seam [] y b d = refl
    at_seam (z ∷ zs) y b d = at_seam zs y b d

    map_more : (l : List DebtEntry) (y : DebtEntry) → map f (l ++ y ∷ []) ≡ map f l ++ f y ∷ []
    map_more [] y = refl
    map_more (z ∷ zs) y = ap (λ l. f z ∷ l) (map_more zs y)
