-- The least missing chunk that can be placed, as it is looked for: by how many units one may have at most.
use Rattle.std.proofs.Common.{◌≡◌, ℕ, zero, suc, ◌+◌, ◌<◌, ◌≤◌, Bool, true, false, ◌&&◌, List, [], ◌∷◌, length, take, Option, Some, None, refl, sym, ap, ◌∙◌, subst, arith}
use Rattle.std.specs.Prelude.{nat_le, find, if◌then◌else◌}
use Rattle.std.specs.List.{list_all}
use Rattle.std.specs.Option.{option_map}
use Rattle.std.proofs.lemmas.Bool.{and_parts, leb-true, le-leb, leb-false}
use Rattle.std.proofs.lemmas.List.{length-take}
use Rattle.psb_bytes.specs.declared.ids.Object.{Object}
use Rattle.psb_model.specs.declared.entries.OwnEntry.{OwnEntry}
use Rattle.psb_model.specs.declared.deals.DealWhat.TheVariants.{Cancel}
use Rattle.psb_model.specs.Words.{units, name_listed}
use Rattle.psb_model.specs.State.{State, row, used}
use Rattle.psb_model.specs.Proposing.{as_many, slots_to_give, cancel, slots_to_fill, is_missing, place_of, first_place}
use Rattle.psb_model.proofs.ByObject.{by_cases}
use Rattle.model_laws.proofs.Fitting.{is_fit_len, few_units, fit_state}
use Rattle.psb_ledger.specs.View.{IsReached}
use Rattle.deals.specs.Placing.{most_units, placed_with}

abbrev pub may_place : State → ℕ → ℕ → OwnEntry → Bool
may_place s p most e = is_missing s p e.name && nat_le (units e.len) most

-- the first of the first
take_take : (u n : ℕ) (l : List ℕ) → u ≤ n → take u (take n l) ≡ take u l
take_take zero n l h = refl
take_take (suc u) zero l h = absurd (omega (arith, h))
take_take (suc u) (suc n) [] h = refl
take_take (suc u) (suc n) (x ∷ xs) h = ap (λ r. x ∷ r) (take_take u n xs (omega (arith, h)))

some_unit : (len : ℕ) → 1 ≤ units len
some_unit len = omega arith

-- enough slots, or too few, among the first n
pub enough : (n u : ℕ) (l : List ℕ) → u ≤ n → u ≤ length (take n l) → as_many u l ≡ Some (take u (take n l))
enough n u l few h =
    let there : nat_le u (length l) ≡ true = le-leb u (length l) (omega (arith, h, length-take n l)) in
    rw there (ap Some (sym (take_take u n l few)))

pub too_few : (n u : ℕ) (l : List ℕ) → u ≤ n → length (take n l) < u → as_many u l ≡ None
too_few n u l few h =
    by_cases (nat_le u (length l))
    (λ k. absurd (omega (arith, leb-true u (length l) k, h, few, length-take n l)))
    (λ k. rw k refl)

-- a Cancel against the first slots that may be given, where there are as many as the chunk has units
pub with_enough : (s : State) (p : ℕ) (name : List ℕ) (u : ℕ) (slots : List ℕ) → name_listed (row s p).turned_cancels name ≡ false → slots ≡ take u (slots_to_give s p) → u ≤ length slots → Some (Cancel name slots) ≡ cancel s p name u
with_enough s p name u slots unturned is h =
    let l = slots_to_give s p in
    let count : u ≤ length (take u l) = subst (λ x. u ≤ length x) is h in
    let given : as_many u l ≡ Some (take u l) = enough u u l (omega arith) count ∙ ap Some (take_take u u l (omega arith)) in
    rw (unturned, given) (ap (λ x. Some (Cancel name x)) is)

pub with_too_few : (s : State) (p : ℕ) (name : List ℕ) (u : ℕ) (slots : List ℕ) → slots ≡ take u (slots_to_give s p) → length slots < u → None ≡ cancel s p name u
with_too_few s p name u slots is h =
    let l = slots_to_give s p in
    let lacks : as_many u l ≡ None = too_few u u l (omega arith) (subst (λ x. length x < u) is h) in
    by_cases (name_listed (row s p).turned_cancels name) (λ k. rw k refl) (λ k. rw (k, lacks) refl)

one_place : (s : State) (p : ℕ) (probed : List Object) (capacity : ℕ) (e : OwnEntry) → units e.len ≤ 64
    → let slots = take 64 (slots_to_fill s p probed) in
    place_of s p probed capacity e ≡ (if may_place s p (most_units s (length slots) capacity) e then Some (placed_with slots e) else None)
one_place s p probed capacity e few =
    let l = slots_to_fill s p probed in
    let slots = take 64 l in
    let u = units e.len in
    let most = most_units s (length slots) capacity in
    by_cases (is_missing s p e.name)
    (λ missing. by_cases (nat_le u (length slots))
    (λ k. let there = leb-true u (length slots) k in
    let fits : nat_le u most ≡ true = le-leb u most (omega (arith, there, few)) in
    rw (missing, fits, k, enough 64 u l few there) refl)
    (λ k. let lacks = leb-false u (length slots) k in
    by_cases (nat_le (used s + u) capacity)
    (λ j. let room = leb-true (used s + u) capacity j in
    let fits : nat_le u most ≡ true = le-leb u most (omega (arith, room, few)) in
    rw (missing, fits, k, too_few 64 u l few (omega (arith, lacks)), j) refl)
    (λ j. let none = leb-false (used s + u) capacity j in
    let past : nat_le u most ≡ false = by_cases (nat_le u most) (λ i. absurd (omega (arith, leb-true u most i, none, lacks, some_unit e.len))) (λ i. i) in
    rw (missing, past, too_few 64 u l few (omega (arith, lacks)), j) refl)))
    (λ other. rw other refl)

pub placed_first : (s : State) (p : ℕ) (probed : List Object) (capacity : ℕ) (l : List OwnEntry) → list_all is_fit_len l ≡ true
    → first_place s p probed capacity l ≡ option_map (placed_with (take 64 (slots_to_fill s p probed))) (find (may_place s p (most_units s (length (take 64 (slots_to_fill s p probed))) capacity)) l)
placed_first s p probed capacity [] h = refl
placed_first s p probed capacity (e ∷ es) h =
    let a = and_parts (is_fit_len e) (list_all is_fit_len es) h in
    let few = few_units e.len (leb-true e.len 32768 a.0) in
    let slots = take 64 (slots_to_fill s p probed) in
    let most = most_units s (length slots) capacity in
    let here = one_place s p probed capacity e few in
    by_cases (may_place s p most e)
    (λ k. rw (here, k) refl)
    (λ k. rw (here, k) (placed_first s p probed capacity es a.1))

pub own_fits : (s : State) → IsReached s → list_all is_fit_len s.own ≡ true
own_fits s r = subst (λ (x : State). list_all is_fit_len x.own ≡ true) r.gives (fit_state r.history r.lawful).own

-- what is found by the first slots and the most units is what is placed
pub placed_by : (s : State) (p : ℕ) (probed : List Object) (capacity : ℕ) (slots : List ℕ) (most : ℕ) (found : Option OwnEntry) → IsReached s
    → slots ≡ take 64 (slots_to_fill s p probed) → most ≡ most_units s (length slots) capacity → found ≡ find (may_place s p most) s.own
    → option_map (placed_with slots) found ≡ first_place s p probed capacity s.own
placed_by s p probed capacity slots most found reached slots_are most_is is =
    let placed = first_place s p probed capacity s.own in
    let all = placed_first s p probed capacity s.own (own_fits s reached) in
    let by_slots = subst (λ (l : List ℕ). placed ≡ option_map (placed_with l) (find (may_place s p (most_units s (length l) capacity)) s.own)) (sym slots_are) all in
    let by_most = subst (λ (m : ℕ). placed ≡ option_map (placed_with slots) (find (may_place s p m) s.own)) (sym most_is) by_slots in
    ap (option_map (placed_with slots)) is ∙ sym by_most
