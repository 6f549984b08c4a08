-- A deal that is pending can be asked for, and so can one that is proposed.
use Rattle.std.proofs.Common.{◌≡◌, ℕ, ◌+◌, ◌≤◌, true, List, [], ◌∷◌, length, Option, Some, refl, sym, ap, ◌∙◌, subst, arith}
use Rattle.std.specs.Prelude.{nat_le}
use Rattle.std.specs.List.{list_all}
use Rattle.std.proofs.lemmas.Bool.{and_parts, leb-true, le-leb, eqb-true}
use Rattle.psb_bytes.specs.declared.ids.Object.{Object}
use Rattle.psb_bytes.specs.declared.ids.Object.TheVariants.{Chunk, Slot}
use Rattle.psb_settings.specs.declared.settings.Settings.{Settings}
use Rattle.psb_model.specs.declared.entries.OutEntry.{OutEntry}
use Rattle.psb_model.specs.declared.entries.OwnEntry.{OwnEntry}
use Rattle.psb_model.specs.declared.deals.Deal.{Deal}
use Rattle.psb_model.specs.declared.deals.DealWhat.{DealWhat}
use Rattle.psb_model.specs.declared.deals.DealWhat.TheVariants.{Fresh, Swap, Cancel, PutBack, Forward, Return}
use Rattle.psb_model.specs.declared.change.Change.{Change}
use Rattle.psb_model.specs.Words.{units, units_at, all_of, object_eq, occurs}
use Rattle.psb_model.specs.State.{State, row, out_key, out_size, own_has, own_len}
use Rattle.psb_model.specs.Grammar.{is_u32, is_digest, ascend, what_fits}
use Rattle.psb_model.specs.Conditions.{most_claims, capacity, place_tests, propose_tests}
use Rattle.psb_model.specs.Proposing.{proposal}
use Rattle.psb_model.specs.History.{state}
use Rattle.psb_model.specs.Needed.{IsValid}
use Rattle.psb_model.proofs.ByObject.{by_cases, Ones, slot_size, has-occurs}
use Rattle.psb_model.proofs.Steps.{parts}
use Rattle.psb_model.proofs.Tidy.{IsTidy}
use Rattle.psb_model.proofs.Standing.{StandsFor, occurs_none}
use Rattle.psb_model.proofs.Steady.{IsSteady, steady_state, coming_in, has_coming}
use Rattle.model_laws.proofs.Fitting.{IsFit, is_small, few_units, len_fits, fit_state}
use Rattle.model_laws.proofs.Widths.{AreWide, pending_fits, wide_state}
use Rattle.model_laws.proofs.RowOrder.{sorted_row}
use Rattle.model_laws.proofs.Proposable.{MayBe, proposable}
use Rattle.wire_codec.specs.Fields.{within, are_slots}
use Rattle.wire_codec.specs.declared.limits.TheConstants.{MOST_SLOTS}
use Rattle.psb_machine.specs.Proposals.{propose_facts, units_there, is_askable}
use Rattle.psb_machine.proofs.Framed.{ascend_same}

-- ---- units of an entry there

one_unit : (o : Object) (u : ℕ) → slot_size o u → 1 ≤ u
one_unit (Chunk name) u h = h
one_unit (Slot n) u h = omega (arith, h)

some_units : (l : List OutEntry) (o : Object) → Ones out_key out_size l → 1 ≤ occurs out_key l o → 1 ≤ units_at out_key out_size l o
some_units [] o ones h = absurd (omega (arith, h))
some_units (e ∷ es) o ones h =
    by_cases (object_eq e.object o)
    (λ k. rw k (omega (arith, one_unit e.object e.units ones.0)))
    (λ k. let h' = rw k at h in rw k (omega (arith, some_units es o ones.1 (omega (arith, h')))))

few_there : (l : List OutEntry) (o : Object) → list_all is_small l ≡ true → occurs out_key l o ≤ 1 → units_at out_key out_size l o ≤ 64
few_there [] o small h = omega arith
few_there (e ∷ es) o small h =
    let a = and_parts (is_small e) (list_all is_small es) small in
    by_cases (object_eq e.object o)
    (λ k. let h' = rw k at h in rw k (omega (arith, leb-true e.units 64 a.0, occurs_none out_key out_size es o (omega (arith, h')))))
    (λ k. let h' = rw k at h in rw k (omega (arith, few_there es o a.1 (omega (arith, h')))))

-- ---- the fields

within_is : (least n : ℕ) → least ≤ n → n ≤ 64 → within least MOST_SLOTS n ≡ true
within_is least n some few = rw (le-leb least n some, le-leb n 64 few) refl

slots_spelled : (least : ℕ) (numbers : List ℕ) → least ≤ length numbers → length numbers ≤ 64 → list_all is_u32 numbers ≡ true → ascend numbers ≡ true → are_slots least numbers ≡ true
slots_spelled least numbers some few fit ordered = rw (within_is least (length numbers) some few, fit, ascend_same numbers ∙ ordered) refl

-- ---- a pending deal

pending_wide : (o : Option Deal) (d : Deal) → o ≡ Some d → pending_fits o ≡ true → what_fits d.what ≡ true
pending_wide o d is h = subst (λ x. pending_fits x ≡ true) is h

coming_own : (own : List OwnEntry) (o : Option Deal) (number : ℕ) (name : List ℕ) → o ≡ Some (record { number = number; what = Fresh name }) → has_coming own o ≡ true → own_has own name ≡ true
coming_own own o number name is h = subst (λ x. has_coming own x ≡ true) is h

stands_askable : (s : State) (p number : ℕ) (what : DealWhat) → AreWide s → IsFit s → IsTidy s.issued (row s p) → (row s p).pending ≡ Some (record { number = number; what = what }) → has_coming s.own (row s p).pending ≡ true → what_fits what ≡ true → StandsFor s.issued s.own (row s p) what → is_askable s p what ≡ true
stands_askable s p number (Fresh name) wide fit tidy is own w st = coming_own s.own (row s p).pending number name is own
stands_askable s p number (Swap name numbers) wide fit tidy is own w st =
    let a = and_parts (is_digest name) (list_all is_u32 numbers) w in
    let few = few_units (own_len s.own name) (len_fits s.own name fit.own) in
    rw (st.owned, slots_spelled 0 numbers (omega arith) (omega (arith, st.long, few)) a.1 st.ascends) refl
stands_askable s p number (Cancel name numbers) wide fit tidy is own w st =
    let a = and_parts (is_digest name) (list_all is_u32 numbers) w in
    let some = some_units (row s p).outs (Chunk name) tidy.outs_ones (omega (arith, st.present)) in
    let few = few_there (row s p).outs (Chunk name) (fit.rows p).small (omega (arith, st.present)) in
    slots_spelled 1 numbers (omega (arith, st.long, some)) (omega (arith, st.long, few)) a.1 st.ascends
stands_askable s p number (PutBack name first) wide fit tidy is own w st =
    let some = some_units (row s p).outs (Chunk name) tidy.outs_ones (omega (arith, st.present)) in
    let few = few_there (row s p).outs (Chunk name) (fit.rows p).small (omega (arith, st.present)) in
    let drawn : nat_le (first + units_there s p name) most_claims ≡ true = le-leb (first + units_there s p name) 4294967295 (omega (arith, st.drawn, wide.issued)) in
    rw (within_is 1 (units_there s p name) some few, drawn) refl
stands_askable s p number (Forward slot entry) wide fit tidy is own w st = refl
stands_askable s p number (Return slot) wide fit tidy is own w st = refl

pub pending_askable : (h : List Change) (p : ℕ) (d : Deal) → IsValid h → (row (state h) p).pending ≡ Some d → is_askable (state h) p d.what ≡ true
pending_askable h p d v is =
    let plain = steady_state h v.lawful in
    let wide = wide_state h v.lawful v.fit in
    let before = plain.good.rows p in
    stands_askable (state h) p d.number d.what wide (fit_state h v.lawful) before.tidy is (coming_in (state h).own (state h).rows p plain.coming) (pending_wide (row (state h) p).pending d is (wide.rows p).deal) (before.stands d is)

-- ---- the deal that is proposed next

wanted_own : (s : State) (p : ℕ) (name : List ℕ) → IsSteady s → all_of (place_tests s p name) ≡ true → own_has s.own name ≡ true
wanted_own s p name plain h = (plain.good.wanted name (parts (place_tests s p name) h).1.0).has

may_be_askable : (s : State) (p : ℕ) (what : DealWhat) → IsSteady s → IsFit s → MayBe s p what → is_askable s p what ≡ true
may_be_askable s p (Fresh name) plain fit m = wanted_own s p name plain (parts (propose_tests s p (Fresh name)) m.tests).0
may_be_askable s p (Swap name numbers) plain fit m =
    let a = and_parts (is_digest name) (list_all is_u32 numbers) m.fits in
    let g = and_parts (ascend numbers) _ m.listed in
    let ts = parts (propose_tests s p (Swap name numbers)) m.tests in
    let long : length numbers ≡ units (own_len s.own name) = eqb-true (length numbers) (units (own_len s.own name)) ts.1.0 in
    let few = few_units (own_len s.own name) (len_fits s.own name fit.own) in
    rw (wanted_own s p name plain ts.0, slots_spelled 0 numbers (omega arith) (omega (arith, long, few)) a.1 g.0) refl
may_be_askable s p (Cancel name numbers) plain fit m =
    let tidy = (plain.good.rows p).tidy in
    let a = and_parts (is_digest name) (list_all is_u32 numbers) m.fits in
    let g = and_parts (ascend numbers) _ m.listed in
    let ts = parts (propose_tests s p (Cancel name numbers)) m.tests in
    let there = has-occurs out_key (row s p).outs (Chunk name) ts.0 in
    let once = tidy.outs_once (Chunk name) in
    let some = some_units (row s p).outs (Chunk name) tidy.outs_ones there in
    let few = few_there (row s p).outs (Chunk name) (fit.rows p).small (omega (arith, once)) in
    let long : length numbers ≡ units_there s p name = eqb-true (length numbers) (units_there s p name) ts.1.1.1.0 in
    slots_spelled 1 numbers (omega (arith, long, some)) (omega (arith, long, few)) a.1 g.0
may_be_askable s p (PutBack name first) plain fit m =
    let tidy = (plain.good.rows p).tidy in
    let ts = parts (propose_tests s p (PutBack name first)) m.tests in
    let there = has-occurs out_key (row s p).outs (Chunk name) ts.0 in
    let once = tidy.outs_once (Chunk name) in
    let some = some_units (row s p).outs (Chunk name) tidy.outs_ones there in
    let few = few_there (row s p).outs (Chunk name) (fit.rows p).small (omega (arith, once)) in
    let same : first ≡ s.issued = eqb-true first s.issued ts.1.1.1.0 in
    let room : s.issued + units_there s p name ≤ 4294967295 = leb-true (s.issued + units_there s p name) 4294967295 ts.1.1.1.1.0 in
    let drawn : nat_le (first + units_there s p name) most_claims ≡ true = le-leb (first + units_there s p name) 4294967295 (omega (arith, same, room)) in
    rw (within_is 1 (units_there s p name) some few, drawn) refl
may_be_askable s p (Forward slot entry) plain fit m = refl
may_be_askable s p (Return slot) plain fit m = refl

pub proposal_askable : (h : List Change) (settings : Settings) (p : ℕ) (probed : List Object) (what : DealWhat) → IsValid h → (state h).settings ≡ Some settings → proposal (state h) p probed (propose_facts settings (state h)) ≡ Some what → is_askable (state h) p what ≡ true
proposal_askable h settings p probed what v is next =
    let s = state h in
    let plain = steady_state h v.lawful in
    let fit = fit_state h v.lawful in
    may_be_askable s p what plain fit (proposable s p probed (propose_facts settings s) what plain fit (wide_state h v.lawful v.fit) (sorted_row h p) refl (sym (ap capacity is)) next)
