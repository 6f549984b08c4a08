-- Each of the three numbers is the sum of what the changes moved.
use Rattle.std.proofs.Common.{◌≡◌, ℕ, ◌+◌, Bool, true, false, ◌&&◌, ◌||◌, cond, List, [], ◌∷◌, sum_by, Option, Some, None, refl, sym, ap, ◌∙◌, subst, arith}
use Rattle.std.specs.Prelude.{◌==◌, nat_lt}
use Rattle.std.proofs.lemmas.Bool.{eqb-true, and_parts}
use Rattle.psb_bytes.specs.declared.ids.Object.{Object}
use Rattle.psb_bytes.specs.declared.ids.Object.TheVariants.{Chunk}
use Rattle.psb_model.specs.declared.deals.Deal.{Deal}
use Rattle.psb_model.specs.declared.deals.DealWhat.{DealWhat}
use Rattle.psb_model.specs.declared.deals.DealWhat.TheVariants.{Fresh, Swap, Cancel, PutBack, Forward, Return}
use Rattle.psb_model.specs.declared.change.Change.{Change}
use Rattle.psb_model.specs.declared.change.Change.TheVariants.{Begun, Kept, Snapped, Forgot, TookFresh, TookSwap, LetGo, LetGoBack, Replaced, Refused, Proposed, Settled, Turned, Asked, Passed, Failed, Declined, Discarded, Chose}
use Rattle.psb_model.specs.Conditions.{settings_of_body, allowed, carries_none, declined_objects, is_begun, of_a_peer, peer_of, tests}
use Rattle.psb_model.specs.Effects.{after, disturbed, loosen, loses, move_of, note_of, rows_after, settle_move, states_of}
use Rattle.psb_model.specs.Grammar.{in_grammar}
use Rattle.psb_model.specs.History.{lawful_from, state_from}
use Rattle.psb_model.specs.Move.{after_move, still}
use Rattle.model_laws.specs.Moved.{AllAreSums, AreSums, Shift, no_shift, settled_shift, shift_for, shift_of, sum_from}
use Rattle.psb_model.specs.State.{Row, State, at_row, back_units, blank, debt_units, debt_size, has_row, held_units, in_key, in_size, is_peer, nothing_yet, out_key, out_size, row, row_in}
use Rattle.psb_model.specs.Words.{all_of, has, has_so, objects_distinct, units, units_at}
use Rattle.model_laws.specs.Moved
use Rattle.psb_model.proofs.ByObject.{by_cases, sum_by-only, has_so-has}
use Rattle.psb_model.proofs.Parts.{numbers_ascend, objects_apart, each_slot-listed, sum-direct_slots, sum-own_slots, sum-lost_rows, sum-out_again}
use Rattle.psb_model.proofs.Tidy.{IsTidy, Weighs, none_returned, units_of_slots}
use Rattle.psb_model.proofs.Standing.{StandsFor, units_of_ones}
use Rattle.psb_model.proofs.Rows.{row_in-first_rows, Alike, AlikeRows, alike_rows_then, states_alike, loosen_alike, SameLists, note_lists, row_in-at_row, row_in-at_other, has_row-at_row}
use Rattle.psb_model.proofs.Steps.{parts, Step}
use Rattle.psb_model.proofs.Balance.{Good, steps, good_after, good_nothing}

-- from r to r' the numbers moved by m
pub record Moves (r r' : Row) (m : Shift) : Type 0 where
  pub held : held_units r' + m.held_down ≡ held_units r + m.held_up
  pub back : back_units r' + m.back_down ≡ back_units r + m.back_up
  pub debt : debt_units r' + m.debt_down ≡ debt_units r + m.debt_up

-- the moves of a change, as its table says
still_moves : (r : Row) → Weighs r still → Moves r (after_move still r) no_shift
still_moves r w = record { held = omega (arith, w.held); back = omega (arith, w.back); debt = omega (arith, w.debt, none_returned debt_size r.debts) }

settle_moves : (s : State) (p : ℕ) (what : DealWhat) (number : ℕ) (numbers : List ℕ) → IsTidy s.issued (row s p) → StandsFor s.issued s.own (row s p) what → Weighs (row s p) (settle_move s (row s p) (Some (record { number = number; what = what })) numbers) → Moves (row s p) (after_move (settle_move s (row s p) (Some (record { number = number; what = what })) numbers) (row s p)) (settled_shift s (row s p) (Some (record { number = number; what = what })) numbers)
settle_moves s p (Fresh name) number numbers t st w = record { held = omega (arith, w.held, sum-direct_slots numbers); back = omega (arith, w.back); debt = omega (arith, w.debt, none_returned debt_size (row s p).debts) }
settle_moves s p (Swap name mine) number numbers t st w = record { held = omega (arith, w.held); back = omega (arith, w.back, units_of_ones out_key out_size (row s p).outs mine t.outs_ones st.here); debt = omega (arith, w.debt, none_returned debt_size (row s p).debts) }
settle_moves s p (Cancel name theirs) number numbers t st w = record { held = omega (arith, w.held, units_of_ones in_key in_size (row s p).ins theirs t.ins_ones st.here); back = omega (arith, w.back); debt = omega (arith, w.debt, none_returned debt_size (row s p).debts) }
settle_moves s p (PutBack name first) number numbers t st w = record { held = omega (arith, w.held); back = omega (arith, w.back, sum-own_slots first (units_at out_key out_size (row s p).outs (Chunk name))); debt = omega (arith, w.debt, none_returned debt_size (row s p).debts) }
settle_moves s p (Forward slot entry) number numbers t st w = still_moves (row s p) w
settle_moves s p (Return slot) number numbers t st w = still_moves (row s p) w

settled_moves : (s : State) (p : ℕ) (numbers : List ℕ) (o : Option Deal) → IsTidy s.issued (row s p) → ((d : Deal) → o ≡ Some d → StandsFor s.issued s.own (row s p) d.what) → Weighs (row s p) (settle_move s (row s p) o numbers) → Moves (row s p) (after_move (settle_move s (row s p) o numbers) (row s p)) (settled_shift s (row s p) o numbers)
settled_moves s p numbers None t st w = still_moves (row s p) w
settled_moves s p numbers (Some d) t st w = settle_moves s p d.what d.number numbers t (st d refl) w

loses_moves : (n : ℕ) (declined : Bool) (objects : List Object) (r : Row) → objects_distinct objects ≡ true → Weighs r (loses n declined objects r) → Moves r (after_move (loses n declined objects r) r) (Rattle.model_laws.specs.Moved.lost (Rattle.model_laws.specs.Moved.out_units r objects))
loses_moves n declined objects r distinct w = record { held = omega (arith, w.held); back = omega (arith, w.back, sum_by-only out_key out_size r.outs objects distinct); debt = omega (arith, w.debt, none_returned debt_size r.debts, sum-lost_rows n declined objects r.outs, sum_by-only out_key out_size r.outs objects distinct) }

abbrev ForPeer : (ℕ → Type 0) → Option ℕ → Type 0
ForPeer P None = Unit {0}
ForPeer P (Some p) = P p

table : (s : State) (c : Change) → Good s → in_grammar c ≡ true → all_of (tests s c) ≡ true → ForPeer (Step s c) (peer_of c) → ForPeer (λ p. Moves (row s p) (after_move (move_of s c) (row s p)) (shift_of s c)) (peer_of c)
table s (Begun x) g gr h st = tt
table s (Kept x) g gr h st = tt
table s (Snapped x) g gr h st = tt
table s (Forgot x) g gr h st = tt
table s (Chose x) g gr h st = tt
table s (TookFresh x) g gr h st = let w = st.weighs in record { held = omega (arith, w.held); back = omega (arith, w.back, sum-own_slots x.first (units x.len)); debt = omega (arith, w.debt, none_returned debt_size (row s x.peer).debts) }
table s (TookSwap x) g gr h st =
    let w = st.weighs in
    let ts = parts (tests s (TookSwap x)) h in
    let t = (g.rows x.peer).tidy in
    record { held = omega (arith, w.held, units_of_slots in_key in_size (row s x.peer).ins x.slots t.ins_ones t.ins_once (λ o. each_slot-listed (has in_key (row s x.peer).ins) x.slots o ts.1.1.1.0)); back = omega (arith, w.back); debt = omega (arith, w.debt, none_returned debt_size (row s x.peer).debts) }
table s (LetGo x) g gr h st =
    let w = st.weighs in
    let ts = parts (tests s (LetGo x)) h in
    let t = (g.rows x.peer).tidy in
    record {
      held = omega (arith, w.held);
      back = omega (arith, w.back, units_of_slots out_key out_size (row s x.peer).outs x.slots t.outs_ones (λ o. omega (arith, t.outs_once o)) (λ o k. has_so-has out_key carries_none (row s x.peer).outs o (each_slot-listed (has_so out_key carries_none (row s x.peer).outs) x.slots o ts.1.1.0 k)));
      debt = omega (arith, w.debt, none_returned debt_size (row s x.peer).debts);
    }
table s (LetGoBack x) g gr h st = let w = st.weighs in record { held = omega (arith, w.held, sum-direct_slots x.slots); back = omega (arith, w.back); debt = omega (arith, w.debt, none_returned debt_size (row s x.peer).debts) }
table s (Replaced x) g gr h st = still_moves (row s x.peer) st.weighs
table s (Refused x) g gr h st = still_moves (row s x.peer) st.weighs
table s (Proposed x) g gr h st = still_moves (row s x.peer) st.weighs
table s (Settled x) g gr h st = settled_moves s x.peer x.slots (row s x.peer).pending (g.rows x.peer).tidy (g.rows x.peer).stands st.weighs
table s (Turned x) g gr h st = still_moves (row s x.peer) st.weighs
table s (Asked x) g gr h st = still_moves (row s x.peer) st.weighs
table s (Passed x) g gr h st =
    let w = st.weighs in record { held = omega (arith, w.held); back = omega (arith, w.back, sum-out_again x.objects (row s x.peer).debts); debt = omega (arith, w.debt) }
table s (Failed x) g gr h st = loses_moves s.changes false x.objects (row s x.peer) (objects_apart x.objects gr) st.weighs
table s (Declined x) g gr h st = loses_moves s.changes true (declined_objects s x.peer x.asked x.places) (row s x.peer) (Rattle.psb_model.proofs.Balance.declined_distinct s x.peer x.asked x.places (g.asked x.peer) (numbers_ascend x.places gr)) st.weighs
table s (Discarded x) g gr h st = let w = st.weighs in record { held = omega (arith, w.held, sum_by-only in_key in_size (row s x.peer).ins x.objects (objects_apart x.objects gr)); back = omega (arith, w.back); debt = omega (arith, w.debt, none_returned debt_size (row s x.peer).debts) }

-- over the rows
moves_on : (r a b c : Row) (m : Shift) → Moves r a m → Alike a b → SameLists b c → Moves r c m
moves_on r a b c m h al same = record {
  held = omega (arith, h.held, al.held, ap (sum_by in_size) same.ins);
  back = omega (arith, h.back, al.back, ap (sum_by out_size) same.outs);
  debt = omega (arith, h.debt, al.debt, ap (sum_by debt_size) same.debts);
}

none_moves : (r r' : Row) → Alike r r' → Moves r r' no_shift
none_moves r r' a = record { held = omega (arith, a.held); back = omega (arith, a.back); debt = omega (arith, a.debt) }

of_peer : (s : State) (c : Change) (p : ℕ) → is_peer s p ≡ true → Moves (row s p) (after_move (move_of s c) (row s p)) (shift_of s c) → (q : ℕ) → Moves (row s q) (row_in (rows_after s c p) q) (cond (p == q) (shift_of s c) no_shift)
of_peer s c p peer h q =
    let first = at_row p (after_move (move_of s c)) s.rows in
    let second = loosen (disturbed s c) (states_of s c first) in
    let alike : AlikeRows first second = alike_rows_then first (states_of s c first) second (states_alike s c first) (loosen_alike (disturbed s c) (states_of s c first)) in
    by_cases (p == q)
    (λ k. let same : p ≡ q = eqb-true p q k in
    let has_p : has_row second p ≡ true = alike.peers p ∙ has_row-at_row p p (after_move (move_of s c)) s.rows ∙ peer in
    let a : Alike (after_move (move_of s c) (row s p)) (row_in second p) = subst (λ r. Alike r (row_in second p)) (row_in-at_row p (after_move (move_of s c)) s.rows peer) (alike.each p) in
    let whole : Moves (row s p) (note_of s c (row_in second p)) (shift_of s c) = moves_on (row s p) (after_move (move_of s c) (row s p)) (row_in second p) (note_of s c (row_in second p)) (shift_of s c) h a (note_lists s c (row_in second p)) in
    let at_p : Moves (row s p) (row_in (rows_after s c p) p) (shift_of s c) = subst (λ r. Moves (row s p) r (shift_of s c)) (sym (row_in-at_row p (note_of s c) second has_p)) whole in
    rw k (subst (λ x. Moves (row s x) (row_in (rows_after s c p) x) (shift_of s c)) same at_p))
    (λ k. let a : Alike (row s q) (row_in second q) = subst (λ r. Alike r (row_in second q)) (row_in-at_other p q (after_move (move_of s c)) s.rows k) (alike.each q) in
    rw k (subst (λ r. Moves (row s q) r no_shift) (sym (row_in-at_other p q (note_of s c) second k)) (none_moves (row s q) (row_in second q) a)))

-- OVER WHOLE HISTORIES

-- before the first change every row is blank
abbrev Begins : State → Type 0
Begins s = s.changes ≡ 0 → (q : ℕ) → row s q ≡ blank

each_moves : (s : State) (c : Change) → Good s → Begins s → in_grammar c ≡ true → of_a_peer s (peer_of c) ≡ true → all_of (tests s c) ≡ true → (q : ℕ) → Moves (row s q) (row (after s c) q) (shift_for s c q)
each_moves s (Begun x) g b gr pe h q =
    let ts = parts (tests s (Begun x)) h in
    let was : row s q ≡ blank = b (eqb-true s.changes 0 ts.0) q in
    subst (λ r. Moves (row s q) r no_shift) (sym (row_in-first_rows (settings_of_body x.body) q)) (record { held = omega (arith, ap held_units was); back = omega (arith, ap back_units was); debt = omega (arith, ap debt_units was) })
each_moves s (Kept x) g b gr pe h q = record { held = refl; back = refl; debt = refl }
each_moves s (Snapped x) g b gr pe h q = record { held = refl; back = refl; debt = refl }
each_moves s (Forgot x) g b gr pe h q = record { held = refl; back = refl; debt = refl }
each_moves s (Chose x) g b gr pe h q = record { held = refl; back = refl; debt = refl }
each_moves s (TookFresh x) g b gr pe h q = let c : Change = TookFresh x in of_peer s c x.peer pe (table s c g gr h (steps s c g gr h)) q
each_moves s (TookSwap x) g b gr pe h q = let c : Change = TookSwap x in of_peer s c x.peer pe (table s c g gr h (steps s c g gr h)) q
each_moves s (LetGo x) g b gr pe h q = let c : Change = LetGo x in of_peer s c x.peer pe (table s c g gr h (steps s c g gr h)) q
each_moves s (LetGoBack x) g b gr pe h q = let c : Change = LetGoBack x in of_peer s c x.peer pe (table s c g gr h (steps s c g gr h)) q
each_moves s (Replaced x) g b gr pe h q = let c : Change = Replaced x in of_peer s c x.peer pe (table s c g gr h (steps s c g gr h)) q
each_moves s (Refused x) g b gr pe h q = let c : Change = Refused x in of_peer s c x.peer pe (table s c g gr h (steps s c g gr h)) q
each_moves s (Proposed x) g b gr pe h q = let c : Change = Proposed x in of_peer s c x.peer pe (table s c g gr h (steps s c g gr h)) q
each_moves s (Settled x) g b gr pe h q = let c : Change = Settled x in of_peer s c x.peer pe (table s c g gr h (steps s c g gr h)) q
each_moves s (Turned x) g b gr pe h q = let c : Change = Turned x in of_peer s c x.peer pe (table s c g gr h (steps s c g gr h)) q
each_moves s (Asked x) g b gr pe h q = let c : Change = Asked x in of_peer s c x.peer pe (table s c g gr h (steps s c g gr h)) q
each_moves s (Passed x) g b gr pe h q = let c : Change = Passed x in of_peer s c x.peer pe (table s c g gr h (steps s c g gr h)) q
each_moves s (Failed x) g b gr pe h q = let c : Change = Failed x in of_peer s c x.peer pe (table s c g gr h (steps s c g gr h)) q
each_moves s (Declined x) g b gr pe h q = let c : Change = Declined x in of_peer s c x.peer pe (table s c g gr h (steps s c g gr h)) q
each_moves s (Discarded x) g b gr pe h q = let c : Change = Discarded x in of_peer s c x.peer pe (table s c g gr h (steps s c g gr h)) q

record Adds (s : State) (h : List Change) (q : ℕ) : Type 0 where
  held : held_units (row (state_from s h) q) + sum_from (λ m. m.held_down) s h q ≡ held_units (row s q) + sum_from (λ m. m.held_up) s h q
  back : back_units (row (state_from s h) q) + sum_from (λ m. m.back_down) s h q ≡ back_units (row s q) + sum_from (λ m. m.back_up) s h q
  debt : debt_units (row (state_from s h) q) + sum_from (λ m. m.debt_down) s h q ≡ debt_units (row s q) + sum_from (λ m. m.debt_up) s h q

adds : (s : State) (h : List Change) (q : ℕ) → Good s → Begins s → lawful_from s h ≡ true → Adds s h q
adds s [] q g b v = record { held = refl; back = refl; debt = refl }
adds s (c ∷ cs) q g b v =
    let two = and_parts (in_grammar c && allowed s c) (lawful_from (after s c) cs) v in
    let one = and_parts (in_grammar c) (allowed s c) two.0 in
    let begun = is_begun c || nat_lt 0 s.changes in
    let x = and_parts (begun && of_a_peer s (peer_of c)) (all_of (tests s c)) one.1 in
    let pe = (and_parts begun (of_a_peer s (peer_of c)) x.0).1 in
    let m = each_moves s c g b one.0 pe x.1 q in
    let rest = adds (after s c) cs q (good_after s c g one.0 one.1) (λ e. absurd (omega (arith, e))) two.1 in
    record { held = omega (arith, m.held, rest.held); back = omega (arith, m.back, rest.back); debt = omega (arith, m.debt, rest.debt) }

-- the law
pub sums : AllAreSums
sums h q v = let a = adds nothing_yet h q good_nothing (λ e p. refl) v in record { held = omega (arith, a.held); back = omega (arith, a.back); debt = omega (arith, a.debt) }
