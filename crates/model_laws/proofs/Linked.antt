-- Every lawful history links forwarded claims and the slots that carry them one to one.
use Rattle.std.proofs.Common.{◌≡◌, inl, inr, ℕ, zero, suc, ◌+◌, ◌<◌, ◌≤◌, Bool, true, false, not, cond, List, [], ◌∷◌, map, filter, Option, Some, None, refl, sym, ap, ◌∙◌, subst, ⊎_elim, arith}
use Rattle.std.specs.Prelude.{◌==◌}
use Rattle.std.proofs.lemmas.Bool.{false≢true, eqb-true, eq-eqb}
use Rattle.psb_bytes.specs.declared.ids.Object.{Object}
use Rattle.psb_bytes.specs.declared.ids.Object.TheVariants.{Chunk, Slot}
use Rattle.psb_bytes.specs.declared.ids.Seat.{Seat}
use Rattle.psb_model.specs.declared.entries.InEntry.{InEntry}
use Rattle.psb_model.specs.declared.entries.OutEntry.{OutEntry}
use Rattle.psb_model.specs.declared.entries.DebtEntry.{DebtEntry}
use Rattle.psb_model.specs.declared.entries.InState.{InState}
use Rattle.psb_model.specs.declared.entries.InState.TheVariants as at
use Rattle.psb_model.specs.declared.entries.OutState.{OutState}
use Rattle.psb_model.specs.declared.entries.OutState.TheVariants as on
use Rattle.psb_model.specs.declared.deals.Deal.{Deal}
use Rattle.psb_model.specs.declared.deals.DealWhat.{DealWhat}
use Rattle.psb_model.specs.declared.deals.DealWhat.TheVariants.{Fresh, Swap, Cancel, PutBack, Forward, Return}
use Rattle.psb_model.specs.declared.change.Change.{Change}
use Rattle.psb_model.specs.declared.change.Change.TheVariants.{Begun, Kept, Snapped, Forgot, TookFresh, TookSwap, LetGo, LetGoBack, Replaced, Refused, Proposed, Settled, Turned, Asked, Passed, Failed, Declined, Discarded, Chose}
use Rattle.psb_model.specs.Words.{In, all_of, listed, object_eq, units, has, slots, units_at, only}
use Rattle.psb_model.specs.State.{Row, State, blank, nothing_yet, row, row_in, has_row, is_peer, at_row, in_key, out_key, out_size, debt_key, debt_units, own_len, in_ties, out_ties, ties_out, tied_in}
use Rattle.psb_model.specs.Conditions.{settings_of_body, peer_of, is_own, is_direct, is_loose, own_state, declined_objects, is_pending, propose_tests, tests, allowed}
use Rattle.psb_model.specs.Discards.{discards, one_in, seed}
use Rattle.psb_model.specs.Move.{Move, still, after_move}
use Rattle.psb_model.specs.Effects.{chunk_in, chunk_out, direct_slots, own_slot, own_slots, debt_row, lost_rows, out_again, is_whole_listed, move_of, settle_move, settle_states, relabel_in, loosen, all_rows_after, issued_after, issued_with, after}
use Rattle.psb_model.specs.History.{state_from, lawful_from, state, is_lawful}
use Rattle.psb_digest.specs.Words.{own_word}
use Rattle.psb_model.proofs.ByObject.{by_cases, object_eq-same, object_eq-swap}
use Rattle.psb_model.proofs.Parts.{each-listed, each_slot-listed}
use Rattle.psb_model.proofs.Standing.{in_filter, picks_in, same_objects-same}
use Rattle.psb_model.proofs.Steps.{parts, not_true, in_passes, tie_shows, unless}
use Rattle.psb_model.proofs.Alone.{cancel_ties}
use Rattle.psb_model.proofs.Rows.{has_row-at_row, note_lists, row_in-first_rows}
use Rattle.psb_model.proofs.Balance.{Good, good_after, good_nothing, good_state}
use Rattle.psb_model.proofs.Prefixes.{lawful_cons}
use Rattle.psb_model.proofs.Steady.{allows}
use Rattle.psb_model.proofs.Bare.{changed, row_bare}
use Rattle.psb_model.proofs.Freed.{freed, only_none, rows_freed}
use Rattle.model_laws.specs.Links.{IsForwarded, IsCarried, Carries, stands, AllAreLinked}
use Rattle.model_laws.proofs.Marks.{At, Was, in_map_from, in_append, one_of, at_once, at_has, at_so}
use Rattle.model_laws.proofs.Traces.{in_state, out_state, debt_state, ins_of, outs_of, debts_of, Here, There, seat_of, relabels_in, Marked, as_was, marked, marked_from, marked_other, untouched, Moves, moved_rows, HereThen, here_stood, here_came, here_from, here_keeps, WasThere, ThereThen, there_stood, there_loose, there_new, there_booked, there_from, out_keeps}
use Rattle.model_laws.proofs.Linking.{IsBefore, Ready, IsLinked, stays_here, carries_nothing, Struck, hit_struck, struck_hit, IsNew, HereAfter, as_it_was, not_forwarded, ThereAfter, as_before, came_loose, is_new, Does, links_then, ready_then, linked_then, Fits, does_move}
use Rattle.model_laws.proofs.Forwards.{Ends, linked_rows, returned_rows, forward_linked, return_linked}

-- ---- no rows but blank ones

nothing_in : {A : Type 0} (rows : List (ℕ × Row)) (q : ℕ) (o : Object) (st : InState) → row_in rows q ≡ blank → Here rows q o st → A
nothing_in rows q o st is h = let none : At in_key in_state [] o st = subst (λ (r : Row). At in_key in_state r.ins o st) is h in absurd none.stands

nothing_there : {A : Type 0} (rows : List (ℕ × Row)) (q : ℕ) (o : Object) (st : OutState) → row_in rows q ≡ blank → There rows q o st → A
nothing_there rows q o st is (inl h) = let none : At out_key out_state [] o st = subst (λ (r : Row). At out_key out_state r.outs o st) is h in absurd none.stands
nothing_there rows q o st is (inr h) = let none : At debt_key debt_state [] o st = subst (λ (r : Row). At debt_key debt_state r.debts o st) is h in absurd none.stands

blank_pending : {A : Type 0} (rows : List (ℕ × Row)) (q : ℕ) (d : Deal) → row_in rows q ≡ blank → (row_in rows q).pending ≡ Some d → A
blank_pending rows q d is e = let none : None ≡ Some d = sym (ap (λ (r : Row). r.pending) is) ∙ e in absurd (cc (none))

blank_linked : (issued : ℕ) (rows : List (ℕ × Row)) → ((q : ℕ) → row_in rows q ≡ blank) → IsLinked issued rows
blank_linked issued rows is = record {
  seats = λ q o seat h. nothing_in rows q o (at.Forwarded seat) (is q) h;
  names = λ q o seat st h t. nothing_in rows q o (at.Forwarded seat) (is q) h;
  holds = λ p o held t. nothing_there rows p o (on.Carries held) (is p) t;
  ready = λ p d e. blank_pending rows p d (is p) e;
  apart = λ p q d f e k x o a b. blank_pending rows p d (is p) e;
}

-- ---- pending deals

pending_is : (s : State) (c : Change) (p q : ℕ) → peer_of c ≡ Some p → is_peer s p ≡ true → (row_in (all_rows_after s c) q).pending ≡ (cond (p == q) (changed s c (row s q)) (row s q)).pending
pending_is s c p q e here = ap (λ (r : Row). r.pending) (row_bare s c p q e here)

same_pending : (s : State) (c : Change) (p q : ℕ) → peer_of c ≡ Some p → is_peer s p ≡ true → ((r : Row) → (changed s c r).pending ≡ r.pending) → (row_in (all_rows_after s c) q).pending ≡ (row s q).pending
same_pending s c p q e here h = pending_is s c p q e here ∙ by_cases (p == q) (λ k. rw k (h (row s q))) (λ k. rw k refl)

ends_pending : (s : State) (c : Change) (p : ℕ) → peer_of c ≡ Some p → is_peer s p ≡ true → ((r : Row) → (changed s c r).pending ≡ None) → Ends s.rows (all_rows_after s c) p
ends_pending s c p e here h q d is =
    by_cases (p == q)
    (λ k. let none : (row_in (all_rows_after s c) q).pending ≡ None = pending_is s c p q e here ∙ rw k (h (row s q)) in
    let wrong : None ≡ Some d = sym none ∙ is in
    absurd (cc (wrong)))
    (λ k. let same : (row_in (all_rows_after s c) q).pending ≡ (row s q).pending = pending_is s c p q e here ∙ rw k refl in
    (k, sym same ∙ is))

-- nothing that a pending deal ties in in(p) is struck, and nothing that the one with p ties in out(p) goes
abbrev SparesIns : State → ℕ → List Object → Type 0
SparesIns s p struck = (q : ℕ) (d : Deal) → (row s q).pending ≡ Some d → (n : ℕ) → listed (in_ties q d.what p) (Slot n) ≡ true → listed struck (Slot n) ≡ false

abbrev SparesOuts : State → ℕ → List Object → Type 0
SparesOuts s p gone = (d : Deal) → (row s p).pending ≡ Some d → (n : ℕ) → listed (out_ties d.what) (Slot n) ≡ true → listed gone (Slot n) ≡ false

spares_untied : (s : State) (p : ℕ) (struck : List Object) → ((o : Object) → listed struck o ≡ true → not (tied_in s p o) ≡ true) → SparesIns s p struck
spares_untied s p struck untied q d e n k = unless (listed struck (Slot n)) (tied_in s p (Slot n)) (untied (Slot n)) (tie_shows s.rows q p d (Slot n) e k)

spares_out : (s : State) (p : ℕ) (gone : List Object) → ((o : Object) → listed gone o ≡ true → not (ties_out (row s p).pending o) ≡ true) → SparesOuts s p gone
spares_out s p gone untied d e n k = unless (listed gone (Slot n)) (ties_out (row s p).pending (Slot n)) (untied (Slot n)) (ap (λ y. ties_out y (Slot n)) e ∙ k)

-- a change that leaves all pending deals as they are
same_kind : (s : State) (c : Change) (p : ℕ) (struck gone : List Object) → Does s.rows (all_rows_after s c) p struck gone → s.issued ≤ issued_after s c → peer_of c ≡ Some p → is_peer s p ≡ true → ((r : Row) → (changed s c r).pending ≡ r.pending) → SparesIns s p struck → SparesOuts s p gone → IsLinked s.issued s.rows → IsLinked (issued_after s c) (all_rows_after s c)
same_kind s c p struck gone does le e here same ins outs l =
    let was : (q : ℕ) (d : Deal) → (row_in (all_rows_after s c) q).pending ≡ Some d → (row s q).pending ≡ Some d = λ q d k. sym (same_pending s c p q e here same) ∙ k in
    linked_then s.issued (issued_after s c) s.rows (all_rows_after s c) p struck gone does le l was
    (λ q d k. ins q d (was q d k))
    (λ q d k j. outs d (ap (λ y. (row s y).pending) (eqb-true p q j) ∙ was q d k))

-- a change that ends the pending deal of its peer
ended_kind : (issued : ℕ) (rows rows' : List (ℕ × Row)) (p : ℕ) (struck gone : List Object) → Does rows rows' p struck gone → Ends rows rows' p → ((q : ℕ) (d : Deal) → (p == q) ≡ false → (row_in rows q).pending ≡ Some d → (n : ℕ) → listed (in_ties q d.what p) (Slot n) ≡ true → listed struck (Slot n) ≡ false) → IsLinked issued rows → IsLinked issued rows'
ended_kind issued rows rows' p struck gone does ends ins l =
    linked_then issued issued rows rows' p struck gone does (omega arith) l (λ q d e. (ends q d e).1)
    (λ q d e. ins q d (ends q d e).0 (ends q d e).1)
    (λ q d e j. absurd (false≢true (sym (ends q d e).0 ∙ j)))

-- ---- what comes

chunk_stays : (name : List ℕ) (u : ℕ) (o : Object) (st : InState) → At in_key in_state (chunk_in name u ∷ []) o st → stays_here st ≡ true
chunk_stays name u o st h = one h.stands
  where
    one : In h.entry (chunk_in name u ∷ []) → stays_here st ≡ true
    one (inl same) = ap stays_here (sym h.state ∙ ap in_state same)
    one (inr none) = absurd none

direct_stays : (numbers : List ℕ) (o : Object) (st : InState) → At in_key in_state (direct_slots numbers) o st → stays_here st ≡ true
direct_stays numbers o st h = ap stays_here (sym h.state) ∙ one numbers h.stands
  where
    one : (ns : List ℕ) → In h.entry (direct_slots ns) → stays_here h.entry.state ≡ true
    one [] k = absurd k
    one (n ∷ ns) (inl same) = ap (λ (e : InEntry). stays_here e.state) same
    one (n ∷ ns) (inr there) = one ns there

-- a slot with its own claim, and a number that is not too low
record IsOwnSlot (first : ℕ) (e : OutEntry) : Type 0 where
  number : ℕ
  same : e ≡ own_slot number
  low : first ≤ number

in_own : (first u : ℕ) (e : OutEntry) → In e (own_slots first u) → IsOwnSlot first e
in_own first zero e h = absurd h
in_own first (suc u) e (inl same) = record { number = first; same = same; low = omega arith }
in_own first (suc u) e (inr there) = let y = in_own (first + 1) u e there in record { number = y.number; same = y.same; low = omega (arith, y.low) }

own_comes : (rows : List (ℕ × Row)) (p first u : ℕ) → ((q : ℕ) (x : Object) (n : ℕ) → Here rows q x (at.Forwarded (seat_of p n)) → n < first) → (o : Object) (st : OutState) → At out_key out_state (own_slots first u) o st → IsNew rows p o st
own_comes rows p first u below o st h =
    let y = in_own first u h.entry h.stands in
    record {
      carries = ap carries_nothing (sym h.state ∙ ap out_state y.same);
      untaken = λ q x n f is.
          let number : Slot y.number ≡ Slot n = sym (ap out_key y.same) ∙ h.here ∙ is in
          let same : y.number ≡ n = cc (number) in
          let low : n < first = below q x n f in
          absurd (omega (arith, same, low, y.low));
    }

chunk_comes : (rows : List (ℕ × Row)) (p : ℕ) (name : List ℕ) (u : ℕ) (o : Object) (st : OutState) → At out_key out_state (chunk_out name u ∷ []) o st → IsNew rows p o st
chunk_comes rows p name u o st h = one h.stands
  where
    one : In h.entry (chunk_out name u ∷ []) → IsNew rows p o st
    one (inl same) = record {
      carries = ap carries_nothing (sym h.state ∙ ap out_state same);
      untaken = λ q x n f is. let wrong : Chunk name ≡ Slot n = sym (ap out_key same) ∙ h.here ∙ is in absurd (cc (wrong));
    }
    one (inr none) = absurd none

-- what is given back was owed
back_owed : (objects : List Object) (l : List DebtEntry) (o : Object) (st : OutState) → At out_key out_state (map out_again (filter (is_whole_listed objects) l)) o st → At debt_key debt_state l o st
back_owed objects l o st h =
    let y = in_map_from out_again h.entry (filter (is_whole_listed objects) l) h.stands in
    record { entry = y.entry; stands = in_filter (is_whole_listed objects) y.entry l y.stands; here = sym (ap out_key y.same) ∙ h.here; state = sym (ap out_state y.same) ∙ h.state }

-- what is booked stood in out
booked_out : (n : ℕ) (declined : Bool) (objects : List Object) (l : List OutEntry) (o : Object) (st : OutState) → At debt_key debt_state (lost_rows n declined objects l) o st → At out_key out_state l o st
booked_out n declined objects l o st h = one objects h.stands
  where
    first : (x : Object) → In h.entry (map (debt_row n declined) (only out_key (x ∷ []) l)) → At out_key out_state l o st
    first x k =
        let y = in_map_from (debt_row n declined) h.entry (only out_key (x ∷ []) l) k in
        record { entry = y.entry; stands = in_filter (λ (e : OutEntry). listed (x ∷ []) (out_key e)) y.entry l y.stands; here = sym (ap debt_key y.same) ∙ h.here; state = sym (ap debt_state y.same) ∙ h.state }

    one : (os : List Object) → In h.entry (lost_rows n declined os l) → At out_key out_state l o st
    one [] k = absurd k
    one (x ∷ xs) k = ⊎_elim (λ (a : In h.entry (map (debt_row n declined) (only out_key (x ∷ []) l))). first x a) (λ (b : In h.entry (lost_rows n declined xs l)). one xs b) (in_append h.entry (map (debt_row n declined) (only out_key (x ∷ []) l)) (lost_rows n declined xs l) k)

none_struck : (rows : List (ℕ × Row)) (p q : ℕ) (o : Object) → Struck rows p [] q o → ⊥
none_struck rows p q o s = false≢true s.is_listed

fits_still : (rows : List (ℕ × Row)) (p : ℕ) → Fits rows p still
fits_still rows p = record { ins = λ o st h. absurd h.stands; outs = λ o st h. absurd h.stands; debts = λ o st h. absurd h.stands }

-- ---- a slot that gets other bytes

does_replaced : (s : State) (p n : ℕ) (st : InState) (f : Row → Row) → stays_here st ≡ true → Moves still f → (rows' : List (ℕ × Row)) → is_peer s p ≡ true → rows' ≡ moved_rows p f (only in_key (Slot n ∷ []) (row s p).ins) (at_row p (relabel_in (Slot n) st) s.rows) → Does s.rows rows' p (Slot n ∷ []) []
does_replaced s p n st f stays moves rows' peer is =
    subst (λ l. Does s.rows l p (Slot n ∷ []) []) (sym is)
    (record {
      here = λ q o x h. here_was q o x (here_from p still f moves es mid mid_peer q o x h);
      here_stays = λ q o x h left. here_keeps p still f moves es mid mid_peer q o x (marked_other in_key in_state ins_of k st (relabel_in k st) (relabels_in k st) s.rows p q o x h (λ j. other o (left j))) (λ j. refl);
      there = λ q o x t. there_was q o x (there_from p still f moves es mid mid_peer q o x t);
      out_stays = λ q o x h miss left. out_keeps p still f moves es mid mid_peer q o x (subst (λ l. At out_key out_state l o x) (sym (same_outs q)) h) (λ hit. miss (hit_struck s.rows p (k ∷ []) q o hit)) (λ j. refl);
    })
  where
    k : Object
    k = Slot n

    mid : List (ℕ × Row)
    mid = at_row p (relabel_in k st) s.rows

    es : List InEntry
    es = only in_key (k ∷ []) (row s p).ins

    mid_peer : has_row mid p ≡ true
    mid_peer = has_row-at_row p p (relabel_in k st) s.rows ∙ peer

    same_outs : (q : ℕ) → (row_in mid q).outs ≡ (row_in s.rows q).outs
    same_outs q = untouched outs_of p (relabel_in k st) (λ r. refl) s.rows q

    same_debts : (q : ℕ) → (row_in mid q).debts ≡ (row_in s.rows q).debts
    same_debts q = untouched debts_of p (relabel_in k st) (λ r. refl) s.rows q

    other : (o : Object) → listed (k ∷ []) o ≡ false → object_eq o k ≡ false
    other o h = object_eq-swap o k ∙ by_cases (object_eq k o) (λ j. let wrong : true ≡ false = rw j at h in absurd (false≢true (sym wrong))) (λ j. j)

    not_it : (o : Object) → object_eq o k ≡ false → listed (k ∷ []) o ≡ false
    not_it o h = rw (object_eq-swap k o ∙ h) refl

    label_was : (q : ℕ) (o : Object) (x : InState) → Marked in_key in_state (row_in s.rows q).ins (p == q) k st o x → HereAfter s.rows p (k ∷ []) q o x
    label_was q o x (as_was a b) = as_it_was (λ j. not_it o (a j)) b
    label_was q o x (marked j same to was) = not_forwarded (ap stays_here to ∙ stays)

    here_was : (q : ℕ) (o : Object) (x : InState) → HereThen mid p still q o x → HereAfter s.rows p (k ∷ []) q o x
    here_was q o x (here_stood a b) = label_was q o x (marked_from in_key in_state ins_of k st (relabel_in k st) (relabels_in k st) s.rows p q o x b)
    here_was q o x (here_came a) = absurd a.stands

    back : (q : ℕ) (o : Object) (x : OutState) → There mid q o x → There s.rows q o x
    back q o x (inl h) = inl (subst (λ l. At out_key out_state l o x) (same_outs q) h)
    back q o x (inr h) = inr (subst (λ l. At debt_key debt_state l o x) (same_debts q) h)

    there_was : (q : ℕ) (o : Object) (x : OutState) → ThereThen mid p still es q o x → ThereAfter s.rows p (k ∷ []) q o x
    there_was q o x (there_stood miss t) = as_before (λ w. miss (struck_hit s.rows p (k ∷ []) q o w)) (back q o x t)
    there_was q o x (there_loose hit to was) = came_loose (hit_struck s.rows p (k ∷ []) q o hit) to (record { before = was.before; stood = back q o was.before was.stood })
    there_was q o x (there_new j a) = absurd a.stands
    there_was q o x (there_booked j a) = absurd a.stands

-- ---- a proposal

is_own_state : (st : OutState) → own_state st ≡ true → st ≡ on.Own
is_own_state on.Own h = refl
is_own_state on.Body h = absurd (false≢true h)
is_own_state (on.Carries seat) h = absurd (false≢true h)
is_own_state on.Loose h = absurd (false≢true h)

is_loose_state : (st : OutState) → elim st [ on.Loose ↦ true | _ ↦ false ] ≡ true → st ≡ on.Loose
is_loose_state on.Loose h = refl
is_loose_state on.Body h = absurd (false≢true h)
is_loose_state (on.Carries seat) h = absurd (false≢true h)
is_loose_state on.Own h = absurd (false≢true h)

is_direct_state : (st : InState) → elim st [ at.Direct ↦ true | _ ↦ false ] ≡ true → st ≡ at.Direct
is_direct_state at.Direct h = refl
is_direct_state at.Body h = absurd (false≢true h)
is_direct_state (at.Forwarded seat) h = absurd (false≢true h)
is_direct_state (at.Home i) h = absurd (false≢true h)

proposed_ready : (s : State) (p : ℕ) (what : DealWhat) → all_of (propose_tests s p what) ≡ true → Ready s.rows p what
proposed_ready s p (Forward slot entry) h =
    let ts = parts (propose_tests s p (Forward slot entry)) h in
    let mine = at_so out_key is_own (row s p).outs (Slot slot) ts.1.0 in
    let theirs = at_so in_key is_direct (row s entry.peer).ins (Slot entry.slot) ts.1.1.1.0 in
    record {
      entry_is = record { entry = theirs.entry; stands = theirs.stands; here = theirs.here; state = is_direct_state theirs.entry.state theirs.passes };
      slot_is = record { entry = mine.entry; stands = mine.stands; here = mine.here; state = is_own_state mine.entry.state mine.passes };
    }
proposed_ready s p (Return slot) h =
    let ts = parts (propose_tests s p (Return slot)) h in
    let mine = at_so out_key is_loose (row s p).outs (Slot slot) ts.0 in
    record { entry = mine.entry; stands = mine.stands; here = mine.here; state = is_loose_state mine.entry.state mine.passes }
proposed_ready s p (Fresh name) h = tt
proposed_ready s p (Swap name numbers) h = tt
proposed_ready s p (Cancel name numbers) h = tt
proposed_ready s p (PutBack name first) h = tt

-- what it ties nothing tied before
proposed_untied : (s : State) (p : ℕ) (what : DealWhat) → all_of (propose_tests s p what) ≡ true → (x : ℕ) (o : Object) → listed (in_ties p what x) o ≡ true → tied_in s x o ≡ false
proposed_untied s p (Cancel name numbers) h x o k =
    by_cases (p == x)
    (λ j. let ts = parts (propose_tests s p (Cancel name numbers)) h in
    let k' : listed (slots numbers) o ≡ true = rw j at k in
    let free : not (tied_in s p o) ≡ true = each_slot-listed (λ y. not (tied_in s p y)) numbers o ts.1.1.1.1.1.0 k' in
    ap (λ y. tied_in s y o) (sym (eqb-true p x j)) ∙ not_true (tied_in s p o) free)
    (λ j. let k' : false ≡ true = rw j at k in absurd (false≢true k'))
proposed_untied s p (Forward slot entry) h x o k =
    by_cases (entry.peer == x)
    (λ j. let ts = parts (propose_tests s p (Forward slot entry)) h in
    let k' : listed (Slot entry.slot ∷ []) o ≡ true = rw j at k in
    let same : Slot entry.slot ≡ o = by_cases (object_eq (Slot entry.slot) o) (λ i. object_eq-same (Slot entry.slot) o i) (λ i. let wrong : false ≡ true = rw i at k' in absurd (false≢true wrong)) in
    ap (λ y. tied_in s y o) (sym (eqb-true entry.peer x j)) ∙ ap (tied_in s entry.peer) (sym same) ∙ not_true (tied_in s entry.peer (Slot entry.slot)) ts.1.1.1.1.0)
    (λ j. let k' : false ≡ true = rw j at k in absurd (false≢true k'))
proposed_untied s p (Fresh name) h x o k = absurd (false≢true k)
proposed_untied s p (Swap name numbers) h x o k = absurd (false≢true k)
proposed_untied s p (PutBack name first) h x o k = absurd (false≢true k)
proposed_untied s p (Return slot) h x o k = absurd (false≢true k)

-- what is forwarded has numbers below those that it draws
proposed_before : (s : State) (p : ℕ) (what : DealWhat) (n : ℕ) → all_of (propose_tests s p what) ≡ true → n < s.issued → IsBefore what n
proposed_before s p (PutBack name first) n h low = let ts = parts (propose_tests s p (PutBack name first)) h in omega (arith, eqb-true first s.issued ts.1.1.1.0, low)
proposed_before s p (Fresh name) n h low = tt
proposed_before s p (Swap name numbers) n h low = tt
proposed_before s p (Cancel name numbers) n h low = tt
proposed_before s p (Forward slot entry) n h low = tt
proposed_before s p (Return slot) n h low = tt

proposed_issued : (issued : ℕ) (r : Row) (what : DealWhat) → issued ≤ issued_with issued r what
proposed_issued issued r (PutBack name first) = omega arith
proposed_issued issued r (Fresh name) = omega arith
proposed_issued issued r (Swap name numbers) = omega arith
proposed_issued issued r (Cancel name numbers) = omega arith
proposed_issued issued r (Forward slot entry) = omega arith
proposed_issued issued r (Return slot) = omega arith

-- the deal of p is this one, and the others are as before
record IsProposed (s : State) (p : ℕ) (what : DealWhat) (q : ℕ) (d : Deal) : Type 0 where
  mine : (p == q) ≡ true → d.what ≡ what
  other : (p == q) ≡ false → (row s q).pending ≡ Some d

proposed_linked : (s : State) (rows' : List (ℕ × Row)) (p : ℕ) (what : DealWhat) (issued' : ℕ) → Does s.rows rows' p [] [] → s.issued ≤ issued' → all_of (propose_tests s p what) ≡ true → ((q : ℕ) (d : Deal) → (row_in rows' q).pending ≡ Some d → IsProposed s p what q d) → IsLinked s.issued s.rows → IsLinked issued' rows'
proposed_linked s rows' p what issued' does le h pending l =
    links_then s.issued issued' s.rows rows' p [] [] does le l
    (λ q n d low before e. by_cases (p == q)
    (λ k. subst (λ w. IsBefore w n) (sym ((pending q d e).mine k)) (proposed_before s p what n h low))
    (λ k. before d ((pending q d e).other k)))
    (λ q d e. ready_then s.issued s.rows rows' p [] [] does l q d.what
    (by_cases (p == q)
    (λ k. subst (λ y. Ready s.rows y d.what) (eqb-true p q k) (subst (Ready s.rows p) (sym ((pending q d e).mine k)) (proposed_ready s p what h)))
    (λ k. l.ready q d ((pending q d e).other k)))
    (λ n k. refl) (λ j n k. refl))
    (λ q r d f e k x o a b. by_cases (p == q)
    (λ i. by_cases (p == r)
    (λ j. sym (eqb-true p q i) ∙ eqb-true p r j)
    (λ j. absurd (clash q d r f x o i ((pending q d e).mine i) ((pending r f k).other j) a b)))
    (λ i. by_cases (p == r)
    (λ j. absurd (clash r f q d x o j ((pending r f k).mine j) ((pending q d e).other i) b a))
    (λ j. l.apart q r d f ((pending q d e).other i) ((pending r f k).other j) x o a b)))
  where
    clash : (q : ℕ) (d : Deal) (r : ℕ) (f : Deal) (x : ℕ) (o : Object) → (p == q) ≡ true → d.what ≡ what → (row s r).pending ≡ Some f → listed (in_ties q d.what x) o ≡ true → listed (in_ties r f.what x) o ≡ true → ⊥
    clash q d r f x o i mine other a b =
        let a' : listed (in_ties p what x) o ≡ true = ap (λ y. listed (in_ties y what x) o) (eqb-true p q i) ∙ (ap (λ w. listed (in_ties q w x) o) (sym mine) ∙ a) in
        false≢true (sym (proposed_untied s p what h x o a') ∙ tie_shows s.rows r x f o other b)

-- ---- a settled deal

abbrev settled : State → ℕ → List ℕ → Option Deal → Row → Row
settled s p numbers o r = record (after_move (settle_move s (row s p) o numbers) r) { pending = None }

abbrev settled_rows : State → ℕ → List ℕ → Option Deal → List (ℕ × Row)
settled_rows s p numbers o = moved_rows p (settled s p numbers o) (only in_key (settle_move s (row s p) o numbers).in_gone (row s p).ins) (settle_states p o s.rows)

settled_linked : (s : State) (p number : ℕ) (numbers : List ℕ) (what : DealWhat) (rows' : List (ℕ × Row)) → (row s p).pending ≡ Some (record { number = number; what = what }) → rows' ≡ settled_rows s p numbers (Some (record { number = number; what = what })) → is_peer s p ≡ true → Ends s.rows rows' p → Good s → IsLinked s.issued s.rows → IsLinked s.issued rows'
settled_linked s p number numbers (Fresh name) rows' pending is here ends g l =
    let o : Option Deal = Some (record { number = number; what = Fresh name }) in
    let m : Move = settle_move s (row s p) o numbers in
    ended_kind s.issued s.rows rows' p [] []
    (does_move s.rows rows' p m (settled s p numbers o) (λ r. record { ins = refl; outs = refl; debts = refl }) here is
    (record { ins = λ x st h. direct_stays numbers x st h; outs = λ x st h. is_new (chunk_comes s.rows p name (units (own_len s.own name)) x st h); debts = λ x st h. absurd h.stands }))
    ends (λ q d other e n k. refl) l
settled_linked s p number numbers (Swap name mine) rows' pending is here ends g l =
    let o : Option Deal = Some (record { number = number; what = Swap name mine }) in
    let m : Move = settle_move s (row s p) o numbers in
    ended_kind s.issued s.rows rows' p [] (slots mine)
    (does_move s.rows rows' p m (settled s p numbers o) (λ r. record { ins = refl; outs = refl; debts = refl }) here is
    (record { ins = λ x st h. absurd h.stands; outs = λ x st h. is_new (chunk_comes s.rows p name (units (own_len s.own name)) x st h); debts = λ x st h. absurd h.stands }))
    ends (λ q d other e n k. refl) l
settled_linked s p number numbers (Cancel name theirs) rows' pending is here ends g l =
    let deal : Deal = record { number = number; what = Cancel name theirs } in
    let o : Option Deal = Some deal in
    let m : Move = settle_move s (row s p) o numbers in
    ended_kind s.issued s.rows rows' p (slots theirs) (Chunk name ∷ [])
    (does_move s.rows rows' p m (settled s p numbers o) (λ r. record { ins = refl; outs = refl; debts = refl }) here is
    (record { ins = λ x st h. absurd h.stands; outs = λ x st h. absurd h.stands; debts = λ x st h. absurd h.stands }))
    ends
    (λ q d other e n k. by_cases (listed (slots theirs) (Slot n))
    (λ j. let same : p ≡ q = l.apart p q deal d pending e p (Slot n) (ap (λ y. listed y (Slot n)) (cancel_ties p name theirs) ∙ j) k in
    absurd (false≢true (sym other ∙ (ap (λ y. p == y) (sym same) ∙ eq-eqb p p refl))))
    (λ j. j))
    l
settled_linked s p number numbers (PutBack name first) rows' pending is here ends g l =
    let deal : Deal = record { number = number; what = PutBack name first } in
    let o : Option Deal = Some deal in
    let m : Move = settle_move s (row s p) o numbers in
    ended_kind s.issued s.rows rows' p [] (Chunk name ∷ [])
    (does_move s.rows rows' p m (settled s p numbers o) (λ r. record { ins = refl; outs = refl; debts = refl }) here is
    (record { ins = λ x st h. absurd h.stands; outs = λ x st h. is_new (own_comes s.rows p first (units_at out_key out_size (row s p).outs (Chunk name)) (λ q y n f. (l.seats q y (seat_of p n) f).before deal pending) x st h); debts = λ x st h. absurd h.stands }))
    ends (λ q d other e n k. refl) l
settled_linked s p number numbers (Forward slot entry) rows' pending is here ends g l =
    let o : Option Deal = Some (record { number = number; what = Forward slot entry }) in
    forward_linked s.issued s.rows rows' p slot number entry (settled s p numbers o) (λ r. record { ins = refl; outs = refl; debts = refl }) here (λ q. (g.rows q).tidy) pending
    (is ∙ ap (λ es. moved_rows p (settled s p numbers o) es (linked_rows p slot entry s.rows)) (only_none in_key (row s p).ins))
    ends l
settled_linked s p number numbers (Return slot) rows' pending is here ends g l =
    let o : Option Deal = Some (record { number = number; what = Return slot }) in
    return_linked s.issued s.rows rows' p slot number (settled s p numbers o) (λ r. record { ins = refl; outs = refl; debts = refl }) here pending
    (is ∙ ap (λ es. moved_rows p (settled s p numbers o) es (returned_rows p slot s.rows)) (only_none in_key (row s p).ins))
    ends l

-- ---- each kind

-- an object of the list
record IsListed {E : Type 0} (key : E → Object) (l : List E) (o : Object) : Type 0 where
  entry : E
  stands : In entry l
  here : key entry ≡ o

listed_in : {E : Type 0} (key : E → Object) (l : List E) (o : Object) → listed (map key l) o ≡ true → IsListed key l o
listed_in key [] o h = absurd (false≢true h)
listed_in key (x ∷ xs) o h =
    by_cases (object_eq (key x) o)
    (λ k. record { entry = x; stands = inl refl; here = object_eq-same (key x) o k })
    (λ k. let h' = rw k at h in let y = listed_in key xs o h' in record { entry = y.entry; stands = inr y.stands; here = y.here })

-- what is discarded is untied
discards_untied : (s : State) (p : ℕ) (objects : List Object) → objects ≡ map in_key (discards s p) → (o : Object) → listed objects o ≡ true → not (tied_in s p o) ≡ true
discards_untied s p objects is o k =
    let q : InEntry → Bool = λ e. not (tied_in s p e.object) in
    let found = listed_in in_key (discards s p) o (ap (λ l. listed l o) (sym is) ∙ k) in
    let r = row s p in
    ap (λ x. not (tied_in s p x)) (sym found.here) ∙ in_passes q found.entry r.ins (picks_in (own_word (seed s.settings) s.changes) (one_in r.fails) 0 (debt_units r) 1048576 (filter q r.ins) found.entry found.stands)

-- a change whose rows move alone
moves_kind : (s : State) (c : Change) (p : ℕ) → peer_of c ≡ Some p → is_peer s p ≡ true → freed s c ≡ loosen (only in_key (move_of s c).in_gone (row s p).ins) s.rows → Fits s.rows p (move_of s c) → Does s.rows (all_rows_after s c) p (move_of s c).in_gone (move_of s c).out_gone
moves_kind s c p e here is fits =
    does_move s.rows (all_rows_after s c) p (move_of s c) (changed s c) (λ r. note_lists s c (after_move (move_of s c) r)) here
    (rows_freed s c p e ∙ ap (at_row p (changed s c)) is)
    fits

linked_after : (s : State) (c : Change) → Good s → allowed s c ≡ true → IsLinked s.issued s.rows → IsLinked (issued_after s c) (all_rows_after s c)
linked_after s (Begun x) g h l = blank_linked s.issued (all_rows_after s (Begun x)) (row_in-first_rows (settings_of_body x.body))
linked_after s (Kept x) g h l = l
linked_after s (Snapped x) g h l = l
linked_after s (Forgot x) g h l = l
linked_after s (Chose x) g h l = l
linked_after s (TookFresh x) g h l =
    let c : Change = TookFresh x in
    let a = allows s c h in
    let ts = parts (tests s c) a.tests in
    let first : x.first ≡ s.issued = eqb-true x.first s.issued ts.1.1.1.1.1.0 in
    same_kind s c x.peer [] []
    (moves_kind s c x.peer refl a.peer refl
    (record {
      ins = λ o st k. chunk_stays x.name (units x.len) o st k;
      outs = λ o st k. is_new (own_comes s.rows x.peer x.first (units x.len) (λ q y n f. let low = (l.seats q y (seat_of x.peer n) f).drawn in omega (arith, low, first)) o st k);
      debts = λ o st k. absurd k.stands;
    }))
    (omega arith) refl a.peer (λ r. refl) (λ q d e n k. refl) (λ d e n k. refl) l
linked_after s (TookSwap x) g h l =
    let c : Change = TookSwap x in
    let a = allows s c h in
    let ts = parts (tests s c) a.tests in
    same_kind s c x.peer (slots x.slots) []
    (moves_kind s c x.peer refl a.peer refl (record { ins = λ o st k. chunk_stays x.name (units x.len) o st k; outs = λ o st k. absurd k.stands; debts = λ o st k. absurd k.stands }))
    (omega arith) refl a.peer (λ r. refl)
    (spares_untied s x.peer (slots x.slots) (λ o. each_slot-listed (λ y. not (tied_in s x.peer y)) x.slots o ts.1.1.1.1.0))
    (λ d e n k. refl) l
linked_after s (LetGo x) g h l =
    let c : Change = LetGo x in
    let a = allows s c h in
    let ts = parts (tests s c) a.tests in
    same_kind s c x.peer (Chunk x.name ∷ []) (slots x.slots)
    (moves_kind s c x.peer refl a.peer refl (record { ins = λ o st k. absurd k.stands; outs = λ o st k. absurd k.stands; debts = λ o st k. absurd k.stands }))
    (omega arith) refl a.peer (λ r. refl) (λ q d e n k. refl)
    (spares_out s x.peer (slots x.slots) (λ o. each_slot-listed (λ y. not (ties_out (row s x.peer).pending y)) x.slots o ts.1.1.1.0))
    l
linked_after s (LetGoBack x) g h l =
    let c : Change = LetGoBack x in
    let a = allows s c h in
    same_kind s c x.peer (Chunk x.name ∷ []) []
    (moves_kind s c x.peer refl a.peer refl (record { ins = λ o st k. direct_stays x.slots o st k; outs = λ o st k. absurd k.stands; debts = λ o st k. absurd k.stands }))
    (omega arith) refl a.peer (λ r. refl) (λ q d e n k. refl) (λ d e n k. refl) l
linked_after s (Replaced x) g h l =
    let c : Change = Replaced x in
    let a = allows s c h in
    let ts = parts (tests s c) a.tests in
    let st : InState = cond (x.place == 0) at.Direct (at.Home x.home) in
    let stays : stays_here st ≡ true = by_cases (x.place == 0) (λ k. rw k refl) (λ k. rw k refl) in
    same_kind s c x.peer (Slot x.slot ∷ []) []
    (does_replaced s x.peer x.slot st (changed s c) stays (λ r. note_lists s c (after_move (move_of s c) r)) (all_rows_after s c) a.peer (rows_freed s c x.peer refl))
    (omega arith) refl a.peer (λ r. refl)
    (spares_untied s x.peer (Slot x.slot ∷ []) (λ o k. let same : Slot x.slot ≡ o = by_cases (object_eq (Slot x.slot) o) (λ i. object_eq-same (Slot x.slot) o i) (λ i. let wrong : false ≡ true = rw i at k in absurd (false≢true wrong)) in ap (λ y. not (tied_in s x.peer y)) (sym same) ∙ ts.1.1.0))
    (λ d e n k. refl) l
linked_after s (Refused x) g h l =
    let c : Change = Refused x in
    let a = allows s c h in
    same_kind s c x.peer [] [] (moves_kind s c x.peer refl a.peer refl (fits_still s.rows x.peer)) (omega arith) refl a.peer (λ r. refl) (λ q d e n k. refl) (λ d e n k. refl) l
linked_after s (Proposed x) g h l =
    let c : Change = Proposed x in
    let a = allows s c h in
    let ts = parts (tests s c) a.tests in
    proposed_linked s (all_rows_after s c) x.peer x.what (issued_after s c) (moves_kind s c x.peer refl a.peer refl (fits_still s.rows x.peer)) (proposed_issued s.issued (row s x.peer) x.what) ts.1.1.0
    (λ q d e. record {
      mine = λ k.
          let is : (row_in (all_rows_after s c) q).pending ≡ Some (record { number = x.deal; what = x.what }) = pending_is s c x.peer q refl a.peer ∙ rw k refl in
          let both : Some (record { number = x.deal; what = x.what }) ≡ Some d = sym is ∙ e in
          let same : record { number = x.deal; what = x.what } ≡ d = cc (both) in
          ap (λ (y : Deal). y.what) (sym same);
      other = λ k.
          let is : (row_in (all_rows_after s c) q).pending ≡ (row s q).pending = pending_is s c x.peer q refl a.peer ∙ rw k refl in
          sym is ∙ e;
    })
    l
linked_after s (Settled x) g h l =
    let c : Change = Settled x in
    let a = allows s c h in
    let ends = ends_pending s c x.peer refl a.peer (λ r. refl) in
    by_deal (row s x.peer).pending refl a.peer ends
  where
    by_deal : (o : Option Deal) → (row s x.peer).pending ≡ o → is_peer s x.peer ≡ true → Ends s.rows (all_rows_after s (Settled x)) x.peer → IsLinked s.issued (all_rows_after s (Settled x))
    by_deal None e here ends =
        let ts = parts (tests s (Settled x)) (allows s (Settled x) h).tests in
        absurd (false≢true (sym (ap (λ y. is_pending y x.deal) e) ∙ ts.0))
    by_deal (Some d) e here ends =
        settled_linked s x.peer d.number x.slots d.what (all_rows_after s (Settled x)) e
        (rows_freed s (Settled x) x.peer refl ∙ ap (settled_rows s x.peer x.slots) e)
        here ends g l
linked_after s (Turned x) g h l =
    let c : Change = Turned x in
    let a = allows s c h in
    ended_kind s.issued s.rows (all_rows_after s c) x.peer [] [] (moves_kind s c x.peer refl a.peer refl (fits_still s.rows x.peer)) (ends_pending s c x.peer refl a.peer (λ r. refl)) (λ q d other e n k. refl) l
linked_after s (Asked x) g h l =
    let c : Change = Asked x in
    let a = allows s c h in
    same_kind s c x.peer [] [] (moves_kind s c x.peer refl a.peer refl (fits_still s.rows x.peer)) (omega arith) refl a.peer (λ r. refl) (λ q d e n k. refl) (λ d e n k. refl) l
linked_after s (Passed x) g h l =
    let c : Change = Passed x in
    let a = allows s c h in
    same_kind s c x.peer [] []
    (moves_kind s c x.peer refl a.peer refl
    (record {
      ins = λ o st k. absurd k.stands;
      outs = λ o st k. as_before (none_struck s.rows x.peer x.peer o) (inr (back_owed x.objects (row s x.peer).debts o st k));
      debts = λ o st k. absurd k.stands;
    }))
    (omega arith) refl a.peer (λ r. by_cases (x.asked == 0) (λ k. rw k refl) (λ k. rw k refl)) (λ q d e n k. refl) (λ d e n k. refl) l
linked_after s (Failed x) g h l =
    let c : Change = Failed x in
    let a = allows s c h in
    let ts = parts (tests s c) a.tests in
    same_kind s c x.peer [] x.objects
    (moves_kind s c x.peer refl a.peer refl
    (record {
      ins = λ o st k. absurd k.stands;
      outs = λ o st k. absurd k.stands;
      debts = λ o st k. as_before (none_struck s.rows x.peer x.peer o) (inl (booked_out s.changes false x.objects (row s x.peer).outs o st k));
    }))
    (omega arith) refl a.peer (λ r. refl) (λ q d e n k. refl)
    (spares_out s x.peer x.objects (λ o. each-listed (λ y. not (ties_out (row s x.peer).pending y)) x.objects o ts.1.1.1.1.0))
    l
linked_after s (Declined x) g h l =
    let c : Change = Declined x in
    let a = allows s c h in
    let ts = parts (tests s c) a.tests in
    let objects = declined_objects s x.peer x.asked x.places in
    same_kind s c x.peer [] objects
    (moves_kind s c x.peer refl a.peer refl
    (record {
      ins = λ o st k. absurd k.stands;
      outs = λ o st k. absurd k.stands;
      debts = λ o st k. as_before (none_struck s.rows x.peer x.peer o) (inl (booked_out s.changes true objects (row s x.peer).outs o st k));
    }))
    (omega arith) refl a.peer (λ r. refl) (λ q d e n k. refl)
    (spares_out s x.peer objects (λ o. each-listed (λ y. not (ties_out (row s x.peer).pending y)) objects o ts.1.1.0))
    l
linked_after s (Discarded x) g h l =
    let c : Change = Discarded x in
    let a = allows s c h in
    let ts = parts (tests s c) a.tests in
    same_kind s c x.peer x.objects []
    (moves_kind s c x.peer refl a.peer refl (record { ins = λ o st k. absurd k.stands; outs = λ o st k. absurd k.stands; debts = λ o st k. absurd k.stands }))
    (omega arith) refl a.peer (λ r. refl)
    (spares_untied s x.peer x.objects (discards_untied s x.peer x.objects (same_objects-same x.objects (map in_key (discards s x.peer)) ts.1.0)))
    (λ d e n k. refl) l

linked_from : (s : State) (h : List Change) → Good s → IsLinked s.issued s.rows → lawful_from s h ≡ true → IsLinked (state_from s h).issued (state_from s h).rows
linked_from s [] g l v = l
linked_from s (c ∷ cs) g l v =
    let w = lawful_cons s c cs v in
    linked_from (after s c) cs (good_after s c g w.grammar w.allows) (linked_after s c g w.allows l) w.rest

pub linked_state : (h : List Change) → is_lawful h ≡ true → IsLinked (state h).issued (state h).rows
linked_state h v = linked_from nothing_yet h good_nothing (blank_linked 0 [] (λ q. refl)) v

-- ---- as the law says it

-- something stands at the object
stands_some : {E S : Type 0} (key : E → Object) (st : E → S) (l : List E) (o : Object) → has key l o ≡ true → Was key st l o
stands_some key st [] o h = absurd (false≢true h)
stands_some key st (x ∷ xs) o h =
    by_cases (object_eq (key x) o)
    (λ k. record { before = st x; stood = record { entry = x; stands = inl refl; here = object_eq-same (key x) o k; state = refl } })
    (λ k. let h' : has key xs o ≡ true = rw k at h in
    let y = stands_some key st xs o h' in
    record { before = y.before; stood = record { entry = y.stood.entry; stands = inr y.stood.stands; here = y.stood.here; state = y.stood.state } })

seat_stands : (s : State) (seat : Seat) → stands s seat ≡ true → WasThere s.rows seat.peer (Slot seat.slot)
seat_stands s seat h =
    by_cases (has out_key (row s seat.peer).outs (Slot seat.slot))
    (λ k. let y = stands_some out_key out_state (row s seat.peer).outs (Slot seat.slot) k in record { before = y.before; stood = inl y.stood })
    (λ k. let h' : has debt_key (row s seat.peer).debts (Slot seat.slot) ≡ true = rw k at h in
    let y = stands_some debt_key debt_state (row s seat.peer).debts (Slot seat.slot) h' in
    record { before = y.before; stood = inr y.stood })

is_forwarded : (s : State) → IsLinked s.issued s.rows → (q : ℕ) (e : InEntry) (seat : Seat) → In e (row s q).ins → e.state ≡ at.Forwarded seat → IsForwarded s q e seat
is_forwarded s l q e seat i k =
    let a : Here s.rows q e.object (at.Forwarded seat) = record { entry = e; stands = i; here = refl; state = k } in
    let y = l.seats q e.object seat a in
    let named : (st : OutState) → There s.rows seat.peer (Slot seat.slot) st → st ≡ on.Carries (seat_of q y.slot) = λ st t.
    let n = l.names q e.object seat st a t in
    let both : Slot n.slot ≡ Slot y.slot = sym n.here ∙ y.here in
    let same : n.slot ≡ y.slot = cc (both) in
    n.carries ∙ ap (λ m. on.Carries (seat_of q m)) same
    in
    record {
      slot = y.slot;
      here = y.here;
      outs = λ f j o. named f.state (inl (record { entry = f; stands = j; here = o; state = refl }));
      debts = λ d j o. named d.state (inr (record { entry = d; stands = j; here = o; state = refl }));
    }

is_carried : (s : State) → Good s → IsLinked s.issued s.rows → (p : ℕ) (o : Object) (held : Seat) → There s.rows p o (on.Carries held) → IsCarried s p o held
is_carried s g l p o held t =
    let y = l.holds p o held t in
    record {
      slot = y.slot;
      here = y.here;
      there = at_has in_key in_state (row s held.peer).ins (Slot held.slot) (at.Forwarded (seat_of p y.slot)) y.stands;
      each = λ e i k. at_once in_key in_state (row s held.peer).ins (Slot held.slot) e.state (at.Forwarded (seat_of p y.slot)) ((g.rows held.peer).tidy.ins_once (Slot held.slot)) (record { entry = e; stands = i; here = k; state = refl }) y.stands;
    }

slot_there : (s : State) (p n : ℕ) (held : Seat) → Carries s p n held → There s.rows p (Slot n) (on.Carries held)
slot_there s p n held (inl f) = inl (record { entry = f.0; stands = f.1; here = f.2; state = f.3 })
slot_there s p n held (inr d) = inr (record { entry = d.0; stands = d.1; here = d.2; state = d.3 })

one_slot : (s : State) → Good s → IsLinked s.issued s.rows → (p n q m : ℕ) (held : Seat) → Carries s p n held → Carries s q m held → (p ≡ q) × (n ≡ m)
one_slot s g l p n q m held a b =
    let x = l.holds p (Slot n) held (slot_there s p n held a) in
    let y = l.holds q (Slot m) held (slot_there s q m held b) in
    let both : at.Forwarded (seat_of p x.slot) ≡ at.Forwarded (seat_of q y.slot) = at_once in_key in_state (row s held.peer).ins (Slot held.slot) (at.Forwarded (seat_of p x.slot)) (at.Forwarded (seat_of q y.slot)) ((g.rows held.peer).tidy.ins_once (Slot held.slot)) x.stands y.stands in
    let same : seat_of p x.slot ≡ seat_of q y.slot = cc (both) in
    let n_is : n ≡ x.slot = let e = x.here in cc (e) in
    let m_is : m ≡ y.slot = let e = y.here in cc (e) in
    (ap (λ (z : Seat). z.peer) same, n_is ∙ ap (λ (z : Seat). z.slot) same ∙ sym m_is)

one_entry : (s : State) → Good s → IsLinked s.issued s.rows → (p q : ℕ) (e f : InEntry) (seat : Seat) → stands s seat ≡ true → In e (row s p).ins → e.state ≡ at.Forwarded seat → In f (row s q).ins → f.state ≡ at.Forwarded seat → (p ≡ q) × (e ≡ f)
one_entry s g l p q e f seat there i k j o =
    let t = seat_stands s seat there in
    let x = l.names p e.object seat t.before (record { entry = e; stands = i; here = refl; state = k }) t.stood in
    let y = l.names q f.object seat t.before (record { entry = f; stands = j; here = refl; state = o }) t.stood in
    let both : on.Carries (seat_of p x.slot) ≡ on.Carries (seat_of q y.slot) = sym x.carries ∙ y.carries in
    let same : seat_of p x.slot ≡ seat_of q y.slot = cc (both) in
    let peer : p ≡ q = ap (λ (z : Seat). z.peer) same in
    let object : f.object ≡ e.object = y.here ∙ ap (λ (z : Seat). Slot z.slot) (sym same) ∙ sym x.here in
    (peer, one_of in_key e f (row s p).ins ((g.rows p).tidy.ins_once e.object) i (subst (λ z. In f (row s z).ins) (sym peer) j) object)

-- the law
pub links_one_to_one : AllAreLinked
links_one_to_one h v =
    let s = state h in
    let g = good_state h v in
    let l = linked_state h v in
    record {
      forwarded = is_forwarded s l;
      carried = λ p f held i k. is_carried s g l p f.object held (inl (record { entry = f; stands = i; here = refl; state = k }));
      owed = λ p d held i k. is_carried s g l p d.object held (inr (record { entry = d; stands = i; here = refl; state = k }));
      one_slot = one_slot s g l;
      one_entry = one_entry s g l;
    }
