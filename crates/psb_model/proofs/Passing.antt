-- What was passed over while the next deal was looked for stays so through most changes.
use Rattle.std.proofs.Common.{◌≡◌, ℕ, ◌+◌, Bool, true, false, not, ◌&&◌, ◌||◌, cond, List, [], ◌∷◌, ◌++◌, filter, Option, Some, None, refl, sym, ap, ◌∙◌, subst}
use Rattle.std.specs.Prelude.{zero, suc, ◌==◌, nat_le, if◌then◌else◌}
use Rattle.std.specs.List.{list_any, list_all}
use Rattle.std.proofs.lemmas.Bool.{and_parts, false≢true, eqb-true}
use Rattle.psb_bytes.specs.declared.ids.Object.{Object}
use Rattle.psb_bytes.specs.declared.ids.Object.TheVariants.{Chunk, Slot}
use Rattle.psb_model.specs.declared.entries.OutEntry.{OutEntry}
use Rattle.psb_model.specs.declared.entries.OwnEntry.{OwnEntry}
use Rattle.psb_model.specs.declared.deals.Deal.{Deal}
use Rattle.psb_model.specs.declared.deals.DealWhat.{DealWhat}
use Rattle.psb_model.specs.declared.deals.DealWhat.TheVariants.{Fresh, Swap, Cancel, PutBack, Forward, Return}
use Rattle.psb_model.specs.declared.change.Change.{Change}
use Rattle.psb_model.specs.declared.change.Change.TheVariants.{Begun, Kept, Snapped, Forgot, TookFresh, TookSwap, LetGo, LetGoBack, Replaced, Refused, Proposed, Settled, Turned, Asked, Passed, Failed, Declined, Discarded, Chose}
use Rattle.psb_model.specs.Words.{units, units_at, name_eq, listed, slots, has, with_one, with_all, without}
use Rattle.psb_model.specs.State.{Row, State, row, row_in, is_peer, out_key, out_size, debt_key, own_has, own_len, own_marked, is_wanted, is_barred}
use Rattle.psb_model.specs.Conditions.{peer_of, declined_objects}
use Rattle.psb_model.specs.declared.entries.DebtEntry.{DebtEntry}
use Rattle.psb_model.specs.Move.{Move, still, after_move}
use Rattle.psb_model.specs.Effects.{chunk_out, own_slot, own_slots, own_after, kept_after, move_of, settle_move, loses, all_rows_after, given_up, after}
use Rattle.psb_model.specs.Proposing.{is_absent, is_missing, none_marked, none_missing}
use Rattle.psb_model.proofs.ByObject.{by_cases, all_with_one, all_kept}
use Rattle.psb_model.proofs.Own.{name_same}
use Rattle.psb_model.proofs.Parts.{no_chunk}
use Rattle.psb_model.proofs.Rows.{note_lists}
use Rattle.psb_model.proofs.Bare.{bare, bare_out, bare_debt, all_bare, has_bare, changed, row_bare}
use Rattle.psb_model.proofs.Lent.{lent, lends, lost_has, returns_lent}
use Rattle.psb_model.proofs.Steady.{IsSteady, names_apart}

-- ---- Bools

less : (a m m' : Bool) → (m' ≡ true → m ≡ true) → not (a && m) ≡ true → not (a && m') ≡ true
less false m m' f h = refl
less true m false f h = refl
less true m true f h = let h' = rw (f refl) at h in absurd (false≢true h')

all_less : {E : Type 0} (t u : E → Bool) (l : List E) → ((e : E) → t e ≡ true → u e ≡ true) → list_all t l ≡ true → list_all u l ≡ true
all_less t u [] f h = refl
all_less t u (x ∷ xs) f h = let a = and_parts (t x) (list_all t xs) h in rw (f x a.0) (all_less t u xs f a.1)

-- ---- own chunks that are left

marked_left : (t : OwnEntry → Bool) (l : List OwnEntry) (n : List ℕ) → names_apart l ≡ true → own_marked (filter t l) n ≡ true → own_marked l n ≡ true
marked_left t [] n a h = h
marked_left t (e ∷ es) n a h =
    let apart = and_parts (not (own_has es e.name)) (names_apart es) a in
    by_cases (name_eq e.name n)
    (λ k. by_cases (t e)
    (λ j. let h' : (if name_eq e.name n then e.marked else own_marked (filter t es) n) ≡ true = rw j at h in let h'' : e.marked ≡ true = rw k at h' in rw k h'')
    (λ j. let h' : own_marked (filter t es) n ≡ true = rw j at h in absurd (none_there es (not_own es e.name apart.0) (ap (λ m. own_marked (filter t es) m) (name_same e.name n k) ∙ h'))))
    (λ k. rw k (marked_left t es n apart.1 (by_cases (t e)
    (λ j. let h' : (if name_eq e.name n then e.marked else own_marked (filter t es) n) ≡ true = rw j at h in let h'' : own_marked (filter t es) n ≡ true = rw k at h' in h'')
    (λ j. let h' : own_marked (filter t es) n ≡ true = rw j at h in h'))))
  where
    not_own : (l : List OwnEntry) (m : List ℕ) → not (own_has l m) ≡ true → own_has l m ≡ false
    not_own l m h = by_cases (own_has l m) (λ k. let h' = rw k at h in absurd (false≢true h')) (λ k. k)

    none_there : (l : List OwnEntry) → own_has l e.name ≡ false → own_marked (filter t l) e.name ≡ true → ⊥
    none_there [] lacks h = false≢true h
    none_there (x ∷ xs) lacks h =
        by_cases (name_eq x.name e.name)
        (λ k. let lacks' : true ≡ false = rw k at lacks in false≢true (sym lacks'))
        (λ k. let lacks' : own_has xs e.name ≡ false = rw k at lacks in
        by_cases (t x)
        (λ j. let h' : (if name_eq x.name e.name then x.marked else own_marked (filter t xs) e.name) ≡ true = rw j at h in let h'' : own_marked (filter t xs) e.name ≡ true = rw k at h' in none_there xs lacks' h'')
        (λ j. let h' : own_marked (filter t xs) e.name ≡ true = rw j at h in none_there xs lacks' h'))

-- ---- the chunks there

marks_fewer : (test : List ℕ → Bool) (own own' : List OwnEntry) (outs : List OutEntry) → ((n : List ℕ) → own_marked own' n ≡ true → own_marked own n ≡ true) → none_marked test own outs ≡ true → none_marked test own' outs ≡ true
marks_fewer test own own' outs f h =
    all_less (λ (e : OutEntry). elim e.object [ Chunk n ↦ not (test n && own_marked own n) | Slot n ↦ true ]) (λ (e : OutEntry). elim e.object [ Chunk n ↦ not (test n && own_marked own' n) | Slot n ↦ true ]) outs (λ e. by_object e.object) h
  where
    by_object : (o : Object) → elim o [ Chunk n ↦ not (test n && own_marked own n) | Slot n ↦ true ] ≡ true → elim o [ Chunk n ↦ not (test n && own_marked own' n) | Slot n ↦ true ] ≡ true
    by_object (Chunk n) h = less (test n) (own_marked own n) (own_marked own' n) (f n) h
    by_object (Slot n) h = refl

none_left : (test : List ℕ → Bool) (own : List OwnEntry) (gone : List Object) (outs : List OutEntry) → none_marked test own outs ≡ true → none_marked test own (without out_key gone outs) ≡ true
none_left test own gone outs h = all_kept (λ (e : OutEntry). elim e.object [ Chunk n ↦ not (test n && own_marked own n) | Slot n ↦ true ]) (λ (e : OutEntry). not (listed gone (out_key e))) outs h

none_slots : (test : List ℕ → Bool) (own : List OwnEntry) (first u : ℕ) (outs : List OutEntry) → none_marked test own outs ≡ true → none_marked test own (with_all out_key (own_slots first u) outs) ≡ true
none_slots test own first zero outs h = h
none_slots test own first (suc u) outs h = none_slots test own (first + 1) u (with_one out_key (own_slot first) outs) (all_with_one out_key (λ (e : OutEntry). elim e.object [ Chunk n ↦ not (test n && own_marked own n) | Slot n ↦ true ]) (own_slot first) outs refl h)

none_placed : (test : List ℕ → Bool) (own : List OwnEntry) (name : List ℕ) (u : ℕ) (outs : List OutEntry) → own_marked own name ≡ false → none_marked test own outs ≡ true → none_marked test own (with_one out_key (chunk_out name u) outs) ≡ true
none_placed test own name u outs free h = all_with_one out_key (λ (e : OutEntry). elim e.object [ Chunk n ↦ not (test n && own_marked own n) | Slot n ↦ true ]) (chunk_out name u) outs (rw free (none (test name))) h
  where
    none : (a : Bool) → not (a && false) ≡ true
    none true = refl
    none false = refl

-- ---- the chunks that are missing there

-- what the row has, lost or turned down it still has, lost or turned down
record RowKeeps (r r' : Row) : Type 0 where
  lent : (n : List ℕ) → lent r (Chunk n) ≡ true → lent r' (Chunk n) ≡ true
  barred : (n : List ℕ) → is_barred r n ≡ true → is_barred r' n ≡ true

absent_before : (r r' : Row) (n : List ℕ) → RowKeeps r r' → is_absent r' n ≡ true → is_absent r n ≡ true
absent_before r r' n k h =
    let a = not (has out_key r'.outs (Chunk n)) in
    let b = not (has debt_key r'.debts (Chunk n)) in
    let c = not (is_barred r' n) in
    let two = and_parts (a && b) c h in
    let none = was (lent r (Chunk n)) (lent r' (Chunk n)) (k.lent n) (neither (has out_key r'.outs (Chunk n)) (has debt_key r'.debts (Chunk n)) two.0) in
    rw (both (has out_key r.outs (Chunk n)) (has debt_key r.debts (Chunk n)) none, was (is_barred r n) (is_barred r' n) (k.barred n) two.1) refl
  where
    was : (x y : Bool) → (x ≡ true → y ≡ true) → not y ≡ true → not x ≡ true
    was false y f h = refl
    was true y f h = let h' = rw (f refl) at h in absurd (false≢true h')

    neither : (x y : Bool) → (not x && not y) ≡ true → not (x || y) ≡ true
    neither false y h = h
    neither true y h = absurd (false≢true h)

    both : (x y : Bool) → not (x || y) ≡ true → (not x && not y) ≡ true
    both false y h = h
    both true y h = absurd (false≢true h)

any_append : (t : List ℕ × ℕ → Bool) (l m : List (List ℕ × ℕ)) → list_any t l ≡ true → list_any t (l ++ m) ≡ true
any_append t [] m h = absurd (false≢true h)
any_append t (x ∷ xs) m h = by_cases (t x) (λ k. rw k refl) (λ k. let h' = rw k at h in rw k (any_append t xs m h'))

-- ---- a settled deal places a marked chunk, or releases one

abbrev pub settles_marked : State → Option Deal → Bool
settles_marked s None = false
settles_marked s (Some d) = elim d.what [ Fresh name ↦ own_marked s.own name | Swap name numbers ↦ own_marked s.own name | _ ↦ false ]

abbrev pub settles_release : Option Deal → Bool
settles_release None = false
settles_release (Some d) = elim d.what [ Cancel name numbers ↦ true | PutBack name first ↦ true | _ ↦ false ]

-- so may a probe that passed give one back
abbrev pub places_marked : State → Change → Bool
places_marked s (Settled x) = settles_marked s (row s x.peer).pending
places_marked s (Passed x) = true
places_marked s _ = false

-- and a discard may use up what a chunk is owed
abbrev pub releases : State → Change → Bool
releases s (Settled x) = settles_release (row s x.peer).pending
releases s (Discarded x) = true
releases s _ = false

settle_marks : (test : List ℕ → Bool) (s : State) (r : Row) (o : Option Deal) (numbers : List ℕ) → settles_marked s o ≡ false → none_marked test s.own r.outs ≡ true → none_marked test s.own (after_move (settle_move s r o numbers) r).outs ≡ true
settle_marks test s r None numbers m h = none_left test s.own [] r.outs h
settle_marks test s r (Some d) numbers m h = by_what d.what m
  where
    by_what : (what : DealWhat) → elim what [ Fresh name ↦ own_marked s.own name | Swap name mine ↦ own_marked s.own name | _ ↦ false ] ≡ false → none_marked test s.own (after_move (settle_move s r (Some (record { number = d.number; what = what })) numbers) r).outs ≡ true
    by_what (Fresh name) m = none_placed test s.own name (units (own_len s.own name)) (without out_key [] r.outs) m (none_left test s.own [] r.outs h)
    by_what (Swap name mine) m = none_placed test s.own name (units (own_len s.own name)) (without out_key (slots mine) r.outs) m (none_left test s.own (slots mine) r.outs h)
    by_what (Cancel name theirs) m = none_left test s.own (Chunk name ∷ []) r.outs h
    by_what (PutBack name first) m = none_slots test s.own first (units_at out_key out_size r.outs (Chunk name)) (without out_key (Chunk name ∷ []) r.outs) (none_left test s.own (Chunk name ∷ []) r.outs h)
    by_what (Forward slot entry) m = none_left test s.own [] r.outs h
    by_what (Return slot) m = none_left test s.own [] r.outs h

none_there : {E : Type 0} (t : E → Bool) (l : List E) → filter (λ e. false) l ≡ []
none_there t [] = refl
none_there t (e ∷ es) = none_there t es

-- nothing of debt is returned, and no chunk goes
pub quiet : (m : Move) (r : Row) (n : List ℕ) → m.used_up ≡ 0 → listed m.out_gone (Chunk n) ≡ false → m.returned ≡ still.returned → lent r (Chunk n) ≡ true → lent (after_move m r) (Chunk n) ≡ true
quiet m r n unused stays none h = lends m r (Chunk n)
    (record {
      unused = unused;
      gone = λ out gone. absurd (false≢true (sym stays ∙ gone));
      returned = λ k. absurd (false≢true (ap (λ l. has debt_key l (Chunk n)) (sym (ap (λ (t : DebtEntry → Bool). filter t r.debts) none ∙ none_there still.returned r.debts)) ∙ k));
    }) h

settle_keeps : (s : State) (r : Row) (o : Option Deal) (numbers : List ℕ) (r' : Row) (n : List ℕ) → settles_release o ≡ false → lent r' (Chunk n) ≡ true → lent (after_move (settle_move s r o numbers) r') (Chunk n) ≡ true
settle_keeps s r None numbers r' n m h = quiet (settle_move s r None numbers) r' n refl refl refl h
settle_keeps s r (Some d) numbers r' n m h = by_what d.what m
  where
    by_what : (what : DealWhat) → elim what [ Cancel name theirs ↦ true | PutBack name first ↦ true | _ ↦ false ] ≡ false → lent (after_move (settle_move s r (Some (record { number = d.number; what = what })) numbers) r') (Chunk n) ≡ true
    by_what (Fresh name) m = quiet (settle_move s r (Some (record { number = d.number; what = Fresh name })) numbers) r' n refl refl refl h
    by_what (Swap name mine) m = quiet (settle_move s r (Some (record { number = d.number; what = Swap name mine })) numbers) r' n refl (no_chunk mine n) refl h
    by_what (Cancel name theirs) m = absurd (false≢true (sym m))
    by_what (PutBack name first) m = absurd (false≢true (sym m))
    by_what (Forward slot entry) m = quiet (settle_move s r (Some (record { number = d.number; what = Forward slot entry })) numbers) r' n refl refl refl h
    by_what (Return slot) m = quiet (settle_move s r (Some (record { number = d.number; what = Return slot })) numbers) r' n refl refl refl h

-- ---- the row of the peer

row_marks : (test : List ℕ → Bool) (s : State) (c : Change) (p : ℕ) → peer_of c ≡ Some p → places_marked s c ≡ false → none_marked test s.own (row s p).outs ≡ true → none_marked test s.own (changed s c (row s p)).outs ≡ true
row_marks test s (Begun x) p e m h = absurd (cc (e))
row_marks test s (Kept x) p e m h = absurd (cc (e))
row_marks test s (Snapped x) p e m h = absurd (cc (e))
row_marks test s (Forgot x) p e m h = absurd (cc (e))
row_marks test s (Chose x) p e m h = absurd (cc (e))
row_marks test s (TookFresh x) p e m h = none_slots test s.own x.first (units x.len) (without out_key [] (row s p).outs) (none_left test s.own [] (row s p).outs h)
row_marks test s (LetGo x) p e m h = none_left test s.own (slots x.slots) (row s p).outs h
row_marks test s (Settled y) p e m h =
    let same : y.peer ≡ p = cc (e) in
    let m' = subst (λ x. settles_marked s (row s x).pending ≡ false) same m in
    subst (λ x. none_marked test s.own (after_move (settle_move s (row s x) (row s x).pending y.slots) (row s p)).outs ≡ true) (sym same) (settle_marks test s (row s p) (row s p).pending y.slots m' h)
row_marks test s (Passed x) p e m h = absurd (false≢true (sym m))
row_marks test s (Failed x) p e m h = none_left test s.own x.objects (row s p).outs h
row_marks test s (Declined x) p e m h = none_left test s.own (declined_objects s x.peer x.asked x.places) (row s p).outs h
row_marks test s _ p e m h = none_left test s.own [] (row s p).outs h

-- what a change notes leaves what is there and what is lost
pub noted_lent : (s : State) (c : Change) (r : Row) (n : List ℕ) → lent (after_move (move_of s c) r) (Chunk n) ≡ true → lent (changed s c r) (Chunk n) ≡ true
noted_lent s c r n h =
    let lists = note_lists s c (after_move (move_of s c) r) in
    ap (λ l. has out_key l (Chunk n) || has debt_key (changed s c r).debts (Chunk n)) lists.outs
    ∙ ap (λ l. has out_key (after_move (move_of s c) r).outs (Chunk n) || has debt_key l (Chunk n)) lists.debts ∙ h

still_barred : (s : State) (c : Change) (r : Row) (n : List ℕ) → is_barred r n ≡ true → is_barred (changed s c r) n ≡ true
still_barred s (Turned y) r n h = by_cases (nat_le 2 y.why && nat_le y.why 4) (λ k. rw k (any_append (λ (x : List ℕ × ℕ). name_eq x.0 n) r.barred _ h)) (λ k. rw k h)
still_barred s (Passed y) r n h = by_cases (y.asked == 0) (λ k. rw k h) (λ k. rw k h)
still_barred s (TookFresh x) r n h = h
still_barred s (TookSwap x) r n h = h
still_barred s (LetGo x) r n h = h
still_barred s (LetGoBack x) r n h = h
still_barred s (Replaced x) r n h = h
still_barred s (Refused x) r n h = h
still_barred s (Proposed x) r n h = h
still_barred s (Settled x) r n h = h
still_barred s (Asked x) r n h = h
still_barred s (Failed x) r n h = h
still_barred s (Declined x) r n h = h
still_barred s (Discarded x) r n h = h
still_barred s _ r n h = h

-- what is lost is booked
loses_keeps : (s : State) (declined : Bool) (objects : List Object) (r : Row) (n : List ℕ) → lent r (Chunk n) ≡ true → lent (after_move (loses s.changes declined objects r) r) (Chunk n) ≡ true
loses_keeps s declined objects r n h = lends (loses s.changes declined objects r) r (Chunk n)
    (record {
      unused = refl;
      gone = λ out gone. lost_has s.changes declined objects r.outs (Chunk n) gone out;
      returned = λ k. absurd (false≢true (ap (λ l. has debt_key l (Chunk n)) (sym (none_there still.returned r.debts)) ∙ k));
    }) h

pub row_lends : (s : State) (c : Change) (p : ℕ) (n : List ℕ) → peer_of c ≡ Some p → releases s c ≡ false → lent (row s p) (Chunk n) ≡ true → lent (after_move (move_of s c) (row s p)) (Chunk n) ≡ true
row_lends s (LetGo x) p n e m h = quiet (move_of s (LetGo x)) (row s p) n refl (no_chunk x.slots n) refl h
row_lends s (Settled y) p n e m h =
    let same : y.peer ≡ p = cc (e) in
    let m' = subst (λ x. settles_release (row s x).pending ≡ false) same m in
    subst (λ x. lent (after_move (settle_move s (row s x) (row s x).pending y.slots) (row s p)) (Chunk n) ≡ true) (sym same) (settle_keeps s (row s p) (row s p).pending y.slots (row s p) n m' h)
row_lends s (Passed y) p n e m h =
    let same : y.peer ≡ p = cc (e) in
    subst (λ x. lent (after_move (move_of s (Passed (record y { peer = x }))) (row s p)) (Chunk n) ≡ true) (sym same)
    (lends (move_of s (Passed (record y { peer = p }))) (row s p) (Chunk n) (record { unused = refl; gone = λ out gone. absurd (false≢true gone); returned = returns_lent y.objects (row s p) (Chunk n) }) h)
row_lends s (Failed y) p n e m h =
    let same : y.peer ≡ p = cc (e) in
    subst (λ x. lent (after_move (loses s.changes false y.objects (row s x)) (row s p)) (Chunk n) ≡ true) (sym same) (loses_keeps s false y.objects (row s p) n h)
row_lends s (Declined y) p n e m h =
    let same : y.peer ≡ p = cc (e) in
    subst (λ x. lent (after_move (loses s.changes true (declined_objects s y.peer y.asked y.places) (row s x)) (row s p)) (Chunk n) ≡ true) (sym same) (loses_keeps s true (declined_objects s y.peer y.asked y.places) (row s p) n h)
row_lends s (Discarded x) p n e m h = absurd (false≢true (sym m))
row_lends s c p n e m h = quiet (move_of s c) (row s p) n refl refl refl h

row_keeps : (s : State) (c : Change) (p : ℕ) → peer_of c ≡ Some p → releases s c ≡ false → RowKeeps (row s p) (changed s c (row s p))
row_keeps s c p e m = record { lent = λ n h. noted_lent s c (row s p) n (row_lends s c p n e m h); barred = λ n h. still_barred s c (row s p) n h }

-- ---- states of entries do not matter

marked_bare : (test : List ℕ → Bool) (own : List OwnEntry) (r : Row) → none_marked test own (bare r).outs ≡ none_marked test own r.outs
marked_bare test own r = all_bare bare_out (λ (e : OutEntry). elim e.object [ Chunk n ↦ not (test n && own_marked own n) | Slot n ↦ true ]) (λ e. refl) r.outs

absent_bare : (r : Row) (n : List ℕ) → is_absent (bare r) n ≡ is_absent r n
absent_bare r n =
    ap (λ b. not b && not (has debt_key (bare r).debts (Chunk n)) && not (is_barred r n)) (has_bare out_key bare_out (λ e. refl) r.outs (Chunk n))
    ∙ ap (λ b. not (has out_key r.outs (Chunk n)) && not b && not (is_barred r n)) (has_bare debt_key bare_debt (λ e. refl) r.debts (Chunk n))

absent_same : (r r' : Row) (n : List ℕ) → bare r ≡ bare r' → is_absent r n ≡ is_absent r' n
absent_same r r' n e = sym (absent_bare r n) ∙ ap (λ x. is_absent x n) e ∙ absent_bare r' n

-- ---- the state after a change that leaves own chunks and snapshots, but for what is given up

fewer_marked : (s : State) (c : Change) (n : List ℕ) → IsSteady s → own_after s c ≡ s.own → own_marked (after s c).own n ≡ true → own_marked s.own n ≡ true
fewer_marked s c n plain same h = marked_left _ s.own n plain.apart (ap (λ (l : List OwnEntry). own_marked (given_up (all_rows_after s c) l) n) (sym same) ∙ h)

missing_left : (test : OwnEntry → Bool) (s : State) (c : Change) (q : ℕ) → own_after s c ≡ s.own → kept_after s c ≡ s.kept → ((n : List ℕ) → is_absent (row (after s c) q) n ≡ true → is_absent (row s q) n ≡ true) → none_missing test s q ≡ true → none_missing test (after s c) q ≡ true
missing_left test s c q own kept before h =
    let wanted : (n : List ℕ) → is_wanted (after s c) n ≡ is_wanted s n = λ n. ap (λ k. is_wanted (record s { kept = k }) n) kept in
    let was : (n : List ℕ) → is_missing (after s c) q n ≡ true → is_missing s q n ≡ true = λ n m.
    let two = and_parts (is_wanted (after s c) n) (is_absent (row (after s c) q) n) m in rw (sym (wanted n) ∙ two.0, before n two.1) refl in
    subst (λ (l : List OwnEntry). list_all (λ (e : OwnEntry). not (test e && is_missing (after s c) q e.name)) (given_up (all_rows_after s c) l) ≡ true) (sym own)
    (all_kept (λ (e : OwnEntry). not (test e && is_missing (after s c) q e.name)) _ s.own
    (all_less (λ (e : OwnEntry). not (test e && is_missing s q e.name)) (λ (e : OwnEntry). not (test e && is_missing (after s c) q e.name)) s.own (λ e m. less (test e) (is_missing s q e.name) (is_missing (after s c) q e.name) (was e.name) m) h))

-- ---- after a change of a peer, for that peer and any other

pub still_unmarked : (test : List ℕ → Bool) (s : State) (c : Change) (p q : ℕ) → IsSteady s → peer_of c ≡ Some p → is_peer s p ≡ true → own_after s c ≡ s.own → ((p == q) ≡ true → places_marked s c ≡ false) → none_marked test s.own (row s q).outs ≡ true → none_marked test (after s c).own (row (after s c) q).outs ≡ true
still_unmarked test s c p q steady e here own m h =
    marks_fewer test s.own (after s c).own (row (after s c) q).outs (λ n k. fewer_marked s c n steady own k)
    (sym (marked_bare test s.own (row (after s c) q))
    ∙ ap (λ (r : Row). none_marked test s.own r.outs) (row_bare s c p q e here)
    ∙ marked_bare test s.own (cond (p == q) (changed s c (row s q)) (row s q))
    ∙ by_cases (p == q)
    (λ k. let same : p ≡ q = eqb-true p q k in rw k (subst (λ x. none_marked test s.own (changed s c (row s x)).outs ≡ true) same (row_marks test s c p e (m k) (subst (λ x. none_marked test s.own (row s x).outs ≡ true) (sym same) h))))
    (λ k. rw k h))

pub still_not_missing : (test : OwnEntry → Bool) (s : State) (c : Change) (p q : ℕ) → peer_of c ≡ Some p → is_peer s p ≡ true → own_after s c ≡ s.own → kept_after s c ≡ s.kept → ((p == q) ≡ true → releases s c ≡ false) → none_missing test s q ≡ true → none_missing test (after s c) q ≡ true
still_not_missing test s c p q e here own kept m h =
    missing_left test s c q own kept
    (λ n k. let before = sym (absent_same (row (after s c) q) (cond (p == q) (changed s c (row s q)) (row s q)) n (row_bare s c p q e here)) ∙ k in
    by_cases (p == q)
    (λ j. let same : p ≡ q = eqb-true p q j in
    absent_before (row s q) (changed s c (row s q)) n (subst (λ x. RowKeeps (row s x) (changed s c (row s x))) same (row_keeps s c p e (m j))) (rw j at before))
    (λ j. rw j at before))
    h

-- and after one of no peer that leaves rows, own chunks and snapshots
pub chosen_unmarked : (test : List ℕ → Bool) (s : State) (c : Change) (q : ℕ) → IsSteady s → own_after s c ≡ s.own → all_rows_after s c ≡ s.rows → none_marked test s.own (row s q).outs ≡ true → none_marked test (after s c).own (row (after s c) q).outs ≡ true
chosen_unmarked test s c q plain own rows h =
    marks_fewer test s.own (after s c).own (row (after s c) q).outs (λ n k. fewer_marked s c n plain own k)
    (subst (λ (l : List (ℕ × Row)). none_marked test s.own (row_in l q).outs ≡ true) (sym rows) h)

pub chosen_not_missing : (test : OwnEntry → Bool) (s : State) (c : Change) (q : ℕ) → own_after s c ≡ s.own → kept_after s c ≡ s.kept → all_rows_after s c ≡ s.rows → none_missing test s q ≡ true → none_missing test (after s c) q ≡ true
chosen_not_missing test s c q own kept rows h = missing_left test s c q own kept (λ n k. ap (λ (l : List (ℕ × Row)). is_absent (row_in l q) n) (sym rows) ∙ k) h
