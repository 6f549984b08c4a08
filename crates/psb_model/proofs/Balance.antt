-- Every valid history leaves every row tidy, so what is owed is what is owed back plus debt.
use Rattle.std.proofs.Common.{◌≡◌, ℕ, zero, suc, ◌*◌, ◌<◌, ◌≤◌, true, false, not, ◌&&◌, ◌||◌, ltb, List, [], ◌∷◌, ◌++◌, length, Option, Some, None, refl, sym, ap, ◌∙◌, subst, arith}
use Rattle.std.specs.Prelude.{◌==◌, nat_lt}
use Rattle.std.proofs.lemmas.Bool.{false≢true, eqb-true, ltb-true, and_parts}
use Rattle.psb_bytes.specs.declared.ids.Object.{Object}
use Rattle.psb_model.specs.declared.entries.OwnEntry.{OwnEntry}
use Rattle.psb_model.specs.declared.deals.Deal.{Deal}
use Rattle.psb_model.specs.declared.deals.DealWhat.{DealWhat}
use Rattle.psb_model.specs.declared.deals.DealWhat.TheVariants.{Fresh, Swap, Cancel, PutBack, Forward, Return}
use Rattle.psb_model.specs.declared.change.Change.{Change}
use Rattle.psb_model.specs.declared.change.Change.TheVariants.{Begun, Kept, Snapped, Forgot, TookFresh, TookSwap, LetGo, LetGoBack, Replaced, Refused, Proposed, Settled, Turned, Asked, Passed, Failed, Declined, Discarded, Chose}
use Rattle.psb_model.specs.Conditions.{settings_of_body, allowed, asked_objects, at_places, declined_objects, is_begun, of_a_peer, peer_of, tests}
use Rattle.psb_model.specs.Effects.{after, all_rows_after, deal_name, disturbed, given_up, issued_after, issued_with, kept_lists, loosen, move_of, note_of, own_after, rows_after, states_of}
use Rattle.psb_model.specs.Grammar.{numbers_listed, ascend, body_fits, in_grammar}
use Rattle.psb_model.specs.History.{Balances, is_lawful, lawful_from, state, state_from}
use Rattle.psb_model.specs.Move.{after_move, still}
use Rattle.psb_model.specs.State.{Row, State, at_row, blank, has_row, is_peer, nothing_yet, own_has, row, row_in, tied_out}
use Rattle.psb_model.specs.Words.{all_of, listed, object_eq, objects_distinct, units}
use Rattle.std.specs.Prelude.{slice_get, option_to_list}
use Rattle.psb_model.proofs.ByObject.{by_cases}
use Rattle.psb_model.proofs.Parts.{numbers_ascend, objects_apart, each-listed}
use Rattle.psb_model.proofs.Tidy.{IsTidy, Weighs, weighs, tidy_still}
use Rattle.psb_model.proofs.Standing.{StandsFor}
use Rattle.psb_model.proofs.Rows.{row_in-first_rows, Alike, tidy_alike, stands_alike, AlikeRows, alike_rows_then, states_alike, loosen_alike, note_lists, tidy_lists, stands_lists, row_in-at_row, row_in-at_other, has_row-at_row, tidy_blank, tidy_later, stands_later}
use Rattle.psb_model.proofs.Steps.{parts, Step, Before, same_stands, step_fresh, step_swap, step_let_go, step_let_go_back, step_loses, step_gives_back, step_discards, step_proposes, step_settles}
use Rattle.psb_model.proofs.Own.{KeepsName, keeps_then, named_keeps, IsUnmarked, unmarked_stays, own_after_keeps, wanted_after, pending_named}

-- PLACES that ascend, of a list of distinct objects, name distinct objects
not_listed_at : (os : List Object) (x y : Object) (k : ℕ) → listed os x ≡ false → slice_get os k ≡ Some y → object_eq y x ≡ false
not_listed_at [] x y k h e = cc
not_listed_at (o ∷ os) x y zero h e = let same : o ≡ y = cc in by_cases (object_eq o x) (λ j. absurd (false≢true (sym h ∙ rw j refl))) (λ j. ap (λ z. object_eq z x) (sym same) ∙ j)
not_listed_at (o ∷ os) x y (suc k) h e = not_listed_at os x y k (by_cases (object_eq o x) (λ j. absurd (false≢true (sym h ∙ rw j refl))) (λ j. rw j at h)) e

apart_at : (os : List Object) (i j : ℕ) (x y : Object) → objects_distinct os ≡ true → i < j → slice_get os i ≡ Some x → slice_get os j ≡ Some y → object_eq y x ≡ false
apart_at [] i j x y d lt a b = cc
apart_at (o ∷ os) i zero x y d lt a b = absurd (omega arith)
apart_at (o ∷ os) zero (suc j) x y d lt a b =
    let both = and_parts (not (listed os o)) (objects_distinct os) d in
    let same : o ≡ x = cc in
    not_listed_at os x y j (ap (listed os) (sym same) ∙ Rattle.psb_model.proofs.Steps.not_true (listed os o) both.0) b
apart_at (o ∷ os) (suc i) (suc j) x y d lt a b = apart_at os i j x y (and_parts (not (listed os o)) (objects_distinct os) d).1 (omega arith) a b

-- every place of the list is above i
abbrev AllAbove : ℕ → List ℕ → Type 0
AllAbove i [] = Unit {0}
AllAbove i (k ∷ ks) = (i < k) × AllAbove i ks

ascend_above : (k : ℕ) (ks : List ℕ) (i : ℕ) → i ≤ k → ascend (k ∷ ks) ≡ true → AllAbove i ks
ascend_above k [] i le h = tt
ascend_above k (m ∷ ms) i le h =
    let both = and_parts (ltb k m) (ascend (m ∷ ms)) h in
    let lt : k < m = ltb-true k m both.0 in
    (omega arith, ascend_above m ms i (omega arith) both.1)

lists_none : (os : List Object) (i : ℕ) (x : Object) (ks : List ℕ) → objects_distinct os ≡ true → slice_get os i ≡ Some x → AllAbove i ks → listed (at_places os ks) x ≡ false
lists_none os i x [] d e a = refl
lists_none os i x (k ∷ ks) d e a = by_get (slice_get os k) refl (lists_none os i x ks d e a.1)
  where
    by_get : (g : Option Object) → slice_get os k ≡ g → listed (at_places os ks) x ≡ false → listed (option_to_list (slice_get os k) ++ at_places os ks) x ≡ false
    by_get None is ih = rw is ih
    by_get (Some y) is ih = rw (is, apart_at os i k x y d a.0 e is) ih

places_distinct : (os : List Object) (ks : List ℕ) → objects_distinct os ≡ true → ascend ks ≡ true → objects_distinct (at_places os ks) ≡ true
places_distinct os [] d h = refl
places_distinct os (k ∷ ks) d h = by_get (slice_get os k) refl (places_distinct os ks d (tail k ks h))
  where
    tail : (k : ℕ) (ks : List ℕ) → ascend (k ∷ ks) ≡ true → ascend ks ≡ true
    tail k [] h = refl
    tail k (m ∷ ms) h = (and_parts (ltb k m) (ascend (m ∷ ms)) h).1

    by_get : (g : Option Object) → slice_get os k ≡ g → objects_distinct (at_places os ks) ≡ true → objects_distinct (option_to_list (slice_get os k) ++ at_places os ks) ≡ true
    by_get None is ih = rw is ih
    by_get (Some x) is ih = rw is (rw (lists_none os k x ks d is (ascend_above k ks k (omega arith) h)) ih)

-- GOOD STATES
pub record Good (s : State) : Type 0 where
  pub rows : (p : ℕ) → Before s p
  pub asked : (p : ℕ) (a : ℕ × List Object) → (row s p).asked ≡ Some a → objects_distinct a.1 ≡ true
  pub wanted : (n : List ℕ) → kept_lists s.kept n ≡ true → IsUnmarked s.own n

pub declined_distinct : (s : State) (p asked : ℕ) (places : List ℕ) → ((a : ℕ × List Object) → (row s p).asked ≡ Some a → objects_distinct a.1 ≡ true) → ascend places ≡ true → objects_distinct (declined_objects s p asked places) ≡ true
declined_distinct s p asked places f asc = by_asked (row s p).asked refl
  where
    by_number : (a : ℕ × List Object) → objects_distinct a.1 ≡ true → objects_distinct (elim (asked_objects (Some a) asked) [ None ↦ [] | Some os ↦ at_places os places ]) ≡ true
    by_number a d = by_cases (a.0 == asked) (λ k. rw k (places_distinct a.1 places d asc)) (λ k. rw k refl)

    by_asked : (o : Option (ℕ × List Object)) → (row s p).asked ≡ o → objects_distinct (declined_objects s p asked places) ≡ true
    by_asked None e = subst (λ o. objects_distinct (elim (asked_objects o asked) [ None ↦ [] | Some os ↦ at_places os places ]) ≡ true) (sym e) refl
    by_asked (Some a) e = subst (λ o. objects_distinct (elim (asked_objects o asked) [ None ↦ [] | Some os ↦ at_places os places ]) ≡ true) (sym e) (by_number a (f a e))

-- a step whose lists stay
still_step : (s : State) (p : ℕ) → Before s p → (IsTidy s.issued (after_move still (row s p))) × ((d : Deal) → (row s p).pending ≡ Some d → StandsFor s.issued s.own (after_move still (row s p)) d.what) × Weighs (row s p) still
still_step s p b = (tidy_still s.issued (row s p) b.tidy, same_stands s p s.issued (omega arith) b, weighs (row s p) still refl refl (omega arith))

abbrev pub ForPeer : (ℕ → Type 0) → Option ℕ → Type 0
ForPeer P None = Unit {0}
ForPeer P (Some p) = P p

pub steps : (s : State) (c : Change) → Good s → in_grammar c ≡ true → all_of (tests s c) ≡ true → ForPeer (Step s c) (peer_of c)
steps s (Begun x) g gr h = tt
steps s (Kept x) g gr h = tt
steps s (Snapped x) g gr h = tt
steps s (Forgot x) g gr h = tt
steps s (Chose x) g gr h = tt
steps s (TookFresh x) g gr h = step_fresh s x.peer x.deal x.name x.first x.len x.new x.body (g.rows x.peer) h
steps s (TookSwap x) g gr h = step_swap s x.peer x.deal x.name x.slots x.len x.new x.body (g.rows x.peer) gr h
steps s (LetGo x) g gr h = step_let_go s x.peer x.deal x.name x.slots (g.rows x.peer) (numbers_ascend x.slots gr) h
steps s (LetGoBack x) g gr h = step_let_go_back s x.peer x.deal x.name x.slots x.body (g.rows x.peer) (numbers_ascend x.slots (and_parts (body_fits (512 * length x.slots) x.body) (numbers_listed x.slots) gr).1) h
steps s (Replaced y) g gr h = let x = still_step s y.peer (g.rows y.peer) in record { weighs = x.2; tidy = x.0; stands = x.1 }
steps s (Refused y) g gr h = let x = still_step s y.peer (g.rows y.peer) in record { weighs = x.2; tidy = x.0; stands = x.1 }
steps s (Proposed x) g gr h = step_proposes s x.peer x.deal x.what (g.rows x.peer) gr (λ n w. (g.wanted n w).has) h
steps s (Settled x) g gr h = step_settles s x.peer x.deal x.slots x.body (g.rows x.peer) (numbers_ascend x.slots (and_parts (body_fits (512 * length x.slots) x.body) (numbers_listed x.slots) gr).1) h
steps s (Turned y) g gr h = let x = still_step s y.peer (g.rows y.peer) in record { weighs = x.2; tidy = x.0; stands = λ d e. cc }
steps s (Asked y) g gr h = let x = still_step s y.peer (g.rows y.peer) in record { weighs = x.2; tidy = x.0; stands = x.1 }
steps s (Passed y) g gr h = let x = step_gives_back s y.peer y.objects (g.rows y.peer) in record { weighs = x.2; tidy = x.0; stands = by_cases (y.asked == 0) (λ k. rw k x.1) (λ k. rw k x.1) }
steps s (Failed z) g gr h =
    let ts = parts (tests s (Failed z)) h in
    let x = step_loses s z.peer false z.objects (g.rows z.peer) (objects_apart z.objects gr) (λ o. each-listed (λ y. not (tied_out s z.peer y)) z.objects o ts.1.1.1.1.0) in
    record { weighs = x.2; tidy = x.0; stands = x.1 }
steps s (Declined z) g gr h =
    let ts = parts (tests s (Declined z)) h in
    let os = declined_objects s z.peer z.asked z.places in
    let x = step_loses s z.peer true os (g.rows z.peer) (declined_distinct s z.peer z.asked z.places (g.asked z.peer) (numbers_ascend z.places gr)) (λ o. each-listed (λ y. not (tied_out s z.peer y)) os o ts.1.1.0) in
    record { weighs = x.2; tidy = x.0; stands = x.1 }
steps s (Discarded x) g gr h = step_discards s x.peer x.objects (g.rows x.peer) (objects_apart x.objects gr) h

-- what a note says of the pending deal depends on it alone
pub note_pending : (s : State) (c : Change) (r r' : Row) → r.pending ≡ r'.pending → (note_of s c r).pending ≡ (note_of s c r').pending
note_pending s (TookFresh x) r r' e = e
note_pending s (TookSwap x) r r' e = e
note_pending s (LetGo x) r r' e = e
note_pending s (LetGoBack x) r r' e = e
note_pending s (Replaced x) r r' e = e
note_pending s (Refused x) r r' e = e
note_pending s (Proposed x) r r' e = refl
note_pending s (Settled x) r r' e = refl
note_pending s (Turned x) r r' e = refl
note_pending s (Asked x) r r' e = e
note_pending s (Passed x) r r' e = by_cases (x.asked == 0) (λ k. rw k e) (λ k. rw k e)
note_pending s (Failed x) r r' e = e
note_pending s (Declined x) r r' e = e
note_pending s (Discarded x) r r' e = e
note_pending s _ r r' e = e

-- what is asked is in the grammar
note_asked : (s : State) (c : Change) (r : Row) → in_grammar c ≡ true → ((a : ℕ × List Object) → r.asked ≡ Some a → objects_distinct a.1 ≡ true) → (a : ℕ × List Object) → (note_of s c r).asked ≡ Some a → objects_distinct a.1 ≡ true
note_asked s (TookFresh x) r gr f = f
note_asked s (TookSwap x) r gr f = f
note_asked s (LetGo x) r gr f = f
note_asked s (LetGoBack x) r gr f = f
note_asked s (Replaced x) r gr f = f
note_asked s (Refused x) r gr f = f
note_asked s (Proposed x) r gr f = f
note_asked s (Settled x) r gr f = f
note_asked s (Turned x) r gr f = f
note_asked s (Asked y) r gr f = λ a e. let pair : ℕ × List Object = (s.changes, y.objects) in let same : pair ≡ a = cc in ap (λ (x : ℕ × List Object). objects_distinct x.1) (sym same) ∙ objects_apart y.objects gr
note_asked s (Passed x) r gr f = by_cases (x.asked == 0) (λ k. rw k f) (λ k. rw k (λ a e. cc))
note_asked s (Failed x) r gr f = by_cases (x.asked == 0) (λ k. rw k f) (λ k. rw k (λ a e. cc))
note_asked s (Declined x) r gr f = λ a e. cc
note_asked s (Discarded x) r gr f = f
note_asked s _ r gr f = f

issued_grows : (s : State) (c : Change) → s.issued ≤ issued_after s c
issued_grows s (TookFresh x) = omega arith
issued_grows s (Proposed x) = by_what x.what
  where
    by_what : (what : DealWhat) → s.issued ≤ issued_with s.issued (row s x.peer) what
    by_what (PutBack name first) = omega arith
    by_what _ = omega arith
issued_grows s _ = omega arith

-- the deal stands where own keeps its name
stands_own : (issued : ℕ) (own own' : List OwnEntry) (r : Row) (what : DealWhat) → ((n : List ℕ) → deal_name what ≡ n ∷ [] → own_has own n ≡ true → KeepsName own own' n) → StandsFor issued own r what → StandsFor issued own' r what
stands_own issued own own' r (Fresh name) f st = st
stands_own issued own own' r (Swap name numbers) f st = let k = f name refl st.owned in record { absent = st.absent; owned = k.has; long = st.long ∙ ap units (sym k.len); ascends = st.ascends; here = st.here }
stands_own issued own own' r (Cancel name numbers) f st = st
stands_own issued own own' r (PutBack name first) f st = st
stands_own issued own own' r (Forward slot entry) f st = tt
stands_own issued own own' r (Return slot) f st = tt

-- A row after a change, while own is as before.
pub record RowAfter (s : State) (c : Change) (r : Row) : Type 0 where
  pub tidy : IsTidy (issued_after s c) r
  pub stands : (d : Deal) → r.pending ≡ Some d → StandsFor (issued_after s c) s.own r d.what
  pub asked : (a : ℕ × List Object) → r.asked ≡ Some a → objects_distinct a.1 ≡ true

-- a row that only states of entries changed in
alike_after : (s : State) (c : Change) (q : ℕ) (r : Row) → Good s → Alike (row s q) r → RowAfter s c r
alike_after s c q r g a = record {
  tidy = tidy_later s.issued (issued_after s c) r (issued_grows s c) (tidy_alike s.issued (row s q) r a (g.rows q).tidy);
  stands = λ d e. stands_later s.issued (issued_after s c) s.own r d.what (issued_grows s c) (stands_alike s.issued s.own (row s q) r d.what a ((g.rows q).stands d (sym a.pending ∙ e)));
  asked = λ x e. g.asked q x (sym a.asked ∙ e);
}

noted_after : (s : State) (c : Change) (p : ℕ) (r : Row) → Good s → in_grammar c ≡ true → Step s c p → Alike (after_move (move_of s c) (row s p)) r → RowAfter s c (note_of s c r)
noted_after s c p r g gr st a =
    let lists = note_lists s c r in
    let m = after_move (move_of s c) (row s p) in
    record {
      tidy = tidy_lists (issued_after s c) r (note_of s c r) lists (tidy_alike (issued_after s c) m r a st.tidy);
      stands = λ d e. stands_lists (issued_after s c) s.own r (note_of s c r) d.what lists (stands_alike (issued_after s c) s.own m r d.what a (st.stands d (sym (note_pending s c r m a.pending) ∙ e)));
      asked = note_asked s c r gr (λ x e. g.asked p x (sym a.asked ∙ e));
    }

row_after : (s : State) (c : Change) (p q : ℕ) → Good s → in_grammar c ≡ true → Step s c p → is_peer s p ≡ true → RowAfter s c (row_in (rows_after s c p) q)
row_after s c p q g gr st peer =
    let first = at_row p (after_move (move_of s c)) s.rows in
    let second = loosen (disturbed s c) (states_of s c first) in
    let alike : AlikeRows first second = alike_rows_then first (states_of s c first) second (states_alike s c first) (loosen_alike (disturbed s c) (states_of s c first)) in
    by_cases (p == q)
    (λ k. let same : p ≡ q = eqb-true p q k in
    let has_p : has_row second p ≡ true = alike.peers p ∙ has_row-at_row p p (after_move (move_of s c)) s.rows ∙ peer in
    let a : Alike (after_move (move_of s c) (row s p)) (row_in second p) = subst (λ r. Alike r (row_in second p)) (row_in-at_row p (after_move (move_of s c)) s.rows peer) (alike.each p) in
    subst (λ x. RowAfter s c (row_in (rows_after s c p) x)) same (subst (RowAfter s c) (sym (row_in-at_row p (note_of s c) second has_p)) (noted_after s c p (row_in second p) g gr st a)))
    (λ k. let a : Alike (row s q) (row_in second q) = subst (λ r. Alike r (row_in second q)) (row_in-at_other p q (after_move (move_of s c)) s.rows k) (alike.each q) in
    subst (RowAfter s c) (sym (row_in-at_other p q (note_of s c) second k)) (alike_after s c q (row_in second q) g a))

-- the whole state after a change, from its rows
good_rows : (s : State) (c : Change) → Good s → all_of (tests s c) ≡ true → ((q : ℕ) → RowAfter s c (row_in (all_rows_after s c) q)) → Good (after s c)
good_rows s c g h f =
    let rows = all_rows_after s c in
    let own' = given_up rows (own_after s c) in
    record {
      rows = λ q. record {
        tidy = (f q).tidy;
        stands = λ d e. stands_own (issued_after s c) s.own own' (row_in rows q) d.what
            (λ n named has. let k = own_after_keeps s c n h has in keeps_then s.own (own_after s c) own' n k (named_keeps rows (own_after s c) n (pending_named rows q d n e named) k.has))
            ((f q).stands d e);
      };
      asked = λ q a e. (f q).asked a e;
      wanted = λ n w. unmarked_stays rows (own_after s c) n (wanted_after s c n g.wanted h w);
    }

of_peer : (s : State) (c : Change) (p : ℕ) → Good s → in_grammar c ≡ true → all_of (tests s c) ≡ true → is_peer s p ≡ true → Step s c p → (q : ℕ) → RowAfter s c (row_in (rows_after s c p) q)
of_peer s c p g gr h peer st q = row_after s c p q g gr st peer

unchanged : (s : State) (c : Change) → Good s → (q : ℕ) → RowAfter s c (row s q)
unchanged s c g q = record {
  tidy = tidy_later s.issued (issued_after s c) (row s q) (issued_grows s c) (g.rows q).tidy;
  stands = λ d e. stands_later s.issued (issued_after s c) s.own (row s q) d.what (issued_grows s c) ((g.rows q).stands d e);
  asked = g.asked q;
}

blank_after : (s : State) (c : Change) → RowAfter s c blank
blank_after s c = record { tidy = tidy_blank (issued_after s c); stands = λ d e. cc; asked = λ a e. cc }

each_row : (s : State) (c : Change) → Good s → in_grammar c ≡ true → of_a_peer s (peer_of c) ≡ true → all_of (tests s c) ≡ true → (q : ℕ) → RowAfter s c (row_in (all_rows_after s c) q)
each_row s (Begun x) g gr pe h q = subst (RowAfter s (Begun x)) (sym (row_in-first_rows (settings_of_body x.body) q)) (blank_after s (Begun x))
each_row s (Kept x) g gr pe h q = unchanged s (Kept x) g q
each_row s (Snapped x) g gr pe h q = unchanged s (Snapped x) g q
each_row s (Forgot x) g gr pe h q = unchanged s (Forgot x) g q
each_row s (Chose x) g gr pe h q = unchanged s (Chose x) g q
each_row s (TookFresh x) g gr pe h q = let c : Change = TookFresh x in of_peer s c x.peer g gr h pe (steps s c g gr h) q
each_row s (TookSwap x) g gr pe h q = let c : Change = TookSwap x in of_peer s c x.peer g gr h pe (steps s c g gr h) q
each_row s (LetGo x) g gr pe h q = let c : Change = LetGo x in of_peer s c x.peer g gr h pe (steps s c g gr h) q
each_row s (LetGoBack x) g gr pe h q = let c : Change = LetGoBack x in of_peer s c x.peer g gr h pe (steps s c g gr h) q
each_row s (Replaced x) g gr pe h q = let c : Change = Replaced x in of_peer s c x.peer g gr h pe (steps s c g gr h) q
each_row s (Refused x) g gr pe h q = let c : Change = Refused x in of_peer s c x.peer g gr h pe (steps s c g gr h) q
each_row s (Proposed x) g gr pe h q = let c : Change = Proposed x in of_peer s c x.peer g gr h pe (steps s c g gr h) q
each_row s (Settled x) g gr pe h q = let c : Change = Settled x in of_peer s c x.peer g gr h pe (steps s c g gr h) q
each_row s (Turned x) g gr pe h q = let c : Change = Turned x in of_peer s c x.peer g gr h pe (steps s c g gr h) q
each_row s (Asked x) g gr pe h q = let c : Change = Asked x in of_peer s c x.peer g gr h pe (steps s c g gr h) q
each_row s (Passed x) g gr pe h q = let c : Change = Passed x in of_peer s c x.peer g gr h pe (steps s c g gr h) q
each_row s (Failed x) g gr pe h q = let c : Change = Failed x in of_peer s c x.peer g gr h pe (steps s c g gr h) q
each_row s (Declined x) g gr pe h q = let c : Change = Declined x in of_peer s c x.peer g gr h pe (steps s c g gr h) q
each_row s (Discarded x) g gr pe h q = let c : Change = Discarded x in of_peer s c x.peer g gr h pe (steps s c g gr h) q

pub good_after : (s : State) (c : Change) → Good s → in_grammar c ≡ true → allowed s c ≡ true → Good (after s c)
good_after s c g gr al =
    let begun = is_begun c || nat_lt 0 s.changes in
    let two = and_parts (begun && of_a_peer s (peer_of c)) (all_of (tests s c)) al in
    let one = and_parts begun (of_a_peer s (peer_of c)) two.0 in
    good_rows s c g two.1 (each_row s c g gr one.1 two.1)

pub good_from : (s : State) (h : List Change) → Good s → lawful_from s h ≡ true → Good (state_from s h)
good_from s [] g v = g
good_from s (c ∷ cs) g v =
    let two = and_parts (in_grammar c && allowed s c) (lawful_from (after s c) cs) v in
    let one = and_parts (in_grammar c) (allowed s c) two.0 in
    good_from (after s c) cs (good_after s c g one.0 one.1) two.1

pub good_nothing : Good nothing_yet
good_nothing = record {
  rows = λ p. record { tidy = tidy_blank 0; stands = λ d e. cc };
  asked = λ p a e. cc;
  wanted = λ n w. absurd (false≢true w);
}

pub good_state : (h : List Change) → is_lawful h ≡ true → Good (state h)
good_state h v = good_from nothing_yet h good_nothing v

-- the law
pub balances : Balances
balances h p v = ((good_state h v).rows p).tidy.balanced
