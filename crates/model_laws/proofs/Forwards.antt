-- A Forward that is settled links an entry and a slot that nothing linked before, and a Return that is settled ends no link.
use Rattle.std.proofs.Common.{◌≡◌, ◌⊎◌, inl, inr, ℕ, ◌<◌, ◌≤◌, true, false, ltb, List, [], ◌∷◌, Some, refl, sym, ap, ◌∙◌, subst, arith}
use Rattle.std.specs.Prelude.{◌==◌}
use Rattle.std.proofs.lemmas.Bool.{false≢true, eqb-true, eq-eqb, ltb-true}
use Rattle.std.proofs.lemmas.Bool.Decides.{nat_tests}
use Rattle.psb_bytes.specs.declared.ids.Object.{Object}
use Rattle.psb_bytes.specs.declared.ids.Object.TheVariants.{Slot}
use Rattle.psb_bytes.specs.declared.ids.Seat.{Seat}
use Rattle.psb_model.specs.declared.entries.InState.{InState}
use Rattle.psb_model.specs.declared.entries.InState.TheVariants as at
use Rattle.psb_model.specs.declared.entries.OutState.{OutState}
use Rattle.psb_model.specs.declared.entries.OutState.TheVariants as on
use Rattle.psb_model.specs.declared.deals.Deal.{Deal}
use Rattle.psb_model.specs.declared.deals.DealWhat.{DealWhat}
use Rattle.psb_model.specs.declared.deals.DealWhat.TheVariants.{Fresh, Swap, Cancel, PutBack, Forward, Return}
use Rattle.psb_model.specs.Words.{listed, object_eq}
use Rattle.psb_model.specs.State.{Row, row_in, has_row, at_row, in_key, out_key, debt_key, in_ties}
use Rattle.psb_model.specs.Move.{still}
use Rattle.psb_model.specs.Effects.{relabel_in, relabel_out}
use Rattle.psb_model.proofs.ByObject.{by_cases, object_eq-same, object_eq-refl}
use Rattle.psb_model.proofs.Tidy.{IsTidy}
use Rattle.psb_model.proofs.Rows.{has_row-at_row}
use Rattle.model_laws.proofs.Marks.{At, at_once, at_occurs}
use Rattle.model_laws.proofs.Traces.{in_state, out_state, ins_of, outs_of, debts_of, Here, Out, Owed, There, seat_of, relabels_in, relabels_out, Marked, as_was, marked, marked_from, marked_other, marked_here, untouched, Moves, moved_rows, HereThen, here_stood, here_came, here_from, here_keeps, ThereThen, there_stood, there_loose, there_new, there_booked, there_from, out_keeps}
use Rattle.model_laws.proofs.Linking.{IsSeat, IsNamed, IsHeld, IsForwardReady, Ready, IsLinked, first_tie}

-- the deal of p is at its end, and the others are as before
abbrev pub Ends : List (ℕ × Row) → List (ℕ × Row) → ℕ → Type 0
Ends rows rows' p = (q : ℕ) (d : Deal) → (row_in rows' q).pending ≡ Some d → ((p == q) ≡ false) × ((row_in rows q).pending ≡ Some d)

-- nothing moves
still_here : (p : ℕ) (f : Row → Row) → Moves still f → (rows : List (ℕ × Row)) → has_row rows p ≡ true → (q : ℕ) (o : Object) (st : InState) → Here (moved_rows p f [] rows) q o st → Here rows q o st
still_here p f moves rows peer q o st h = one (here_from p still f moves [] rows peer q o st h)
  where
    one : HereThen rows p still q o st → Here rows q o st
    one (here_stood a b) = b
    one (here_came a) = absurd a.stands

still_there : (p : ℕ) (f : Row → Row) → Moves still f → (rows : List (ℕ × Row)) → has_row rows p ≡ true → (q : ℕ) (o : Object) (st : OutState) → There (moved_rows p f [] rows) q o st → There rows q o st
still_there p f moves rows peer q o st h = one (there_from p still f moves [] rows peer q o st h)
  where
    one : ThereThen rows p still [] q o st → There rows q o st
    one (there_stood a b) = b
    one (there_loose a b c) = absurd a.stands
    one (there_new k a) = absurd a.stands
    one (there_booked k a) = absurd a.stands

-- ---- a Forward

abbrev slot_carries : ℕ → ℕ → Seat → List (ℕ × Row) → List (ℕ × Row)
slot_carries p slot entry rows = at_row p (relabel_out (Slot slot) (on.Carries entry)) rows

abbrev pub linked_rows : ℕ → ℕ → Seat → List (ℕ × Row) → List (ℕ × Row)
linked_rows p slot entry rows = at_row entry.peer (relabel_in (Slot entry.slot) (at.Forwarded (seat_of p slot))) (slot_carries p slot entry rows)

forward_here : (p slot : ℕ) (entry : Seat) (rows : List (ℕ × Row)) (q : ℕ) (o : Object) (st : InState) → Here (linked_rows p slot entry rows) q o st → Marked in_key in_state (row_in rows q).ins (entry.peer == q) (Slot entry.slot) (at.Forwarded (seat_of p slot)) o st
forward_here p slot entry rows q o st h =
    let k : Object = Slot entry.slot in
    let s : InState = at.Forwarded (seat_of p slot) in
    let is = untouched ins_of p (relabel_out (Slot slot) (on.Carries entry)) (λ r. refl) rows q in
    subst (λ l. Marked in_key in_state l (entry.peer == q) k s o st) is (marked_from in_key in_state ins_of k s (relabel_in k s) (relabels_in k s) (slot_carries p slot entry rows) entry.peer q o st h)

forward_here_stays : (p slot : ℕ) (entry : Seat) (rows : List (ℕ × Row)) (q : ℕ) (o : Object) (st : InState) → Here rows q o st → ((entry.peer == q) ≡ true → object_eq o (Slot entry.slot) ≡ false) → Here (linked_rows p slot entry rows) q o st
forward_here_stays p slot entry rows q o st h other =
    let k : Object = Slot entry.slot in
    let s : InState = at.Forwarded (seat_of p slot) in
    let is = untouched ins_of p (relabel_out (Slot slot) (on.Carries entry)) (λ r. refl) rows q in
    marked_other in_key in_state ins_of k s (relabel_in k s) (relabels_in k s) (slot_carries p slot entry rows) entry.peer q o st (subst (λ l. At in_key in_state l o st) (sym is) h) other

forward_here_is : (p slot : ℕ) (entry : Seat) (rows : List (ℕ × Row)) (st : InState) → Here rows entry.peer (Slot entry.slot) st → Here (linked_rows p slot entry rows) entry.peer (Slot entry.slot) (at.Forwarded (seat_of p slot))
forward_here_is p slot entry rows st h =
    let k : Object = Slot entry.slot in
    let s : InState = at.Forwarded (seat_of p slot) in
    let is = untouched ins_of p (relabel_out (Slot slot) (on.Carries entry)) (λ r. refl) rows entry.peer in
    marked_here in_key in_state ins_of k s (relabel_in k s) (relabels_in k s) (slot_carries p slot entry rows) entry.peer entry.peer k st (subst (λ l. At in_key in_state l k st) (sym is) h) (eq-eqb entry.peer entry.peer refl) (object_eq-refl k)

forward_there : (p slot : ℕ) (entry : Seat) (rows : List (ℕ × Row)) (q : ℕ) (o : Object) (st : OutState) → There (linked_rows p slot entry rows) q o st → Marked out_key out_state (row_in rows q).outs (p == q) (Slot slot) (on.Carries entry) o st ⊎ Owed rows q o st
forward_there p slot entry rows q o st (inl h) =
    let k : Object = Slot slot in
    let s : OutState = on.Carries entry in
    let is = untouched outs_of entry.peer (relabel_in (Slot entry.slot) (at.Forwarded (seat_of p slot))) (λ r. refl) (slot_carries p slot entry rows) q in
    inl (marked_from out_key out_state outs_of k s (relabel_out k s) (relabels_out k s) rows p q o st (subst (λ l. At out_key out_state l o st) is h))
forward_there p slot entry rows q o st (inr h) =
    let is = untouched debts_of entry.peer (relabel_in (Slot entry.slot) (at.Forwarded (seat_of p slot))) (λ r. refl) (slot_carries p slot entry rows) q ∙ untouched debts_of p (relabel_out (Slot slot) (on.Carries entry)) (λ r. refl) rows q in
    inr (subst (λ l. At debt_key (λ d. d.state) l o st) is h)

forward_out_stays : (p slot : ℕ) (entry : Seat) (rows : List (ℕ × Row)) (q : ℕ) (o : Object) (st : OutState) → Out rows q o st → (p == q) ≡ false → Out (linked_rows p slot entry rows) q o st
forward_out_stays p slot entry rows q o st h other =
    let k : Object = Slot slot in
    let s : OutState = on.Carries entry in
    let is = untouched outs_of entry.peer (relabel_in (Slot entry.slot) (at.Forwarded (seat_of p slot))) (λ r. refl) (slot_carries p slot entry rows) q in
    subst (λ l. At out_key out_state l o st) (sym is) (marked_other out_key out_state outs_of k s (relabel_out k s) (relabels_out k s) rows p q o st h (λ j. absurd (false≢true (sym other ∙ j))))

-- what stands in out(p) has a number that was drawn
drawn_there : (issued : ℕ) (rows : List (ℕ × Row)) (p n : ℕ) (st : OutState) → IsTidy issued (row_in rows p) → Out rows p (Slot n) st → n < issued
drawn_there issued rows p n st t h =
    by_cases (ltb n issued)
    (λ k. ltb-true n issued k)
    (λ k. let low : issued ≤ n = not_less n issued k in
    absurd (omega (arith, t.below n low, at_occurs out_key out_state (row_in rows p).outs (Slot n) st h)))
  where
    not_less : (a b : ℕ) → ltb a b ≡ false → b ≤ a
    not_less a b h = grind (arith, nat_tests)

-- the settled Forward, over rows of which it is one
pub forward_linked : (issued : ℕ) (rows rows' : List (ℕ × Row)) (p slot number : ℕ) (entry : Seat) (f : Row → Row) → Moves still f → has_row rows p ≡ true → ((q : ℕ) → IsTidy issued (row_in rows q)) → (row_in rows p).pending ≡ Some (record { number = number; what = Forward slot entry }) → rows' ≡ moved_rows p f [] (linked_rows p slot entry rows) → Ends rows rows' p → IsLinked issued rows → IsLinked issued rows'
forward_linked issued rows rows' p slot number entry f moves peer tidy pending is ends l =
    record { seats = seats; names = names; holds = holds; ready = λ q d e. readies q d (ends q d e).0 (ends q d e).1; apart = λ q r d e k j x o a b. l.apart q r d e (ends q d k).1 (ends r e j).1 x o a b }
  where
    deal : Deal
    deal = record { number = number; what = Forward slot entry }

    k : Object
    k = Slot entry.slot

    mid : List (ℕ × Row)
    mid = linked_rows p slot entry rows

    mid_peer : has_row mid p ≡ true
    mid_peer = has_row-at_row entry.peer p (relabel_in (Slot entry.slot) (at.Forwarded (seat_of p slot))) (slot_carries p slot entry rows) ∙ has_row-at_row p p (relabel_out (Slot slot) (on.Carries entry)) rows ∙ peer

    found : IsForwardReady rows p slot entry
    found = l.ready p deal pending

    here_was : (q : ℕ) (o : Object) (st : InState) → Here rows' q o st → Marked in_key in_state (row_in rows q).ins (entry.peer == q) k (at.Forwarded (seat_of p slot)) o st
    here_was q o st h = forward_here p slot entry rows q o st (still_here p f moves mid mid_peer q o st (subst (λ y. Here y q o st) is h))

    there_was : (q : ℕ) (o : Object) (st : OutState) → There rows' q o st → Marked out_key out_state (row_in rows q).outs (p == q) (Slot slot) (on.Carries entry) o st ⊎ Owed rows q o st
    there_was q o st h = forward_there p slot entry rows q o st (still_there p f moves mid mid_peer q o st (subst (λ y. There y q o st) is h))

    here_then : (q : ℕ) (o : Object) (st : InState) → Here mid q o st → Here rows' q o st
    here_then q o st h = subst (λ y. Here y q o st) (sym is) (here_keeps p still f moves [] mid mid_peer q o st h (λ j. refl))

    here_stays : (q : ℕ) (o : Object) (st : InState) → Here rows q o st → ((entry.peer == q) ≡ true → object_eq o k ≡ false) → Here rows' q o st
    here_stays q o st h other = here_then q o st (forward_here_stays p slot entry rows q o st h other)

    out_stays : (q : ℕ) (o : Object) (st : OutState) → Out rows q o st → (p == q) ≡ false → Out rows' q o st
    out_stays q o st h other = subst (λ y. Out y q o st) (sym is) (out_keeps p still f moves [] mid mid_peer q o st (forward_out_stays p slot entry rows q o st h other) (λ hit. hit.stands) (λ j. refl))

    -- nothing was forwarded to the slot
    free : (q : ℕ) (o : Object) → Here rows q o (at.Forwarded (seat_of p slot)) → ⊥
    free q o h = let n = l.names q o (seat_of p slot) on.Own h (inl found.slot_is) in cc (n.carries)

    seats : (q : ℕ) (o : Object) (seat : Seat) → Here rows' q o (at.Forwarded seat) → IsSeat issued rows' o seat
    seats q o seat h = one (here_was q o (at.Forwarded seat) h)
      where
        one : Marked in_key in_state (row_in rows q).ins (entry.peer == q) k (at.Forwarded (seat_of p slot)) o (at.Forwarded seat) → IsSeat issued rows' o seat
        one (as_was other a) = let s = l.seats q o seat a in record { slot = s.slot; here = s.here; drawn = s.drawn; before = λ d e. s.before d (ends seat.peer d e).1 }
        one (marked j same st was) =
            let seat_is : seat_of p slot ≡ seat = let e = sym st in cc (e) in
            subst (IsSeat issued rows' o) seat_is
            (record {
              slot = entry.slot;
              here = object_eq-same o k same;
              drawn = drawn_there issued rows p slot on.Own (tidy p) found.slot_is;
              before = λ d e. absurd (false≢true (sym (ends p d e).0 ∙ eq-eqb p p refl));
            })

    names : (q : ℕ) (o : Object) (seat : Seat) (st : OutState) → Here rows' q o (at.Forwarded seat) → There rows' seat.peer (Slot seat.slot) st → IsNamed q o st
    names q o seat st h t = one (here_was q o (at.Forwarded seat) h)
      where
        old : Here rows q o (at.Forwarded seat) → Marked out_key out_state (row_in rows seat.peer).outs (p == seat.peer) (Slot slot) (on.Carries entry) (Slot seat.slot) st ⊎ Owed rows seat.peer (Slot seat.slot) st → IsNamed q o st
        old a (inl (as_was other b)) = l.names q o seat st a (inl b)
        old a (inl (marked j same to was)) =
            let number_is : seat.slot ≡ slot = let e = object_eq-same (Slot seat.slot) (Slot slot) same in cc (e) in
            let seat_is : seat ≡ seat_of p slot = ap (λ y. seat_of y seat.slot) (sym (eqb-true p seat.peer j)) ∙ ap (seat_of p) number_is in
            absurd (free q o (subst (λ y. Here rows q o (at.Forwarded y)) seat_is a))
        old a (inr b) = l.names q o seat st a (inr b)

        new : (entry.peer == q) ≡ true → object_eq o k ≡ true → Marked out_key out_state (row_in rows p).outs (p == p) (Slot slot) (on.Carries entry) (Slot slot) st ⊎ Owed rows p (Slot slot) st → IsNamed q o st
        new j same (inl (as_was other b)) = absurd (false≢true (sym (other (eq-eqb p p refl)) ∙ object_eq-refl (Slot slot)))
        new j same (inl (marked i at_slot to was)) = record { slot = entry.slot; here = object_eq-same o k same; carries = to ∙ ap (λ y. on.Carries (seat_of y entry.slot)) (eqb-true entry.peer q j) }
        new j same (inr b) = absurd (omega (arith, (tidy p).outs_once (Slot slot), at_occurs out_key out_state (row_in rows p).outs (Slot slot) on.Own found.slot_is, at_occurs debt_key (λ d. d.state) (row_in rows p).debts (Slot slot) st b))

        one : Marked in_key in_state (row_in rows q).ins (entry.peer == q) k (at.Forwarded (seat_of p slot)) o (at.Forwarded seat) → IsNamed q o st
        one (as_was other a) = old a (there_was seat.peer (Slot seat.slot) st t)
        one (marked j same to was) =
            let seat_is : seat ≡ seat_of p slot = cc (to) in
            new j same (there_was p (Slot slot) st (subst (λ (y : Seat). There rows' y.peer (Slot y.slot) st) seat_is t))

    holds : (q : ℕ) (o : Object) (held : Seat) → There rows' q o (on.Carries held) → IsHeld rows' q o held
    holds q o held t = one (there_was q o (on.Carries held) t)
      where
        -- the entry was not the one that is forwarded now
        old : There rows q o (on.Carries held) → IsHeld rows' q o held
        old t =
            let c = l.holds q o held t in
            record {
              slot = c.slot;
              here = c.here;
              stands = here_stays held.peer (Slot held.slot) (at.Forwarded (seat_of q c.slot)) c.stands
                  (λ j. by_cases (object_eq (Slot held.slot) k)
                  (λ i. let peer_is : entry.peer ≡ held.peer = eqb-true entry.peer held.peer j in
                  let slot_is : Slot held.slot ≡ k = object_eq-same (Slot held.slot) k i in
                  let both : Here rows entry.peer k (at.Forwarded (seat_of q c.slot)) = subst (λ y. Here rows y k (at.Forwarded (seat_of q c.slot))) (sym peer_is) (subst (λ y. Here rows held.peer y (at.Forwarded (seat_of q c.slot))) slot_is c.stands) in
                  let wrong = at_once in_key in_state (row_in rows entry.peer).ins k at.Direct (at.Forwarded (seat_of q c.slot)) ((tidy entry.peer).ins_once k) found.entry_is both in
                  absurd (cc (wrong)))
                  (λ i. i));
            }

        one : Marked out_key out_state (row_in rows q).outs (p == q) (Slot slot) (on.Carries entry) o (on.Carries held) ⊎ Owed rows q o (on.Carries held) → IsHeld rows' q o held
        one (inl (as_was other b)) = old (inl b)
        one (inl (marked j same to was)) =
            let held_is : entry ≡ held = let e = sym to in cc (e) in
            let new : IsHeld rows' p o entry = record { slot = slot; here = object_eq-same o (Slot slot) same; stands = here_then entry.peer k (at.Forwarded (seat_of p slot)) (forward_here_is p slot entry rows at.Direct found.entry_is) } in
            subst (λ y. IsHeld rows' y o held) (eqb-true p q j) (subst (IsHeld rows' p o) held_is new)
        one (inr b) = old (inr b)

    readies : (q : ℕ) (d : Deal) → (p == q) ≡ false → (row_in rows q).pending ≡ Some d → Ready rows' q d.what
    readies q d other e = by_what d.what refl (l.ready q d e)
      where
        by_what : (w : DealWhat) → d.what ≡ w → Ready rows q w → Ready rows' q w
        by_what (Forward n there) is_it r = record {
          entry_is = here_stays there.peer (Slot there.slot) at.Direct r.entry_is
              (λ j. by_cases (object_eq (Slot there.slot) k)
              (λ i. let peer_is : entry.peer ≡ there.peer = eqb-true entry.peer there.peer j in
              let slot_is : Slot there.slot ≡ k = object_eq-same (Slot there.slot) k i in
              let mine : listed (in_ties p (Forward slot entry) entry.peer) k ≡ true = rw (eq-eqb entry.peer entry.peer refl) (first_tie k) in
              let theirs : listed (in_ties q (Forward n there) entry.peer) k ≡ true = rw (ap (λ y. there.peer == y) peer_is ∙ eq-eqb there.peer there.peer refl) (ap (λ y. listed (y ∷ []) k) slot_is ∙ first_tie k) in
              let same : p ≡ q = l.apart p q deal d pending e entry.peer k mine (ap (λ w. listed (in_ties q w entry.peer) k) is_it ∙ theirs) in
              absurd (false≢true (sym other ∙ (ap (λ y. p == y) (sym same) ∙ eq-eqb p p refl))))
              (λ i. i));
          slot_is = out_stays q (Slot n) on.Own r.slot_is other;
        }
        by_what (Return n) is_it r = out_stays q (Slot n) on.Loose r other
        by_what (Fresh name) is_it r = tt
        by_what (Swap name numbers) is_it r = tt
        by_what (Cancel name numbers) is_it r = tt
        by_what (PutBack name first) is_it r = tt

-- ---- a Return

abbrev pub returned_rows : ℕ → ℕ → List (ℕ × Row) → List (ℕ × Row)
returned_rows p slot rows = at_row p (relabel_out (Slot slot) on.Own) rows

pub return_linked : (issued : ℕ) (rows rows' : List (ℕ × Row)) (p slot number : ℕ) (f : Row → Row) → Moves still f → has_row rows p ≡ true → (row_in rows p).pending ≡ Some (record { number = number; what = Return slot }) → rows' ≡ moved_rows p f [] (returned_rows p slot rows) → Ends rows rows' p → IsLinked issued rows → IsLinked issued rows'
return_linked issued rows rows' p slot number f moves peer pending is ends l =
    record { seats = seats; names = λ q o seat st h t. named q o seat st (here_was q o (at.Forwarded seat) h) (there_was seat.peer (Slot seat.slot) st t); holds = λ q o held t. holds q o held (there_was q o (on.Carries held) t); ready = λ q d e. by_what q d.what (ends q d e).0 (l.ready q d (ends q d e).1); apart = λ q r d e k j x o a b. l.apart q r d e (ends q d k).1 (ends r e j).1 x o a b }
  where
    mid : List (ℕ × Row)
    mid = returned_rows p slot rows

    mid_peer : has_row mid p ≡ true
    mid_peer = has_row-at_row p p (relabel_out (Slot slot) on.Own) rows ∙ peer

    found : Out rows p (Slot slot) on.Loose
    found = l.ready p (record { number = number; what = Return slot }) pending

    same_ins : (q : ℕ) → (row_in mid q).ins ≡ (row_in rows q).ins
    same_ins q = untouched ins_of p (relabel_out (Slot slot) on.Own) (λ r. refl) rows q

    here_was : (q : ℕ) (o : Object) (st : InState) → Here rows' q o st → Here rows q o st
    here_was q o st h = subst (λ y. At in_key in_state y o st) (same_ins q) (still_here p f moves mid mid_peer q o st (subst (λ y. Here y q o st) is h))

    here_stays : (q : ℕ) (o : Object) (st : InState) → Here rows q o st → Here rows' q o st
    here_stays q o st h = subst (λ y. Here y q o st) (sym is) (here_keeps p still f moves [] mid mid_peer q o st (subst (λ y. At in_key in_state y o st) (sym (same_ins q)) h) (λ j. refl))

    by_list : (q : ℕ) (o : Object) (st : OutState) → There mid q o st → Marked out_key out_state (row_in rows q).outs (p == q) (Slot slot) on.Own o st ⊎ Owed rows q o st
    by_list q o st (inl h) = inl (marked_from out_key out_state outs_of (Slot slot) on.Own (relabel_out (Slot slot) on.Own) (relabels_out (Slot slot) on.Own) rows p q o st h)
    by_list q o st (inr h) = inr (subst (λ y. At debt_key (λ d. d.state) y o st) (untouched debts_of p (relabel_out (Slot slot) on.Own) (λ r. refl) rows q) h)

    there_was : (q : ℕ) (o : Object) (st : OutState) → There rows' q o st → Marked out_key out_state (row_in rows q).outs (p == q) (Slot slot) on.Own o st ⊎ Owed rows q o st
    there_was q o st h = by_list q o st (still_there p f moves mid mid_peer q o st (subst (λ y. There y q o st) is h))

    out_stays : (q : ℕ) (o : Object) (st : OutState) → Out rows q o st → (p == q) ≡ false → Out rows' q o st
    out_stays q o st h other =
        subst (λ y. Out y q o st) (sym is)
        (out_keeps p still f moves [] mid mid_peer q o st (marked_other out_key out_state outs_of (Slot slot) on.Own (relabel_out (Slot slot) on.Own) (relabels_out (Slot slot) on.Own) rows p q o st h (λ j. absurd (false≢true (sym other ∙ j)))) (λ hit. hit.stands) (λ j. refl))

    seats : (q : ℕ) (o : Object) (seat : Seat) → Here rows' q o (at.Forwarded seat) → IsSeat issued rows' o seat
    seats q o seat h = let s = l.seats q o seat (here_was q o (at.Forwarded seat) h) in record { slot = s.slot; here = s.here; drawn = s.drawn; before = λ d e. s.before d (ends seat.peer d e).1 }

    named : (q : ℕ) (o : Object) (seat : Seat) (st : OutState) → Here rows q o (at.Forwarded seat) → Marked out_key out_state (row_in rows seat.peer).outs (p == seat.peer) (Slot slot) on.Own (Slot seat.slot) st ⊎ Owed rows seat.peer (Slot seat.slot) st → IsNamed q o st
    named q o seat st a (inl (as_was other b)) = l.names q o seat st a (inl b)
    named q o seat st a (inl (marked j same to was)) =
        let loose : Out rows seat.peer (Slot seat.slot) on.Loose = subst (λ y. Out rows y (Slot seat.slot) on.Loose) (eqb-true p seat.peer j) (subst (λ y. Out rows p y on.Loose) (sym (object_eq-same (Slot seat.slot) (Slot slot) same)) found) in
        let n = l.names q o seat on.Loose a (inl loose) in
        absurd (cc (n.carries))
    named q o seat st a (inr b) = l.names q o seat st a (inr b)

    old : (q : ℕ) (o : Object) (held : Seat) → There rows q o (on.Carries held) → IsHeld rows' q o held
    old q o held t = let c = l.holds q o held t in record { slot = c.slot; here = c.here; stands = here_stays held.peer (Slot held.slot) (at.Forwarded (seat_of q c.slot)) c.stands }

    holds : (q : ℕ) (o : Object) (held : Seat) → Marked out_key out_state (row_in rows q).outs (p == q) (Slot slot) on.Own o (on.Carries held) ⊎ Owed rows q o (on.Carries held) → IsHeld rows' q o held
    holds q o held (inl (as_was other b)) = old q o held (inl b)
    holds q o held (inl (marked j same to was)) = absurd (cc (to))
    holds q o held (inr b) = old q o held (inr b)

    by_what : (q : ℕ) (w : DealWhat) → (p == q) ≡ false → Ready rows q w → Ready rows' q w
    by_what q (Forward n there) other r = record { entry_is = here_stays there.peer (Slot there.slot) at.Direct r.entry_is; slot_is = out_stays q (Slot n) on.Own r.slot_is other }
    by_what q (Return n) other r = out_stays q (Slot n) on.Loose r other
    by_what q (Fresh name) other r = tt
    by_what q (Swap name numbers) other r = tt
    by_what q (Cancel name numbers) other r = tt
    by_what q (PutBack name first) other r = tt
