-- What holds of forwarded claims and of the slots that carry them in the rows of every lawful history, and that a change
-- keeps it which strikes objects of in(p), and leaves the rest of what stands as it was, but for what came or came loose.
use Rattle.std.proofs.Common.{◌≡◌, inl, ℕ, ◌<◌, ◌≤◌, Bool, true, false, List, [], ◌∷◌, Some, refl, sym, ap, ◌∙◌, subst, arith}
use Rattle.std.specs.Prelude.{◌==◌}
use Rattle.std.proofs.lemmas.Bool.{false≢true, eqb-true, eq-eqb}
use Rattle.psb_bytes.specs.declared.ids.Object.{Object}
use Rattle.psb_bytes.specs.declared.ids.Object.TheVariants.{Slot}
use Rattle.psb_bytes.specs.declared.ids.Seat.{Seat}
use Rattle.psb_model.specs.declared.entries.InEntry.{InEntry}
use Rattle.psb_model.specs.declared.entries.InState.{InState}
use Rattle.psb_model.specs.declared.entries.InState.TheVariants as at
use Rattle.psb_model.specs.declared.entries.OutState.{OutState}
use Rattle.psb_model.specs.declared.entries.OutState.TheVariants as on
use Rattle.psb_model.specs.declared.deals.Deal.{Deal}
use Rattle.psb_model.specs.declared.deals.DealWhat.{DealWhat}
use Rattle.psb_model.specs.declared.deals.DealWhat.TheVariants.{Fresh, Swap, Cancel, PutBack, Forward, Return}
use Rattle.psb_model.specs.Words.{listed, only}
use Rattle.psb_model.specs.State.{Row, row_in, has_row, in_key, out_key, debt_key, out_ties, in_ties}
use Rattle.psb_model.specs.Move.{Move}
use Rattle.psb_model.proofs.ByObject.{by_cases, object_eq-refl}
use Rattle.psb_model.proofs.Standing.{in_filter}
use Rattle.psb_model.proofs.Steps.{in_passes}
use Rattle.model_laws.proofs.Marks.{At, in_left}
use Rattle.model_laws.proofs.Traces.{in_state, out_state, debt_state, Here, Out, There, seat_of, Hit, Moves, moved_rows, HereThen, here_stood, here_came, here_from, here_keeps, WasThere, ThereThen, there_stood, there_loose, there_new, there_booked, there_from, out_keeps}

-- ---- what every lawful history keeps

-- a slot that a pending PutBack will bring back is not of these
abbrev pub IsBefore : DealWhat → ℕ → Type 0
IsBefore (PutBack name first) n = n < first
IsBefore _ n = Unit {0}

-- a forwarded entry is a slot, and the slot that it is forwarded to has a number that was drawn, and that comes no more
pub record IsSeat (issued : ℕ) (rows : List (ℕ × Row)) (o : Object) (seat : Seat) : Type 0 where
  pub slot : ℕ
  pub here : o ≡ Slot slot
  pub drawn : seat.slot < issued
  pub before : (d : Deal) → (row_in rows seat.peer).pending ≡ Some d → IsBefore d.what seat.slot

-- what stands there carries the entry
pub record IsNamed (q : ℕ) (o : Object) (st : OutState) : Type 0 where
  pub slot : ℕ
  pub here : o ≡ Slot slot
  pub carries : st ≡ on.Carries (seat_of q slot)

-- what carries an entry is a slot, and the entry is forwarded to it
pub record IsHeld (rows : List (ℕ × Row)) (p : ℕ) (o : Object) (held : Seat) : Type 0 where
  pub slot : ℕ
  pub here : o ≡ Slot slot
  pub stands : Here rows held.peer (Slot held.slot) (at.Forwarded (seat_of p slot))

-- a pending Forward finds what it links, and a pending Return its slot
pub record IsForwardReady (rows : List (ℕ × Row)) (p slot : ℕ) (entry : Seat) : Type 0 where
  pub entry_is : Here rows entry.peer (Slot entry.slot) at.Direct
  pub slot_is : Out rows p (Slot slot) on.Own

abbrev pub Ready : List (ℕ × Row) → ℕ → DealWhat → Type 0
Ready rows p (Forward slot entry) = IsForwardReady rows p slot entry
Ready rows p (Return slot) = Out rows p (Slot slot) on.Loose
Ready rows p _ = Unit {0}

-- no object of in is tied by the pending deals of two peers
abbrev pub AreApart : List (ℕ × Row) → Type 0
AreApart rows = (p q : ℕ) (d e : Deal) → (row_in rows p).pending ≡ Some d → (row_in rows q).pending ≡ Some e → (x : ℕ) (o : Object) → listed (in_ties p d.what x) o ≡ true → listed (in_ties q e.what x) o ≡ true → p ≡ q

pub record IsLinked (issued : ℕ) (rows : List (ℕ × Row)) : Type 0 where
  pub seats : (q : ℕ) (o : Object) (seat : Seat) → Here rows q o (at.Forwarded seat) → IsSeat issued rows o seat
  pub names : (q : ℕ) (o : Object) (seat : Seat) (st : OutState) → Here rows q o (at.Forwarded seat) → There rows seat.peer (Slot seat.slot) st → IsNamed q o st
  pub holds : (p : ℕ) (o : Object) (held : Seat) → There rows p o (on.Carries held) → IsHeld rows p o held
  pub ready : (p : ℕ) (d : Deal) → (row_in rows p).pending ≡ Some d → Ready rows p d.what
  pub apart : AreApart rows

-- ---- what a change does

-- the bytes of an entry in this state are not with another peer; a slot in this state carries no entry
abbrev pub stays_here : InState → Bool
stays_here st = elim st [ at.Forwarded seat ↦ false | _ ↦ true ]

abbrev pub carries_nothing : OutState → Bool
carries_nothing st = elim st [ on.Carries seat ↦ false | _ ↦ true ]

-- an object of in(p) that is struck is forwarded to that of out(q)
pub record Struck (rows : List (ℕ × Row)) (p : ℕ) (struck : List Object) (q : ℕ) (o : Object) : Type 0 where
  pub object : Object
  pub slot : ℕ
  pub stands : Here rows p object (at.Forwarded (seat_of q slot))
  pub is_listed : listed struck object ≡ true
  pub here : o ≡ Slot slot

pub hit_struck : (rows : List (ℕ × Row)) (p : ℕ) (struck : List Object) (q : ℕ) (o : Object) → Hit (only in_key struck (row_in rows p).ins) q o → Struck rows p struck q o
hit_struck rows p struck q o hit = record {
  object = hit.entry.object;
  slot = hit.frees.slot;
  stands = record { entry = hit.entry; stands = in_filter (λ (e : InEntry). listed struck (in_key e)) hit.entry (row_in rows p).ins hit.stands; here = refl; state = hit.frees.state };
  is_listed = in_passes (λ (e : InEntry). listed struck (in_key e)) hit.entry (row_in rows p).ins hit.stands;
  here = hit.frees.here;
}

pub struck_hit : (rows : List (ℕ × Row)) (p : ℕ) (struck : List Object) (q : ℕ) (o : Object) → Struck rows p struck q o → Hit (only in_key struck (row_in rows p).ins) q o
struck_hit rows p struck q o s = record {
  entry = s.stands.entry;
  stands = in_left (λ (e : InEntry). listed struck (in_key e)) s.stands.entry (row_in rows p).ins s.stands.stands (ap (listed struck) s.stands.here ∙ s.is_listed);
  frees = record { slot = s.slot; state = s.stands.state; here = s.here };
}

-- it carries nothing, and nothing is forwarded to it
pub record IsNew (rows : List (ℕ × Row)) (p : ℕ) (o : Object) (st : OutState) : Type 0 where
  pub carries : carries_nothing st ≡ true
  pub untaken : (q : ℕ) (x : Object) (n : ℕ) → Here rows q x (at.Forwarded (seat_of p n)) → o ≡ Slot n → ⊥

pub data HereAfter (rows : List (ℕ × Row)) (p : ℕ) (struck : List Object) (q : ℕ) (o : Object) (st : InState) : Type 0 where
  as_it_was : ((p == q) ≡ true → listed struck o ≡ false) → Here rows q o st → HereAfter rows p struck q o st
  not_forwarded : stays_here st ≡ true → HereAfter rows p struck q o st

pub data ThereAfter (rows : List (ℕ × Row)) (p : ℕ) (struck : List Object) (q : ℕ) (o : Object) (st : OutState) : Type 0 where
  as_before : (Struck rows p struck q o → ⊥) → There rows q o st → ThereAfter rows p struck q o st
  came_loose : Struck rows p struck q o → st ≡ on.Loose → WasThere rows q o → ThereAfter rows p struck q o st
  is_new : IsNew rows q o st → ThereAfter rows p struck q o st

-- Objects of in(p) are struck, and others of out(p) go.
pub record Does (rows rows' : List (ℕ × Row)) (p : ℕ) (struck gone : List Object) : Type 0 where
  pub here : (q : ℕ) (o : Object) (st : InState) → Here rows' q o st → HereAfter rows p struck q o st
  pub here_stays : (q : ℕ) (o : Object) (st : InState) → Here rows q o st → ((p == q) ≡ true → listed struck o ≡ false) → Here rows' q o st
  pub there : (q : ℕ) (o : Object) (st : OutState) → There rows' q o st → ThereAfter rows p struck q o st
  pub out_stays : (q : ℕ) (o : Object) (st : OutState) → Out rows q o st → (Struck rows p struck q o → ⊥) → ((p == q) ≡ true → listed gone o ≡ false) → Out rows' q o st

-- ---- and what it keeps

-- what was there as the seat of an entry, or is
named_after : (issued : ℕ) (rows : List (ℕ × Row)) (p : ℕ) (struck : List Object) → IsLinked issued rows → (q : ℕ) (o : Object) (seat : Seat) (st : OutState) → ((p == q) ≡ true → listed struck o ≡ false) → Here rows q o (at.Forwarded seat) → ThereAfter rows p struck seat.peer (Slot seat.slot) st → IsNamed q o st
named_after issued rows p struck l q o seat st left h (as_before miss t) = l.names q o seat st h t
named_after issued rows p struck l q o seat st left h (came_loose hit is was) =
    let slot : seat.slot ≡ hit.slot = cc (hit.here) in
    let other : Here rows p hit.object (at.Forwarded seat) = subst (λ n. Here rows p hit.object (at.Forwarded (seat_of seat.peer n))) (sym slot) hit.stands in
    let a = l.names q o seat was.before h was.stood in
    let b = l.names p hit.object seat was.before other was.stood in
    let same : seat_of p b.slot ≡ seat_of q a.slot = let e = sym b.carries ∙ a.carries in cc (e) in
    let peer : p ≡ q = ap (λ (y : Seat). y.peer) same in
    let object : hit.object ≡ o = b.here ∙ ap (λ (y : Seat). Slot y.slot) same ∙ sym a.here in
    absurd (false≢true (sym (left (ap (λ y. p == y) (sym peer) ∙ eq-eqb p p refl)) ∙ ap (listed struck) (sym object) ∙ hit.is_listed))
named_after issued rows p struck l q o seat st left h (is_new n) = absurd (n.untaken q o seat.slot h refl)

named_then : (issued : ℕ) (rows rows' : List (ℕ × Row)) (p : ℕ) (struck gone : List Object) → Does rows rows' p struck gone → IsLinked issued rows → (q : ℕ) (o : Object) (seat : Seat) (st : OutState) → HereAfter rows p struck q o (at.Forwarded seat) → There rows' seat.peer (Slot seat.slot) st → IsNamed q o st
named_then issued rows rows' p struck gone does l q o seat st (as_it_was left a) t = named_after issued rows p struck l q o seat st left a (does.there seat.peer (Slot seat.slot) st t)
named_then issued rows rows' p struck gone does l q o seat st (not_forwarded k) t = absurd (false≢true k)

held_then : (issued : ℕ) (rows rows' : List (ℕ × Row)) (p : ℕ) (struck gone : List Object) → Does rows rows' p struck gone → IsLinked issued rows → (q : ℕ) (o : Object) (held : Seat) → ThereAfter rows p struck q o (on.Carries held) → IsHeld rows' q o held
held_then issued rows rows' p struck gone does l q o held (as_before miss t) =
    let c = l.holds q o held t in
    let left : (p == held.peer) ≡ true → listed struck (Slot held.slot) ≡ false = λ k.
    by_cases (listed struck (Slot held.slot))
    (λ j. absurd (miss (record { object = Slot held.slot; slot = c.slot; stands = subst (λ y. Here rows y (Slot held.slot) (at.Forwarded (seat_of q c.slot))) (sym (eqb-true p held.peer k)) c.stands; is_listed = j; here = c.here })))
    (λ j. j)
    in
    record { slot = c.slot; here = c.here; stands = does.here_stays held.peer (Slot held.slot) (at.Forwarded (seat_of q c.slot)) c.stands left }
held_then issued rows rows' p struck gone does l q o held (came_loose hit is was) = absurd (cc (is))
held_then issued rows rows' p struck gone does l q o held (is_new n) = absurd (false≢true n.carries)

seat_then : (issued issued' : ℕ) (rows rows' : List (ℕ × Row)) (p : ℕ) (struck : List Object) → issued ≤ issued' → IsLinked issued rows → ((q n : ℕ) (d : Deal) → n < issued → ((e : Deal) → (row_in rows q).pending ≡ Some e → IsBefore e.what n) → (row_in rows' q).pending ≡ Some d → IsBefore d.what n) → (q : ℕ) (o : Object) (seat : Seat) → HereAfter rows p struck q o (at.Forwarded seat) → IsSeat issued' rows' o seat
seat_then issued issued' rows rows' p struck le l before q o seat (as_it_was left a) =
    let s = l.seats q o seat a in
    record { slot = s.slot; here = s.here; drawn = omega (arith, s.drawn, le); before = λ d k. before seat.peer seat.slot d s.drawn s.before k }
seat_then issued issued' rows rows' p struck le l before q o seat (not_forwarded k) = absurd (false≢true k)

-- the links themselves
pub links_then : (issued issued' : ℕ) (rows rows' : List (ℕ × Row)) (p : ℕ) (struck gone : List Object) → Does rows rows' p struck gone → issued ≤ issued' → IsLinked issued rows → ((q n : ℕ) (d : Deal) → n < issued → ((e : Deal) → (row_in rows q).pending ≡ Some e → IsBefore e.what n) → (row_in rows' q).pending ≡ Some d → IsBefore d.what n) → ((q : ℕ) (d : Deal) → (row_in rows' q).pending ≡ Some d → Ready rows' q d.what) → AreApart rows' → IsLinked issued' rows'
links_then issued issued' rows rows' p struck gone does le l before ready apart = record {
  seats = λ q o seat h. seat_then issued issued' rows rows' p struck le l before q o seat (does.here q o (at.Forwarded seat) h);
  names = λ q o seat st h t. named_then issued rows rows' p struck gone does l q o seat st (does.here q o (at.Forwarded seat) h) t;
  holds = λ q o held t. held_then issued rows rows' p struck gone does l q o held (does.there q o (on.Carries held) t);
  ready = ready;
  apart = apart;
}

-- a slot that carries nothing is not freed
not_struck : (issued : ℕ) (rows : List (ℕ × Row)) (p : ℕ) (struck : List Object) → IsLinked issued rows → (q n : ℕ) (st : OutState) → carries_nothing st ≡ true → Out rows q (Slot n) st → Struck rows p struck q (Slot n) → ⊥
not_struck issued rows p struck l q n st free o hit =
    let slot : n ≡ hit.slot = cc (hit.here) in
    let named = l.names p hit.object (seat_of q n) st (subst (λ m. Here rows p hit.object (at.Forwarded (seat_of q m))) (sym slot) hit.stands) (inl o) in
    false≢true (ap carries_nothing (sym named.carries) ∙ free)

pub first_tie : (o : Object) → listed (o ∷ []) o ≡ true
first_tie o = rw (object_eq-refl o) refl

-- what a deal needs stands where nothing that it ties is struck or goes
pub ready_then : (issued : ℕ) (rows rows' : List (ℕ × Row)) (p : ℕ) (struck gone : List Object) → Does rows rows' p struck gone → IsLinked issued rows → (q : ℕ) (what : DealWhat) → Ready rows q what → ((n : ℕ) → listed (in_ties q what p) (Slot n) ≡ true → listed struck (Slot n) ≡ false) → ((p == q) ≡ true → (n : ℕ) → listed (out_ties what) (Slot n) ≡ true → listed gone (Slot n) ≡ false) → Ready rows' q what
ready_then issued rows rows' p struck gone does l q (Forward slot entry) r ins outs = record {
  entry_is = does.here_stays entry.peer (Slot entry.slot) at.Direct r.entry_is
      (λ k. let back : (entry.peer == p) ≡ true = ap (λ y. entry.peer == y) (eqb-true p entry.peer k) ∙ eq-eqb entry.peer entry.peer refl in
      ins entry.slot (rw back (first_tie (Slot entry.slot))));
  slot_is = does.out_stays q (Slot slot) on.Own r.slot_is (not_struck issued rows p struck l q slot on.Own refl r.slot_is) (λ k. outs k slot (first_tie (Slot slot)));
}
ready_then issued rows rows' p struck gone does l q (Return slot) r ins outs = does.out_stays q (Slot slot) on.Loose r (not_struck issued rows p struck l q slot on.Loose refl r) (λ k. outs k slot (first_tie (Slot slot)))
ready_then issued rows rows' p struck gone does l q (Fresh name) r ins outs = tt
ready_then issued rows rows' p struck gone does l q (Swap name numbers) r ins outs = tt
ready_then issued rows rows' p struck gone does l q (Cancel name numbers) r ins outs = tt
ready_then issued rows rows' p struck gone does l q (PutBack name first) r ins outs = tt

-- where no deal is new
pub linked_then : (issued issued' : ℕ) (rows rows' : List (ℕ × Row)) (p : ℕ) (struck gone : List Object) → Does rows rows' p struck gone → issued ≤ issued' → IsLinked issued rows → ((q : ℕ) (d : Deal) → (row_in rows' q).pending ≡ Some d → (row_in rows q).pending ≡ Some d) → ((q : ℕ) (d : Deal) → (row_in rows' q).pending ≡ Some d → (n : ℕ) → listed (in_ties q d.what p) (Slot n) ≡ true → listed struck (Slot n) ≡ false) → ((q : ℕ) (d : Deal) → (row_in rows' q).pending ≡ Some d → (p == q) ≡ true → (n : ℕ) → listed (out_ties d.what) (Slot n) ≡ true → listed gone (Slot n) ≡ false) → IsLinked issued' rows'
linked_then issued issued' rows rows' p struck gone does le l same ins outs =
    links_then issued issued' rows rows' p struck gone does le l
    (λ q n d low before k. before d (same q d k))
    (λ q d k. ready_then issued rows rows' p struck gone does l q d.what (l.ready q d (same q d k)) (ins q d k) (outs q d k))
    (λ q r d e k j x o a b. l.apart q r d e (same q d k) (same r e j) x o a b)

-- ---- a move of one row

-- what it brings to in(p) stays here; and what it brings to out(p) or to debt(p) was there, or is new
pub record Fits (rows : List (ℕ × Row)) (p : ℕ) (m : Move) : Type 0 where
  pub ins : (o : Object) (st : InState) → At in_key in_state m.in_new o st → stays_here st ≡ true
  pub outs : (o : Object) (st : OutState) → At out_key out_state m.out_new o st → ThereAfter rows p m.in_gone p o st
  pub debts : (o : Object) (st : OutState) → At debt_key debt_state m.booked o st → ThereAfter rows p m.in_gone p o st

does_here : (rows : List (ℕ × Row)) (p : ℕ) (m : Move) → Fits rows p m → (q : ℕ) (o : Object) (st : InState) → HereThen rows p m q o st → HereAfter rows p m.in_gone q o st
does_here rows p m fits q o st (here_stood a b) = as_it_was a b
does_here rows p m fits q o st (here_came a) = not_forwarded (fits.ins o st a)

does_there : (rows : List (ℕ × Row)) (p : ℕ) (m : Move) → Fits rows p m → (q : ℕ) (o : Object) (st : OutState) → ThereThen rows p m (only in_key m.in_gone (row_in rows p).ins) q o st → ThereAfter rows p m.in_gone q o st
does_there rows p m fits q o st (there_stood miss t) = as_before (λ s. miss (struck_hit rows p m.in_gone q o s)) t
does_there rows p m fits q o st (there_loose hit is was) = came_loose (hit_struck rows p m.in_gone q o hit) is was
does_there rows p m fits q o st (there_new k a) = subst (λ x. ThereAfter rows p m.in_gone x o st) (eqb-true p q k) (fits.outs o st a)
does_there rows p m fits q o st (there_booked k a) = subst (λ x. ThereAfter rows p m.in_gone x o st) (eqb-true p q k) (fits.debts o st a)

pub does_move : (rows rows' : List (ℕ × Row)) (p : ℕ) (m : Move) (f : Row → Row) → Moves m f → has_row rows p ≡ true → rows' ≡ moved_rows p f (only in_key m.in_gone (row_in rows p).ins) rows → Fits rows p m → Does rows rows' p m.in_gone m.out_gone
does_move rows rows' p m f moves peer is fits =
    let es = only in_key m.in_gone (row_in rows p).ins in
    subst (λ l. Does rows l p m.in_gone m.out_gone) (sym is)
    (record {
      here = λ q o st h. does_here rows p m fits q o st (here_from p m f moves es rows peer q o st h);
      here_stays = λ q o st h left. here_keeps p m f moves es rows peer q o st h left;
      there = λ q o st t. does_there rows p m fits q o st (there_from p m f moves es rows peer q o st t);
      out_stays = λ q o st h miss left. out_keeps p m f moves es rows peer q o st h (λ hit. miss (hit_struck rows p m.in_gone q o hit)) left;
    })
