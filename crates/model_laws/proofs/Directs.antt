-- Slots that a peer has here with their bytes: what a change takes of them and gives.
use Rattle.std.proofs.Common.{◌≡◌, ℕ, ◌≤◌, Bool, true, false, not, ◌&&◌, ◌||◌, cond, List, [], ◌∷◌, length, Option, Some, None, refl, sym, ap, ◌∙◌, subst, arith}
use Rattle.std.specs.Prelude.{◌==◌}
use Rattle.std.specs.List.{list_any}
use Rattle.std.proofs.lemmas.Bool.{false≢true, eqb-true, and_parts}
use Rattle.psb_bytes.specs.declared.ids.Object.{Object}
use Rattle.psb_bytes.specs.declared.ids.Object.TheVariants.{Chunk, Slot}
use Rattle.psb_model.specs.declared.entries.InEntry.{InEntry}
use Rattle.psb_model.specs.declared.deals.Deal.{Deal}
use Rattle.psb_model.specs.declared.deals.DealWhat.{DealWhat}
use Rattle.psb_model.specs.declared.deals.DealWhat.TheVariants.{Fresh, Swap, Cancel, PutBack, Forward, Return}
use Rattle.psb_model.specs.declared.change.Change.{Change}
use Rattle.psb_model.specs.declared.change.Change.TheVariants.{Begun, Kept, Snapped, Forgot, TookFresh, TookSwap, LetGo, LetGoBack, Replaced, Refused, Proposed, Settled, Turned, Asked, Passed, Failed, Declined, Discarded, Chose}
use Rattle.psb_model.specs.Words.{units, object_eq, listed, slots, has, has_so, without, with_one, with_all}
use Rattle.psb_model.specs.declared.entries.InState.{InState}
use Rattle.psb_model.specs.declared.entries.InState.TheVariants as at
use Rattle.psb_model.specs.declared.entries.OutState.TheVariants as on
use Rattle.psb_model.specs.declared.kinds.Replaced.{Replaced as NewBytes}
use Rattle.psb_model.specs.State.{Row, State, blank, row, row_in, is_peer, at_row, in_key, coming}
use Rattle.psb_model.specs.Conditions.{peer_of, is_direct, may_settle, may_settle_row, tests, allowed}
use Rattle.psb_model.specs.Move.{after_move}
use Rattle.psb_model.specs.Effects.{move_of, states_of, settle_states, note_of, disturbed, loosen, relabel_in, relabel_out, relabel_debt, settle_move, direct_slot, direct_slots, after, chunk_in}
use Rattle.psb_model.specs.Needed.{slots_given, gives_slot}
use Rattle.psb_model.proofs.ByObject.{by_cases, carry}
use Rattle.psb_model.proofs.Steps.{parts}
use Rattle.psb_model.proofs.Rows.{note_lists, row_in-at_row, row_in-at_other, has_row-at_row}
use Rattle.psb_model.proofs.Bare.{rows_are}
use Rattle.psb_model.proofs.Steady.{allows}
use Rattle.psb_model.proofs.Held.{or_none, and_none, any_more, any_less, has_less}
use Rattle.psb_model.proofs.Steady.{or_true}

-- the list has the slot, with its bytes here
abbrev pub has_direct : List InEntry → ℕ → Bool
has_direct l n = has_so in_key is_direct l (Slot n)

-- a chunk that comes is no slot, and what leaves was there
direct_beside : (name : List ℕ) (u : ℕ) (objects : List Object) (l : List InEntry) (n : ℕ) → has_direct (with_one in_key (chunk_in name u) (without in_key objects l)) n ≡ true → has_direct l n ≡ true
direct_beside name u objects l n h =
    let t : InEntry → Bool = λ e. object_eq (in_key e) (Slot n) && is_direct e in
    any_less t (λ e. not (listed objects (in_key e))) l (sym (any_more in_key t (chunk_in name u) (without in_key objects l) ∙ or_none (list_any t (without in_key objects l))) ∙ h)

direct_left : (objects : List Object) (l : List InEntry) (n : ℕ) → has_direct (without in_key objects l) n ≡ true → has_direct l n ≡ true
direct_left objects l n h = any_less (λ (e : InEntry). object_eq (in_key e) (Slot n) && is_direct e) (λ e. not (listed objects (in_key e))) l h

-- of slots that come, the others were there
direct_other : (numbers : List ℕ) (l : List InEntry) (n : ℕ) → list_any (λ m. m == n) numbers ≡ false → has_direct (with_all in_key (direct_slots numbers) l) n ≡ has_direct l n
direct_other [] l n h = refl
direct_other (m ∷ ms) l n h =
    let two = neither_is (m == n) (list_any (λ m. m == n) ms) h in
    direct_other ms (with_one in_key (direct_slot m) l) n two.1
    ∙ any_more in_key (λ (e : InEntry). object_eq (in_key e) (Slot n) && is_direct e) (direct_slot m) l
    ∙ ap (λ (b : Bool). has_direct l n || (b && true)) two.0 ∙ or_none (has_direct l n)
  where
    neither_is : (a b : Bool) → (a || b) ≡ false → (a ≡ false) × (b ≡ false)
    neither_is true b k = absurd (false≢true (sym k))
    neither_is false b k = (refl, k)

any_stays : (f : InEntry → Bool) (es l : List InEntry) → list_any f l ≡ true → list_any f (with_all in_key es l) ≡ true
any_stays f [] l h = h
any_stays f (e ∷ es) l h = any_stays f es (with_one in_key e l) (any_more in_key f e l ∙ ap (λ (b : Bool). b || f e) h)

-- and they are there
direct_given : (numbers : List ℕ) (l : List InEntry) (n : ℕ) → list_any (λ m. m == n) numbers ≡ true → has_direct (with_all in_key (direct_slots numbers) l) n ≡ true
direct_given [] l n h = absurd (false≢true h)
direct_given (m ∷ ms) l n h = by_cases (m == n)
    (λ k. let t : InEntry → Bool = λ e. object_eq (in_key e) (Slot n) && is_direct e in
    let here : list_any t (with_one in_key (direct_slot m) l) ≡ true = any_more in_key t (direct_slot m) l ∙ ap (λ (b : Bool). list_any t l || (b && true)) k ∙ or_true (list_any t l) in
    any_stays t (direct_slots ms) (with_one in_key (direct_slot m) l) here)
    (λ k. direct_given ms (with_one in_key (direct_slot m) l) n (rw k at h))

-- ---- the entries of in(p) after a change: labels of out(p) and of debt leave them

at_ins : (q p : ℕ) (f : Row → Row) → ((r : Row) → (f r).ins ≡ r.ins) → (rows : List (ℕ × Row)) → (row_in (at_row q f rows) p).ins ≡ (row_in rows p).ins
at_ins q p f h [] = refl
at_ins q p f h (x ∷ xs) = by_cases (x.0 == q)
    (λ k. rw k (by_cases (x.0 == p) (λ j. rw j (h x.1)) (λ j. rw j refl)))
    (λ k. rw k (by_cases (x.0 == p) (λ j. rw j refl) (λ j. rw j (at_ins q p f h xs))))

loose_ins : (st : InState) (rows : List (ℕ × Row)) (p : ℕ) → (row_in (elim st [ at.Forwarded seat ↦ at_row seat.peer (λ r. relabel_debt (Slot seat.slot) on.Loose (relabel_out (Slot seat.slot) on.Loose r)) rows | _ ↦ rows ]) p).ins ≡ (row_in rows p).ins
loose_ins (at.Forwarded seat) rows p = at_ins seat.peer p (λ r. relabel_debt (Slot seat.slot) on.Loose (relabel_out (Slot seat.slot) on.Loose r)) (λ r. refl) rows
loose_ins at.Body rows p = refl
loose_ins at.Direct rows p = refl
loose_ins (at.Home i) rows p = refl

loosen_ins : (es : List InEntry) (rows : List (ℕ × Row)) (p : ℕ) → (row_in (loosen es rows) p).ins ≡ (row_in rows p).ins
loosen_ins [] rows p = refl
loosen_ins (e ∷ es) rows p = loosen_ins es _ p ∙ loose_ins e.state rows p

pub ins_after : (s : State) (c : Change) (q p : ℕ) → peer_of c ≡ Some q → (row (after s c) p).ins ≡ (row_in (states_of s c (at_row q (after_move (move_of s c)) s.rows)) p).ins
ins_after s c q p e =
    let moved = states_of s c (at_row q (after_move (move_of s c)) s.rows) in
    ap (λ rows. (row_in rows p).ins) (rows_are s c q e)
    ∙ at_ins q p (note_of s c) (λ r. (note_lists s c r).ins) (loosen (disturbed s c) moved)
    ∙ loosen_ins (disturbed s c) moved p

-- where a change moves lists alone
moved_row : (s : State) (c : Change) (q p : ℕ) → is_peer s q ≡ true → row_in (at_row q (after_move (move_of s c)) s.rows) p ≡ cond (q == p) (after_move (move_of s c) (row s p)) (row s p)
moved_row s c q p here = by_cases (q == p)
    (λ k. rw k (subst (λ x. row_in (at_row q (after_move (move_of s c)) s.rows) x ≡ after_move (move_of s c) (row s x)) (eqb-true q p k) (row_in-at_row q (after_move (move_of s c)) s.rows here)))
    (λ k. rw k (row_in-at_other q p (after_move (move_of s c)) s.rows k))

-- a slot of a peer's that is Direct once lists moved was so before
direct_moved : (s : State) (c : Change) (q p n : ℕ) → is_peer s q ≡ true → ((q == p) ≡ true → has_direct (after_move (move_of s c) (row s p)).ins n ≡ true → has_direct (row s p).ins n ≡ true) → has_direct (row_in (at_row q (after_move (move_of s c)) s.rows) p).ins n ≡ true → has_direct (row s p).ins n ≡ true
direct_moved s c q p n here f h =
    let now : has_direct (cond (q == p) (after_move (move_of s c) (row s p)) (row s p)).ins n ≡ true = ap (λ (r : Row). has_direct r.ins n) (sym (moved_row s c q p here)) ∙ h in
    by_cases (q == p) (λ k. f k (rw k at now)) (λ k. rw k at now)

direct_row : (s : State) (c : Change) (q p n : ℕ) → peer_of c ≡ Some q → is_peer s q ≡ true → ((rows : List (ℕ × Row)) → states_of s c rows ≡ rows) → ((q == p) ≡ true → has_direct (after_move (move_of s c) (row s p)).ins n ≡ true → has_direct (row s p).ins n ≡ true) → has_direct (row (after s c) p).ins n ≡ true → has_direct (row s p).ins n ≡ true
direct_row s c q p n peer here still f h =
    let first = at_row q (after_move (move_of s c)) s.rows in
    direct_moved s c q p n here f (sym (ap (λ l. has_direct l n) (ins_after s c q p peer ∙ ap (λ rows. (row_in rows p).ins) (still first))) ∙ h)

-- ---- labels of in(p)

label_direct : (o : Object) (st : InState) (n : ℕ) (l : List InEntry) → (elim st [ at.Direct ↦ true | _ ↦ false ] && object_eq o (Slot n)) ≡ false → has_direct (relabel_in o st (record blank { ins = l })).ins n ≡ true → has_direct l n ≡ true
label_direct o st n [] none h = h
label_direct o st n (e ∷ es) none h =
    let f : InEntry → Bool = λ x. object_eq (in_key x) (Slot n) && is_direct x in
    by_cases (object_eq e.object o)
    (λ k. let head : f (record e { state = st }) ≡ false = one e k in
    let rest : has_direct (relabel_in o st (record blank { ins = es })).ins n ≡ true = first (f (record e { state = st })) (has_direct (relabel_in o st (record blank { ins = es })).ins n) head (rw k at h) in
    ap (λ b. f e || b) (label_direct o st n es none rest) ∙ or_true (f e))
    (λ k. let h' : (f e || has_direct (relabel_in o st (record blank { ins = es })).ins n) ≡ true = rw k at h in
    by_cases (f e) (λ j. rw j refl) (λ j. rw j (label_direct o st n es none (rw j at h'))))
  where
    first : (a b : Bool) → a ≡ false → (a || b) ≡ true → b ≡ true
    first true b e h = absurd (false≢true (sym e))
    first false b e h = h

    one : (e : InEntry) → object_eq e.object o ≡ true → (object_eq e.object (Slot n) && elim st [ at.Direct ↦ true | _ ↦ false ]) ≡ false
    one e k = swap (elim st [ at.Direct ↦ true | _ ↦ false ]) (object_eq e.object (Slot n)) (ap (λ b. elim st [ at.Direct ↦ true | _ ↦ false ] && b) (carry (λ x. object_eq x (Slot n)) e.object o k) ∙ none)
      where
        swap : (a b : Bool) → (a && b) ≡ false → (b && a) ≡ false
        swap true true h = h
        swap true false h = refl
        swap false true h = refl
        swap false false h = refl

still_there : (a : Bool) → a ≡ true → (a && true) ≡ true
still_there a h = rw h refl

-- and a slot that is there gets the label
direct_labelled : (n : ℕ) (l : List InEntry) → has in_key l (Slot n) ≡ true → has_direct (relabel_in (Slot n) at.Direct (record blank { ins = l })).ins n ≡ true
direct_labelled n [] h = absurd (false≢true h)
direct_labelled n (e ∷ es) h = by_cases (object_eq e.object (Slot n))
    (λ k. rw (k, k) refl)
    (λ k. rw (k, k) (direct_labelled n es (rw k at h)))

-- a settled deal brings the slots that its change gives
settled_direct : (s : State) (q : ℕ) (o : Option Deal) (numbers : List ℕ) (r : Row) (n : ℕ) → list_any (λ m. m == n) numbers ≡ false → has_direct (after_move (settle_move s (row s q) o numbers) r).ins n ≡ true → has_direct r.ins n ≡ true
settled_direct s q None numbers r n none h = direct_left [] r.ins n h
settled_direct s q (Some d) numbers r n none h = by_what d.what h
  where
    by_what : (w : DealWhat) → has_direct (after_move (settle_move s (row s q) (Some (record { number = d.number; what = w })) numbers) r).ins n ≡ true → has_direct r.ins n ≡ true
    by_what (Fresh name) k = direct_left [] r.ins n (sym (direct_other numbers (without in_key [] r.ins) n none) ∙ k)
    by_what (Swap name mine) k = direct_left [] r.ins n k
    by_what (Cancel name theirs) k = direct_left (slots theirs) r.ins n k
    by_what (PutBack name first) k = direct_left [] r.ins n k
    by_what (Forward slot entry) k = direct_left [] r.ins n k
    by_what (Return slot) k = direct_left [] r.ins n k

-- and they are Direct then: no deal but a Fresh brings any
settled_given : (s : State) (q : ℕ) (o : Option Deal) (numbers : List ℕ) (r : Row) (n : ℕ) → may_settle s q o numbers ≡ true → list_any (λ m. m == n) numbers ≡ true → has_direct (after_move (settle_move s (row s q) o numbers) r).ins n ≡ true
settled_given s q None numbers r n may is = absurd (false≢true may)
settled_given s q (Some d) numbers r n may is = by_what d.what may
  where
    none : (numbers : List ℕ) → (length numbers == 0) ≡ true → list_any (λ m. m == n) numbers ≡ true → ⊥
    none [] k i = false≢true i
    none (m ∷ ms) k i = omega (arith, eqb-true (length (m ∷ ms)) 0 k)

    by_what : (w : DealWhat) → may_settle s q (Some (record { number = d.number; what = w })) numbers ≡ true → has_direct (after_move (settle_move s (row s q) (Some (record { number = d.number; what = w })) numbers) r).ins n ≡ true
    by_what (Fresh name) k = direct_given numbers (without in_key [] r.ins) n is
    by_what (Swap name mine) k = absurd (none numbers k is)
    by_what (Cancel name theirs) k = absurd (none numbers k is)
    by_what (PutBack name first) k = absurd (none numbers k is)
    by_what (Forward slot entry) k = absurd (none numbers k is)
    by_what (Return slot) k = absurd (none numbers k is)

-- a label at a peer's object makes no other slot Direct
label_at : (q p : ℕ) (o : Object) (st : InState) (n : ℕ) (rows : List (ℕ × Row)) → ((q == p) && (elim st [ at.Direct ↦ true | _ ↦ false ] && object_eq o (Slot n))) ≡ false → has_direct (row_in (at_row q (relabel_in o st) rows) p).ins n ≡ true → has_direct (row_in rows p).ins n ≡ true
label_at q p o st n [] none h = h
label_at q p o st n (x ∷ xs) none h = by_cases (x.0 == q)
    (λ k. by_cases (x.0 == p)
    (λ j. let same : (q == p) ≡ true = ap (λ y. y == p) (sym (eqb-true x.0 q k)) ∙ j in
    let h' : has_direct (relabel_in o st x.1).ins n ≡ true = rw (k, j) at h in
    rw j (label_direct o st n x.1.ins (rw same at none) h'))
    (λ j. rw j (rw (k, j) at h)))
    (λ k. by_cases (x.0 == p)
    (λ j. rw j (rw (k, j) at h))
    (λ j. rw j (label_at q p o st n xs none (rw (k, j) at h))))

replaced_before : (s : State) (x : NewBytes) (p n : ℕ) (rows : List (ℕ × Row)) → gives_slot p n (Replaced x) ≡ false → has_direct (row_in (states_of s (Replaced x) rows) p).ins n ≡ true → has_direct (row_in rows p).ins n ≡ true
replaced_before s x p n rows none h = by_cases (x.place == 0)
    (λ k. label_at x.peer p (Slot x.slot) at.Direct n rows (given (x.peer == p) (x.slot == n) (rw k at none)) (rw k at h))
    (λ k. label_at x.peer p (Slot x.slot) (at.Home x.home) n rows (and_none (x.peer == p)) (rw k at h))
  where
    given : (a b : Bool) → (a && (b || false)) ≡ false → (a && (true && b)) ≡ false
    given true true h = h
    given true false h = refl
    given false b h = refl

-- what a settled deal relabels is Direct no longer
settled_labels : (p : ℕ) (o : Option Deal) (rows : List (ℕ × Row)) (q n : ℕ) → has_direct (row_in (settle_states p o rows) q).ins n ≡ true → has_direct (row_in rows q).ins n ≡ true
settled_labels p None rows q n h = h
settled_labels p (Some d) rows q n h = by_what d.what h
  where
    by_what : (w : DealWhat) → has_direct (row_in (settle_states p (Some (record { number = d.number; what = w })) rows) q).ins n ≡ true → has_direct (row_in rows q).ins n ≡ true
    by_what (Fresh name) k = k
    by_what (Swap name mine) k = k
    by_what (Cancel name theirs) k = k
    by_what (PutBack name first) k = k
    by_what (Forward slot entry) k =
        ap (λ l. has_direct l n) (sym (at_ins p q (relabel_out (Slot slot) (on.Carries entry)) (λ r. refl) rows))
        ∙ label_at entry.peer q (Slot entry.slot) (at.Forwarded (record { peer = p; slot = slot })) n (at_row p (relabel_out (Slot slot) (on.Carries entry)) rows) (and_none (entry.peer == q)) k
    by_what (Return slot) k = ap (λ l. has_direct l n) (sym (at_ins p q (relabel_out (Slot slot) on.Own) (λ r. refl) rows)) ∙ k

-- a slot that is Direct was so before, or the change gives its bytes
pub was_direct : (s : State) (c : Change) (p n : ℕ) → 1 ≤ s.changes → allowed s c ≡ true → has_direct (row (after s c) p).ins n ≡ true → gives_slot p n c ≡ false → has_direct (row s p).ins n ≡ true
was_direct s (Begun x) p n some h is none = let ts = parts (tests s (Begun x)) (allows s (Begun x) h).tests in absurd (omega (arith, some, eqb-true s.changes 0 ts.0))
was_direct s (Kept x) p n some h is none = is
was_direct s (Snapped x) p n some h is none = is
was_direct s (Forgot x) p n some h is none = is
was_direct s (Chose x) p n some h is none = is
was_direct s (TookFresh x) p n some h is none =
    let c : Change = TookFresh x in
    direct_row s c x.peer p n refl (allows s c h).peer (λ rows. refl) (λ k. direct_beside x.name (units x.len) [] (row s p).ins n) is
was_direct s (TookSwap x) p n some h is none =
    let c : Change = TookSwap x in
    direct_row s c x.peer p n refl (allows s c h).peer (λ rows. refl) (λ k. direct_beside x.name (units x.len) (slots x.slots) (row s p).ins n) is
was_direct s (LetGo x) p n some h is none =
    let c : Change = LetGo x in
    direct_row s c x.peer p n refl (allows s c h).peer (λ rows. refl) (λ k. direct_left (Chunk x.name ∷ []) (row s p).ins n) is
was_direct s (LetGoBack x) p n some h is none =
    let c : Change = LetGoBack x in
    direct_row s c x.peer p n refl (allows s c h).peer (λ rows. refl)
    (λ k a. let other : list_any (λ m. m == n) x.slots ≡ false = rw k at none in
    direct_left (Chunk x.name ∷ []) (row s p).ins n (sym (direct_other x.slots (without in_key (Chunk x.name ∷ []) (row s p).ins) n other) ∙ a))
    is
was_direct s (Replaced x) p n some h is none =
    let c : Change = Replaced x in
    let first = at_row x.peer (after_move (move_of s c)) s.rows in
    direct_moved s c x.peer p n (allows s c h).peer (λ k. direct_left [] (row s p).ins n)
    (replaced_before s x p n first none (sym (ap (λ l. has_direct l n) (ins_after s c x.peer p refl)) ∙ is))
was_direct s (Settled x) p n some h is none =
    let c : Change = Settled x in
    let first = at_row x.peer (after_move (move_of s c)) s.rows in
    direct_moved s c x.peer p n (allows s c h).peer (λ k. settled_direct s x.peer (row s x.peer).pending x.slots (row s p) n (rw k at none))
    (settled_labels x.peer (row s x.peer).pending first p n (sym (ap (λ l. has_direct l n) (ins_after s c x.peer p refl)) ∙ is))
was_direct s (Discarded x) p n some h is none =
    let c : Change = Discarded x in
    direct_row s c x.peer p n refl (allows s c h).peer (λ rows. refl) (λ k. direct_left x.objects (row s p).ins n) is
was_direct s (Refused x) p n some h is none = let c : Change = Refused x in direct_row s c x.peer p n refl (allows s c h).peer (λ rows. refl) (λ k. direct_left [] (row s p).ins n) is
was_direct s (Proposed x) p n some h is none = let c : Change = Proposed x in direct_row s c x.peer p n refl (allows s c h).peer (λ rows. refl) (λ k. direct_left [] (row s p).ins n) is
was_direct s (Turned x) p n some h is none = let c : Change = Turned x in direct_row s c x.peer p n refl (allows s c h).peer (λ rows. refl) (λ k. direct_left [] (row s p).ins n) is
was_direct s (Asked x) p n some h is none = let c : Change = Asked x in direct_row s c x.peer p n refl (allows s c h).peer (λ rows. refl) (λ k. direct_left [] (row s p).ins n) is
was_direct s (Passed x) p n some h is none = let c : Change = Passed x in direct_row s c x.peer p n refl (allows s c h).peer (λ rows. refl) (λ k. direct_left [] (row s p).ins n) is
was_direct s (Failed x) p n some h is none = let c : Change = Failed x in direct_row s c x.peer p n refl (allows s c h).peer (λ rows. refl) (λ k. direct_left [] (row s p).ins n) is
was_direct s (Declined x) p n some h is none = let c : Change = Declined x in direct_row s c x.peer p n refl (allows s c h).peer (λ rows. refl) (λ k. direct_left [] (row s p).ins n) is

-- a settled deal that brings slots relabels nothing
fresh_still : (p : ℕ) (r : Row) (u : ℕ) (o : Option Deal) (numbers : List ℕ) (n : ℕ) (rows : List (ℕ × Row)) → may_settle_row u r o numbers ≡ true → list_any (λ m. m == n) numbers ≡ true → settle_states p o rows ≡ rows
fresh_still p r u None numbers n rows may is = refl
fresh_still p r u (Some d) numbers n rows may is = by_what d.what may
  where
    none : (numbers : List ℕ) → (length numbers == 0) ≡ true → list_any (λ m. m == n) numbers ≡ true → ⊥
    none [] k i = false≢true i
    none (m ∷ ms) k i = omega (arith, eqb-true (length (m ∷ ms)) 0 k)

    by_what : (w : DealWhat) → may_settle_row u r (Some (record { number = d.number; what = w })) numbers ≡ true → settle_states p (Some (record { number = d.number; what = w })) rows ≡ rows
    by_what (Fresh name) k = refl
    by_what (Swap name mine) k = refl
    by_what (Cancel name theirs) k = refl
    by_what (PutBack name first) k = refl
    by_what (Forward slot entry) k = absurd (none numbers k is)
    by_what (Return slot) k = absurd (none numbers k is)

-- no other change gives a slot its bytes
no_slot : (c : Change) (p n : ℕ) → slots_given c ≡ [] → gives_slot p n c ≡ false
no_slot c p n none = by_peer (peer_of c)
  where
    by_peer : (o : Option ℕ) → elim o [ None ↦ false | Some q ↦ q == p && list_any (λ m. m == n) (slots_given c) ] ≡ false
    by_peer None = refl
    by_peer (Some q) = ap (λ l. q == p && list_any (λ m. m == n) l) none ∙ and_none (q == p)

-- a slot whose bytes a change gives is Direct after it
pub given_is_direct : (s : State) (c : Change) (p n : ℕ) → allowed s c ≡ true → gives_slot p n c ≡ true → has_direct (row (after s c) p).ins n ≡ true
given_is_direct s (LetGoBack x) p n h is =
    let c : Change = LetGoBack x in
    let two = and_parts (x.peer == p) (list_any (λ m. m == n) x.slots) is in
    let row_is : row_in (at_row x.peer (after_move (move_of s c)) s.rows) p ≡ after_move (move_of s c) (row s p) = moved_row s c x.peer p (allows s c h).peer ∙ rw two.0 refl in
    let now : (row (after s c) p).ins ≡ (after_move (move_of s c) (row s p)).ins = ins_after s c x.peer p refl ∙ ap (λ (r : Row). r.ins) row_is in
    ap (λ l. has_direct l n) now ∙ direct_given x.slots (without in_key (Chunk x.name ∷ []) (row s p).ins) n two.1
given_is_direct s (Settled x) p n h is =
    let c : Change = Settled x in
    let ts = parts (tests s c) (allows s c h).tests in
    let two = and_parts (x.peer == p) (list_any (λ m. m == n) x.slots) is in
    let first = at_row x.peer (after_move (move_of s c)) s.rows in
    let now : (row (after s c) p).ins ≡ (row_in (settle_states x.peer (row s x.peer).pending first) p).ins = ins_after s c x.peer p refl in
    let row_is : row_in first p ≡ after_move (move_of s c) (row s p) = moved_row s c x.peer p (allows s c h).peer ∙ rw two.0 refl in
    let moved : has_direct (row_in first p).ins n ≡ true = ap (λ (r : Row). has_direct r.ins n) row_is ∙ settled_given s x.peer (row s x.peer).pending x.slots (row s p) n ts.1.0 two.1 in
    ap (λ l. has_direct l n) now ∙ ap (λ rows. has_direct (row_in rows p).ins n) (fresh_still x.peer (row s x.peer) (coming s (row s x.peer).pending) (row s x.peer).pending x.slots n first ts.1.0 two.1) ∙ moved
given_is_direct s (Replaced x) p n h is =
    let c : Change = Replaced x in
    let ts = parts (tests s c) (allows s c h).tests in
    replaced_given x.place refl
  where
    replaced_given : (place : ℕ) → x.place ≡ place → has_direct (row (after s (Replaced x)) p).ins n ≡ true
    replaced_given place e = by_cases (x.place == 0)
        (λ k.
        let two = and_parts (x.peer == p) ((x.slot == n) || false) (rw k at is) in
        let slot_is : x.slot ≡ n = eqb-true x.slot n (sym (or_none (x.slot == n)) ∙ two.1) in
        let first = at_row x.peer (after_move (move_of s (Replaced x))) s.rows in
        let here = (allows s (Replaced x) h).peer in
        let there = (parts (tests s (Replaced x)) (allows s (Replaced x) h).tests).1.0 in
        let was : has in_key (row s x.peer).ins (Slot n) ≡ true = subst (λ m. has in_key (row s x.peer).ins (Slot m) ≡ true) slot_is there in
        let moved : has in_key (row_in first x.peer).ins (Slot n) ≡ true = ap (λ (r : Row). has in_key r.ins (Slot n)) (row_in-at_row x.peer (after_move (move_of s (Replaced x))) s.rows here) ∙ has_less in_key [] (row s x.peer).ins (Slot n) ∙ still_there (has in_key (row s x.peer).ins (Slot n)) was in
        let labelled : has_direct (row_in (at_row x.peer (relabel_in (Slot n) at.Direct) first) x.peer).ins n ≡ true =
        ap (λ (r : Row). has_direct r.ins n) (row_in-at_row x.peer (relabel_in (Slot n) at.Direct) first (has_row-at_row x.peer x.peer (after_move (move_of s (Replaced x))) s.rows ∙ here)) ∙ direct_labelled n (row_in first x.peer).ins moved in
        let at_slot : has_direct (row_in (at_row x.peer (relabel_in (Slot x.slot) at.Direct) first) x.peer).ins n ≡ true = subst (λ m. has_direct (row_in (at_row x.peer (relabel_in (Slot m) at.Direct) first) x.peer).ins n ≡ true) (sym slot_is) labelled in
        let direct : states_of s (Replaced x) first ≡ at_row x.peer (relabel_in (Slot x.slot) at.Direct) first = rw k refl in
        ap (λ l. has_direct l n) (ins_after s (Replaced x) x.peer p refl)
        ∙ ap (λ rows. has_direct (row_in rows p).ins n) direct
        ∙ subst (λ q. has_direct (row_in (at_row x.peer (relabel_in (Slot x.slot) at.Direct) first) q).ins n ≡ true) (eqb-true x.peer p two.0) at_slot)
        (λ k. absurd (false≢true (sym (and_none (x.peer == p)) ∙ (rw k at is))))
given_is_direct s (Begun x) p n h is = absurd (false≢true (sym (no_slot (Begun x) p n refl) ∙ is))
given_is_direct s (Kept x) p n h is = absurd (false≢true (sym (no_slot (Kept x) p n refl) ∙ is))
given_is_direct s (Snapped x) p n h is = absurd (false≢true (sym (no_slot (Snapped x) p n refl) ∙ is))
given_is_direct s (Forgot x) p n h is = absurd (false≢true (sym (no_slot (Forgot x) p n refl) ∙ is))
given_is_direct s c p n h is = absurd (false≢true (sym (no_slot c p n refl) ∙ is))
