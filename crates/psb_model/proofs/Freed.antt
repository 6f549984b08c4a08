-- What a change of any kind does to rows, states and all: first entries get other states, where it changes some (a slot
-- is forwarded, is found home, or comes loose), and then the row of its peer moves and is noted. So what holds of each
-- entry that comes, whatever its state, holds of all that the node answers for.
use Rattle.std.proofs.Common.{◌≡◌, ◌⊎◌, inl, inr, ℕ, zero, suc, ◌-◌, Bool, true, false, not, ◌||◌, cond, List, [], ◌∷◌, ◌++◌, map, filter, Option, Some, None, refl, sym, ap, ◌∙◌, subst, append-nil, ⊎_elim}
use Rattle.std.specs.Prelude.{◌==◌, nat_le}
use Rattle.std.specs.List.{list_all}
use Rattle.std.proofs.lemmas.Bool.{false≢true, and_parts}
use Rattle.psb_bytes.specs.declared.ids.Object.{Object}
use Rattle.psb_bytes.specs.declared.ids.Object.TheVariants.{Chunk, Slot}
use Rattle.psb_settings.specs.declared.settings.Settings.{Settings}
use Rattle.psb_settings.specs.declared.settings.PeerRow.{PeerRow}
use Rattle.psb_model.specs.declared.entries.InEntry.{InEntry}
use Rattle.psb_model.specs.declared.entries.OutEntry.{OutEntry}
use Rattle.psb_model.specs.declared.entries.DebtEntry.{DebtEntry}
use Rattle.psb_model.specs.declared.entries.InState.{InState}
use Rattle.psb_model.specs.declared.entries.InState.TheVariants as at
use Rattle.psb_model.specs.declared.entries.OutState.{OutState}
use Rattle.psb_model.specs.declared.entries.OutState.TheVariants as on
use Rattle.psb_model.specs.declared.deals.Deal.{Deal}
use Rattle.psb_model.specs.declared.deals.DealWhat.{DealWhat}
use Rattle.psb_model.specs.declared.deals.DealWhat.TheVariants.{Fresh, Swap, Cancel, PutBack, Forward, Return}
use Rattle.psb_model.specs.declared.change.Change.{Change}
use Rattle.psb_model.specs.declared.change.Change.TheVariants.{Begun, Kept, Snapped, Forgot, TookFresh, TookSwap, LetGo, LetGoBack, Replaced, Refused, Proposed, Settled, Turned, Asked, Passed, Failed, Declined, Discarded, Chose}
use Rattle.psb_model.specs.Words.{object_eq, listed, only, without, with_one, with_all}
use Rattle.psb_model.specs.State.{Row, State, nothing_yet, row, row_in, at_row, in_key, out_key}
use Rattle.psb_model.specs.Conditions.{settings_of_body, peer_of}
use Rattle.psb_model.specs.Move.{Move, still, use_up, after_move}
use Rattle.psb_model.specs.Effects.{move_of, settle_move, settle_states, states_of, note_of, loose_at, loosen, relabel_in, relabel_out, relabel_debt, disturbed, direct_slots, blank_rows, first_rows, all_rows_after, after}
use Rattle.psb_model.specs.History.{state_from, lawful_from, state, is_lawful}
use Rattle.psb_model.proofs.ByObject.{by_cases, all_with_one, all_kept}
use Rattle.psb_model.proofs.Rows.{note_lists}
use Rattle.psb_model.proofs.Prefixes.{lawful_cons}
use Rattle.psb_model.proofs.Steady.{rows_use, states_steadies, loosen_steadies}
use Rattle.psb_model.proofs.Bare.{bare_rows, states_labels, loosen_labels, at_row_twice, changed, rows_are}

-- the rows in which a change has changed states
abbrev pub freed : State → Change → List (ℕ × Row)
freed s c = loosen (disturbed s c) (states_of s c s.rows)

-- ---- states change in what stays

pub at_row_swap : (p q : ℕ) (f g : Row → Row) → ((r : Row) → f (g r) ≡ g (f r)) → (rows : List (ℕ × Row)) → at_row q f (at_row p g rows) ≡ at_row p g (at_row q f rows)
at_row_swap p q f g h [] = refl
at_row_swap p q f g h (x ∷ xs) = by_cases (x.0 == p)
    (λ k. by_cases (x.0 == q) (λ j. rw (k, j, k) (ap (λ r. (x.0, r) ∷ xs) (h x.1))) (λ j. rw (k, j, k) refl))
    (λ k. by_cases (x.0 == q) (λ j. rw (k, j, k) refl) (λ j. rw (k, j, k) (ap (λ l. x ∷ l) (at_row_swap p q f g h xs))))

map_kept : {E : Type 0} (t : E → Bool) (g : E → E) → ((e : E) → t (g e) ≡ t e) → (l : List E) → map g (filter t l) ≡ filter t (map g l)
map_kept t g h [] = refl
map_kept t g h (e ∷ es) = by_cases (t e)
    (λ k. rw (k, h e ∙ k) (ap (λ l. g e ∷ l) (map_kept t g h es)))
    (λ k. rw (k, h e ∙ k) (map_kept t g h es))

map_both : {E : Type 0} (g : E → E) (xs ys : List E) → map g (xs ++ ys) ≡ map g xs ++ map g ys
map_both g [] ys = refl
map_both g (x ∷ xs) ys = ap (λ l. g x ∷ l) (map_both g xs ys)

-- the state of an entry at the object
abbrev label_in : Object → InState → InEntry → InEntry
label_in o st e = cond (object_eq e.object o) (record e { state = st }) e

abbrev label_out : Object → OutState → OutEntry → OutEntry
label_out o st e = cond (object_eq e.object o) (record e { state = st }) e

abbrev label_debt : Object → OutState → DebtEntry → DebtEntry
label_debt o st d = cond (object_eq d.object o) (record d { state = st }) d

in_stays : (objects : List Object) (o : Object) (st : InState) (e : InEntry) → not (listed objects (in_key (label_in o st e))) ≡ not (listed objects (in_key e))
in_stays objects o st e = by_cases (object_eq e.object o) (λ k. rw k refl) (λ k. rw k refl)

out_stays : (objects : List Object) (o : Object) (st : OutState) (e : OutEntry) → not (listed objects (out_key (label_out o st e))) ≡ not (listed objects (out_key e))
out_stays objects o st e = by_cases (object_eq e.object o) (λ k. rw k refl) (λ k. rw k refl)

used_labels : (o : Object) (st : OutState) (n : ℕ) (ds : List DebtEntry) → map (label_debt o st) (use_up n ds) ≡ use_up n (map (label_debt o st) ds)
used_labels o st zero ds = refl
used_labels o st (suc n) [] = refl
used_labels o st (suc n) (d ∷ ds) = by_cases (object_eq d.object o)
    (λ j. by_cases (nat_le d.left (suc n)) (λ k. rw (j, k) (used_labels o st (suc n - d.left) ds)) (λ k. rw (j, k, j) refl))
    (λ j. by_cases (nat_le d.left (suc n)) (λ k. rw (j, k) (used_labels o st (suc n - d.left) ds)) (λ k. rw (j, k, j) refl))

-- nothing comes to out or to debt, nor back from there: rows of debt are used up at most
pub record Leaves (m : Move) : Type 0 where
  pub outs : m.out_new ≡ []
  pub returned : m.returned ≡ (λ d. false)
  pub booked : m.booked ≡ []

outs_labelled : (o : Object) (st : OutState) (m : Move) (l : List OutEntry) → Leaves m → map (label_out o st) (with_all out_key m.out_new (without out_key m.out_gone l)) ≡ with_all out_key m.out_new (without out_key m.out_gone (map (label_out o st) l))
outs_labelled o st m l h =
    ap (λ new. map (label_out o st) (with_all out_key new (without out_key m.out_gone l))) h.outs
    ∙ map_kept (λ e. not (listed m.out_gone (out_key e))) (label_out o st) (out_stays m.out_gone o st) l
    ∙ sym (ap (λ new. with_all out_key new (without out_key m.out_gone (map (label_out o st) l))) h.outs)

debts_labelled : (o : Object) (st : OutState) (m : Move) (l : List DebtEntry) → Leaves m → map (label_debt o st) (use_up m.used_up (filter (λ d. not (m.returned d)) l) ++ m.booked) ≡ use_up m.used_up (filter (λ d. not (m.returned d)) (map (label_debt o st) l)) ++ m.booked
debts_labelled o st m l h =
    map_both (label_debt o st) (use_up m.used_up (filter (λ d. not (m.returned d)) l)) m.booked
    ∙ ap (λ more. map (label_debt o st) (use_up m.used_up (filter (λ d. not (m.returned d)) l)) ++ map (label_debt o st) more) h.booked
    ∙ append-nil (map (label_debt o st) (use_up m.used_up (filter (λ d. not (m.returned d)) l)))
    ∙ ap (λ (t : DebtEntry → Bool). map (label_debt o st) (use_up m.used_up (filter (λ d. not (t d)) l))) h.returned
    ∙ used_labels o st m.used_up (filter (λ d. true) l)
    ∙ ap (use_up m.used_up) (map_kept (λ d. true) (label_debt o st) (λ d. refl) l)
    ∙ sym (ap (λ (t : DebtEntry → Bool). use_up m.used_up (filter (λ d. not (t d)) (map (label_debt o st) l))) h.returned)
    ∙ sym (append-nil (use_up m.used_up (filter (λ d. not (m.returned d)) (map (label_debt o st) l))))
    ∙ sym (ap (λ more. use_up m.used_up (filter (λ d. not (m.returned d)) (map (label_debt o st) l)) ++ more) h.booked)

out_moved : (o : Object) (st : OutState) (m : Move) (r : Row) → Leaves m → relabel_out o st (after_move m r) ≡ after_move m (relabel_out o st r)
out_moved o st m r h = ap (λ l. record (after_move m r) { outs = l }) (outs_labelled o st m r.outs h)

debt_moved : (o : Object) (st : OutState) (m : Move) (r : Row) → Leaves m → relabel_debt o st (after_move m r) ≡ after_move m (relabel_debt o st r)
debt_moved o st m r h = ap (λ l. record (after_move m r) { debts = l }) (debts_labelled o st m r.debts h)

in_moved : (o : Object) (st : InState) (m : Move) (r : Row) → m.in_new ≡ [] → relabel_in o st (after_move m r) ≡ after_move m (relabel_in o st r)
in_moved o st m r h = ap (λ l. record (after_move m r) { ins = l })
    (ap (λ new. map (label_in o st) (with_all in_key new (without in_key m.in_gone r.ins))) h
    ∙ map_kept (λ e. not (listed m.in_gone (in_key e))) (label_in o st) (in_stays m.in_gone o st) r.ins
    ∙ sym (ap (λ new. with_all in_key new (without in_key m.in_gone (map (label_in o st) r.ins))) h))

loose_moved : (n : ℕ) (m : Move) (r : Row) → Leaves m → loose_at n (after_move m r) ≡ after_move m (loose_at n r)
loose_moved n m r h = ap (relabel_debt (Slot n) on.Loose) (out_moved (Slot n) on.Loose m r h) ∙ debt_moved (Slot n) on.Loose m (relabel_out (Slot n) on.Loose r) h

-- what comes loose where an entry of this state goes
abbrev pub loose_by : InState → List (ℕ × Row) → List (ℕ × Row)
loose_by st rows = elim st [ at.Forwarded seat ↦ at_row seat.peer (loose_at seat.slot) rows | _ ↦ rows ]

one_moved : (p : ℕ) (m : Move) (st : InState) (rows : List (ℕ × Row)) → Leaves m → loose_by st (at_row p (after_move m) rows) ≡ at_row p (after_move m) (loose_by st rows)
one_moved p m (at.Forwarded seat) rows h = at_row_swap p seat.peer (loose_at seat.slot) (after_move m) (λ r. loose_moved seat.slot m r h) rows
one_moved p m at.Body rows h = refl
one_moved p m at.Direct rows h = refl
one_moved p m (at.Home i) rows h = refl

loosen_moved : (p : ℕ) (m : Move) (es : List InEntry) (rows : List (ℕ × Row)) → Leaves m → loosen es (at_row p (after_move m) rows) ≡ at_row p (after_move m) (loosen es rows)
loosen_moved p m [] rows h = refl
loosen_moved p m (e ∷ es) rows h = ap (loosen es) (one_moved p m e.state rows h) ∙ loosen_moved p m es (loose_by e.state rows) h

still_leaves : Leaves still
still_leaves = record { outs = refl; returned = refl; booked = refl }

settled_moved : (p q : ℕ) (s : State) (r : Row) (d : Option Deal) (numbers : List ℕ) (rows : List (ℕ × Row)) → settle_states q d (at_row p (after_move (settle_move s r d numbers)) rows) ≡ at_row p (after_move (settle_move s r d numbers)) (settle_states q d rows)
settled_moved p q s r None numbers rows = refl
settled_moved p q s r (Some d) numbers rows = by_what d.what
  where
    by_what : (w : DealWhat) → settle_states q (Some (record { number = d.number; what = w })) (at_row p (after_move (settle_move s r (Some (record { number = d.number; what = w })) numbers)) rows) ≡ at_row p (after_move (settle_move s r (Some (record { number = d.number; what = w })) numbers)) (settle_states q (Some (record { number = d.number; what = w })) rows)
    by_what (Fresh name) = refl
    by_what (Swap name mine) = refl
    by_what (Cancel name theirs) = refl
    by_what (PutBack name first) = refl
    by_what (Forward slot entry) =
        let f = relabel_in (Slot entry.slot) (at.Forwarded (record { peer = q; slot = slot })) in
        let g = relabel_out (Slot slot) (on.Carries entry) in
        ap (at_row entry.peer f) (at_row_swap p q g (after_move still) (λ x. out_moved (Slot slot) (on.Carries entry) still x still_leaves) rows)
        ∙ at_row_swap p entry.peer f (after_move still) (λ x. in_moved (Slot entry.slot) (at.Forwarded (record { peer = q; slot = slot })) still x refl) (at_row q g rows)
    by_what (Return slot) = at_row_swap p q (relabel_out (Slot slot) on.Own) (after_move still) (λ x. out_moved (Slot slot) on.Own still x still_leaves) rows

states_moved : (s : State) (c : Change) (p : ℕ) (rows : List (ℕ × Row)) → states_of s c (at_row p (after_move (move_of s c)) rows) ≡ at_row p (after_move (move_of s c)) (states_of s c rows)
states_moved s (Replaced x) p rows =
    let st : InState = cond (x.place == 0) at.Direct (at.Home x.home) in
    at_row_swap p x.peer (relabel_in (Slot x.slot) st) (after_move still) (λ r. in_moved (Slot x.slot) st still r refl) rows
states_moved s (Settled x) p rows = settled_moved p x.peer s (row s x.peer) (row s x.peer).pending x.slots rows
states_moved s _ p rows = refl

-- ---- each kind

pub only_none : {E : Type 0} (key : E → Object) (l : List E) → only key [] l ≡ []
only_none key [] = refl
only_none key (e ∷ es) = only_none key es

-- nothing that the node answers for goes, or the move leaves what it has there
abbrev Frees : State → Change → Type 0
Frees s c = (disturbed s c ≡ []) ⊎ Leaves (move_of s c)

settled_frees : (s : State) (r : Row) (d : Option Deal) (numbers : List ℕ) → (only in_key (settle_move s r d numbers).in_gone r.ins ≡ []) ⊎ Leaves (settle_move s r d numbers)
settled_frees s r None numbers = inr still_leaves
settled_frees s r (Some d) numbers = by_what d.what
  where
    by_what : (w : DealWhat) → (only in_key (settle_move s r (Some (record { number = d.number; what = w })) numbers).in_gone r.ins ≡ []) ⊎ Leaves (settle_move s r (Some (record { number = d.number; what = w })) numbers)
    by_what (Fresh name) = inl (only_none in_key r.ins)
    by_what (Swap name mine) = inl (only_none in_key r.ins)
    by_what (Cancel name theirs) = inr (record { outs = refl; returned = refl; booked = refl })
    by_what (PutBack name first) = inl (only_none in_key r.ins)
    by_what (Forward slot entry) = inr still_leaves
    by_what (Return slot) = inr still_leaves

frees : (s : State) (c : Change) → Frees s c
frees s (TookFresh x) = inl (only_none in_key (row s x.peer).ins)
frees s (TookSwap x) = inr (record { outs = refl; returned = refl; booked = refl })
frees s (LetGo x) = inr (record { outs = refl; returned = refl; booked = refl })
frees s (LetGoBack x) = inr (record { outs = refl; returned = refl; booked = refl })
frees s (Settled x) = settled_frees s (row s x.peer) (row s x.peer).pending x.slots
frees s (Passed x) = inl (only_none in_key (row s x.peer).ins)
frees s (Failed x) = inl (only_none in_key (row s x.peer).ins)
frees s (Declined x) = inl (only_none in_key (row s x.peer).ins)
frees s (Discarded x) = inr (record { outs = refl; returned = refl; booked = refl })
frees s _ = inr still_leaves

-- the rows after a change of a peer
pub rows_freed : (s : State) (c : Change) (p : ℕ) → peer_of c ≡ Some p → all_rows_after s c ≡ at_row p (changed s c) (freed s c)
rows_freed s c p e =
    rows_are s c p e
    ∙ ap (λ rows. at_row p (note_of s c) (loosen (disturbed s c) rows)) (states_moved s c p s.rows)
    ∙ ap (at_row p (note_of s c)) (⊎_elim none (loosen_moved p (move_of s c) (disturbed s c) (states_of s c s.rows)) (frees s c))
    ∙ at_row_twice p (after_move (move_of s c)) (note_of s c) (freed s c)
  where
    none : disturbed s c ≡ [] → loosen (disturbed s c) (at_row p (after_move (move_of s c)) (states_of s c s.rows)) ≡ at_row p (after_move (move_of s c)) (freed s c)
    none h = ap (λ es. loosen es (at_row p (after_move (move_of s c)) (states_of s c s.rows))) h ∙ sym (ap (λ es. at_row p (after_move (move_of s c)) (loosen es (states_of s c s.rows))) h)

-- they are the rows before but for states
pub freed_bare : (s : State) (c : Change) → bare_rows (freed s c) ≡ bare_rows s.rows
freed_bare s c = loosen_labels (disturbed s c) (states_of s c s.rows) ∙ states_labels s c s.rows

-- and use as much of the capacity
pub freed_uses : (s : State) (c : Change) → rows_use s (freed s c) ≡ rows_use s s.rows
freed_uses s c = (loosen_steadies s (disturbed s c) (states_of s c s.rows)).use_is ∙ (states_steadies s c s.rows).use_is

-- ---- in whatever order entries go

label_twice : (o : Object) (st : OutState) (l : List OutEntry) → map (label_out o st) (map (label_out o st) l) ≡ map (label_out o st) l
label_twice o st [] = refl
label_twice o st (e ∷ es) = by_cases (object_eq e.object o)
    (λ k. rw (k, k) (ap (λ l. record e { state = st } ∷ l) (label_twice o st es)))
    (λ k. rw (k, k) (ap (λ l. e ∷ l) (label_twice o st es)))

debt_label_twice : (o : Object) (st : OutState) (l : List DebtEntry) → map (label_debt o st) (map (label_debt o st) l) ≡ map (label_debt o st) l
debt_label_twice o st [] = refl
debt_label_twice o st (d ∷ ds) = by_cases (object_eq d.object o)
    (λ k. rw (k, k) (ap (λ l. record d { state = st } ∷ l) (debt_label_twice o st ds)))
    (λ k. rw (k, k) (ap (λ l. d ∷ l) (debt_label_twice o st ds)))

labels_swap : (a b : Object) (st : OutState) (l : List OutEntry) → map (label_out a st) (map (label_out b st) l) ≡ map (label_out b st) (map (label_out a st) l)
labels_swap a b st [] = refl
labels_swap a b st (e ∷ es) = by_cases (object_eq e.object a)
    (λ k. by_cases (object_eq e.object b) (λ j. rw (k, j, k) (ap (λ l. record e { state = st } ∷ l) (labels_swap a b st es))) (λ j. rw (k, j, k) (ap (λ l. record e { state = st } ∷ l) (labels_swap a b st es))))
    (λ k. by_cases (object_eq e.object b) (λ j. rw (k, j, k) (ap (λ l. record e { state = st } ∷ l) (labels_swap a b st es))) (λ j. rw (k, j, k) (ap (λ l. e ∷ l) (labels_swap a b st es))))

debt_labels_swap : (a b : Object) (st : OutState) (l : List DebtEntry) → map (label_debt a st) (map (label_debt b st) l) ≡ map (label_debt b st) (map (label_debt a st) l)
debt_labels_swap a b st [] = refl
debt_labels_swap a b st (d ∷ ds) = by_cases (object_eq d.object a)
    (λ k. by_cases (object_eq d.object b) (λ j. rw (k, j, k) (ap (λ l. record d { state = st } ∷ l) (debt_labels_swap a b st ds))) (λ j. rw (k, j, k) (ap (λ l. record d { state = st } ∷ l) (debt_labels_swap a b st ds))))
    (λ k. by_cases (object_eq d.object b) (λ j. rw (k, j, k) (ap (λ l. record d { state = st } ∷ l) (debt_labels_swap a b st ds))) (λ j. rw (k, j, k) (ap (λ l. d ∷ l) (debt_labels_swap a b st ds))))

-- slots that come loose twice are loose, and one before the other or behind it
loose_twice : (n : ℕ) (r : Row) → loose_at n (loose_at n r) ≡ loose_at n r
loose_twice n r = λ i. record r { outs = label_twice (Slot n) on.Loose r.outs i; debts = debt_label_twice (Slot n) on.Loose r.debts i }

loose_swap : (m n : ℕ) (r : Row) → loose_at m (loose_at n r) ≡ loose_at n (loose_at m r)
loose_swap m n r = λ i. record r { outs = labels_swap (Slot m) (Slot n) on.Loose r.outs i; debts = debt_labels_swap (Slot m) (Slot n) on.Loose r.debts i }

at_row_same : (p : ℕ) (f g : Row → Row) → ((r : Row) → f r ≡ g r) → (rows : List (ℕ × Row)) → at_row p f rows ≡ at_row p g rows
at_row_same p f g h [] = refl
at_row_same p f g h (x ∷ xs) = by_cases (x.0 == p) (λ k. rw k (ap (λ r. (x.0, r) ∷ xs) (h x.1))) (λ k. rw k (ap (λ l. x ∷ l) (at_row_same p f g h xs)))

by_twice : (st : InState) (rows : List (ℕ × Row)) → loose_by st (loose_by st rows) ≡ loose_by st rows
by_twice (at.Forwarded seat) rows = at_row_twice seat.peer (loose_at seat.slot) (loose_at seat.slot) rows ∙ at_row_same seat.peer (λ r. loose_at seat.slot (loose_at seat.slot r)) (loose_at seat.slot) (loose_twice seat.slot) rows
by_twice at.Body rows = refl
by_twice at.Direct rows = refl
by_twice (at.Home i) rows = refl

by_swap : (st su : InState) (rows : List (ℕ × Row)) → loose_by st (loose_by su rows) ≡ loose_by su (loose_by st rows)
by_swap (at.Forwarded seat) (at.Forwarded there) rows = at_row_swap there.peer seat.peer (loose_at seat.slot) (loose_at there.slot) (loose_swap seat.slot there.slot) rows
by_swap (at.Forwarded seat) at.Body rows = refl
by_swap (at.Forwarded seat) at.Direct rows = refl
by_swap (at.Forwarded seat) (at.Home i) rows = refl
by_swap at.Body su rows = refl
by_swap at.Direct su rows = refl
by_swap (at.Home i) su rows = refl

loosen_swap : (st : InState) (es : List InEntry) (rows : List (ℕ × Row)) → loosen es (loose_by st rows) ≡ loose_by st (loosen es rows)
loosen_swap st [] rows = refl
loosen_swap st (e ∷ es) rows = ap (loosen es) (by_swap e.state st rows) ∙ loosen_swap st es (loose_by e.state rows)

listed_end : (os : List Object) (o x : Object) → listed (os ++ o ∷ []) x ≡ (listed os x || object_eq o x)
listed_end [] o x = or_false (object_eq o x)
  where
    or_false : (b : Bool) → (b || false) ≡ b
    or_false true = refl
    or_false false = refl
listed_end (y ∷ ys) o x = by_cases (object_eq y x) (λ k. rw k refl) (λ k. rw k (listed_end ys o x))

-- the objects of a list and then one more
pub loosen_more : (os : List Object) (o : Object) (l : List InEntry) (rows : List (ℕ × Row)) → loosen (only in_key (os ++ o ∷ []) l) rows ≡ loosen (only in_key (o ∷ []) l) (loosen (only in_key os l) rows)
loosen_more os o [] rows = refl
loosen_more os o (e ∷ es) rows = by_cases (listed os (in_key e))
    (λ k. by_cases (object_eq o (in_key e))
    (λ j. let both : listed (os ++ o ∷ []) (in_key e) ≡ true = listed_end os o (in_key e) ∙ rw k refl in
    rw (both, k, j)
    (loosen_more os o es (loose_by e.state rows)
    ∙ ap (loosen (only in_key (o ∷ []) es)) (ap (loosen (only in_key os es)) (sym (by_twice e.state rows)) ∙ loosen_swap e.state (only in_key os es) (loose_by e.state rows))))
    (λ j. let both : listed (os ++ o ∷ []) (in_key e) ≡ true = listed_end os o (in_key e) ∙ rw k refl in
    rw (both, k, j) (loosen_more os o es (loose_by e.state rows))))
    (λ k. by_cases (object_eq o (in_key e))
    (λ j. let both : listed (os ++ o ∷ []) (in_key e) ≡ true = listed_end os o (in_key e) ∙ rw (k, j) refl in
    rw (both, k, j) (loosen_more os o es (loose_by e.state rows) ∙ ap (loosen (only in_key (o ∷ []) es)) (loosen_swap e.state (only in_key os es) rows)))
    (λ j. let both : listed (os ++ o ∷ []) (in_key e) ≡ false = listed_end os o (in_key e) ∙ rw (k, j) refl in
    rw (both, k, j) (loosen_more os o es rows)))

-- ---- where no state changes

-- its bytes are not with another peer
abbrev pub is_here : InEntry → Bool
is_here e = elim e.state [ at.Forwarded seat ↦ false | _ ↦ true ]

-- nothing comes loose where no entry that goes is forwarded
pub loosen_none : (es : List InEntry) (rows : List (ℕ × Row)) → list_all is_here es ≡ true → loosen es rows ≡ rows
loosen_none [] rows h = refl
loosen_none (e ∷ es) rows h =
    let two = and_parts (is_here e) (list_all is_here es) h in
    ap (loosen es) (one e.state two.0) ∙ loosen_none es rows two.1
  where
    one : (st : InState) → elim st [ at.Forwarded seat ↦ false | _ ↦ true ] ≡ true → loose_by st rows ≡ rows
    one at.Body k = refl
    one at.Direct k = refl
    one (at.Forwarded seat) k = absurd (false≢true k)
    one (at.Home i) k = refl

-- a change of these kinds changes none, whatever stands there
abbrev pub frees_none : Change → Bool
frees_none (TookSwap x) = false
frees_none (LetGo x) = false
frees_none (LetGoBack x) = false
frees_none (Replaced x) = false
frees_none (Settled x) = false
frees_none (Discarded x) = false
frees_none _ = true

pub freed_none : (s : State) (c : Change) → frees_none c ≡ true → freed s c ≡ s.rows
freed_none s (TookSwap x) h = absurd (false≢true h)
freed_none s (LetGo x) h = absurd (false≢true h)
freed_none s (LetGoBack x) h = absurd (false≢true h)
freed_none s (Replaced x) h = absurd (false≢true h)
freed_none s (Settled x) h = absurd (false≢true h)
freed_none s (Discarded x) h = absurd (false≢true h)
freed_none s (TookFresh x) h = ap (λ es. loosen es s.rows) (only_none in_key (row s x.peer).ins)
freed_none s (Refused x) h = ap (λ es. loosen es s.rows) (only_none in_key (row s x.peer).ins)
freed_none s (Proposed x) h = ap (λ es. loosen es s.rows) (only_none in_key (row s x.peer).ins)
freed_none s (Turned x) h = ap (λ es. loosen es s.rows) (only_none in_key (row s x.peer).ins)
freed_none s (Asked x) h = ap (λ es. loosen es s.rows) (only_none in_key (row s x.peer).ins)
freed_none s (Passed x) h = ap (λ es. loosen es s.rows) (only_none in_key (row s x.peer).ins)
freed_none s (Failed x) h = ap (λ es. loosen es s.rows) (only_none in_key (row s x.peer).ins)
freed_none s (Declined x) h = ap (λ es. loosen es s.rows) (only_none in_key (row s x.peer).ins)
freed_none s _ h = refl

-- ---- what each entry is that the node answers for, whatever its state

-- a test of an entry, which a state does not change where it is a slot's
abbrev pub LeavesStates : (InEntry → Bool) → Type 0
LeavesStates t = (e : InEntry) (n : ℕ) (st : InState) → object_eq e.object (Slot n) ≡ true → t e ≡ true → t (record e { state = st }) ≡ true

abbrev AllEach : (InEntry → Bool) → List (ℕ × Row) → Type 0
AllEach t [] = Unit {0}
AllEach t (x ∷ xs) = (list_all t x.1.ins ≡ true) × AllEach t xs

each_at_peer : (t : InEntry → Bool) (rows : List (ℕ × Row)) (p : ℕ) → AllEach t rows → list_all t (row_in rows p).ins ≡ true
each_at_peer t [] p h = refl
each_at_peer t (x ∷ xs) p h = by_cases (x.0 == p) (λ k. rw k h.0) (λ k. rw k (each_at_peer t xs p h.1))

each_first : (t : InEntry → Bool) (o : Option Settings) → AllEach t (first_rows o)
each_first t None = tt
each_first t (Some x) = blanks x.peers
  where
    blanks : (ps : List PeerRow) → AllEach t (blank_rows ps)
    blanks [] = tt
    blanks (y ∷ ys) = (refl, blanks ys)

each_at_row : (t : InEntry → Bool) (p : ℕ) (f : Row → Row) (rows : List (ℕ × Row)) → ((r : Row) → list_all t r.ins ≡ true → list_all t (f r).ins ≡ true) → AllEach t rows → AllEach t (at_row p f rows)
each_at_row t p f [] g h = tt
each_at_row t p f (x ∷ xs) g h = by_cases (x.0 == p) (λ k. rw k (g x.1 h.0, h.1)) (λ k. rw k (h.0, each_at_row t p f xs g h.1))

each_labelled : (t : InEntry → Bool) → LeavesStates t → (n : ℕ) (st : InState) (l : List InEntry) → list_all t l ≡ true → list_all t (map (label_in (Slot n) st) l) ≡ true
each_labelled t same n st [] h = refl
each_labelled t same n st (e ∷ es) h =
    let two = and_parts (t e) (list_all t es) h in
    by_cases (object_eq e.object (Slot n))
    (λ k. rw (k, same e n st k two.0) (each_labelled t same n st es two.1))
    (λ k. rw (k, two.0) (each_labelled t same n st es two.1))

each_settled : (t : InEntry → Bool) → LeavesStates t → (p : ℕ) (d : Option Deal) (rows : List (ℕ × Row)) → AllEach t rows → AllEach t (settle_states p d rows)
each_settled t same p None rows h = h
each_settled t same p (Some d) rows h = by_what d.what
  where
    by_what : (w : DealWhat) → AllEach t (settle_states p (Some (record { number = d.number; what = w })) rows)
    by_what (Fresh name) = h
    by_what (Swap name mine) = h
    by_what (Cancel name theirs) = h
    by_what (PutBack name first) = h
    by_what (Forward slot entry) =
        let st : InState = at.Forwarded (record { peer = p; slot = slot }) in
        each_at_row t entry.peer (relabel_in (Slot entry.slot) st) (at_row p (relabel_out (Slot slot) (on.Carries entry)) rows) (λ r k. each_labelled t same entry.slot st r.ins k)
        (each_at_row t p (relabel_out (Slot slot) (on.Carries entry)) rows (λ r k. k) h)
    by_what (Return slot) = each_at_row t p (relabel_out (Slot slot) on.Own) rows (λ r k. k) h

each_states : (t : InEntry → Bool) → LeavesStates t → (s : State) (c : Change) (rows : List (ℕ × Row)) → AllEach t rows → AllEach t (states_of s c rows)
each_states t same s (Replaced x) rows h =
    let st : InState = cond (x.place == 0) at.Direct (at.Home x.home) in
    each_at_row t x.peer (relabel_in (Slot x.slot) st) rows (λ r k. each_labelled t same x.slot st r.ins k) h
each_states t same s (Settled x) rows h = each_settled t same x.peer (row s x.peer).pending rows h
each_states t same s _ rows h = h

each_loosened : (t : InEntry → Bool) (es : List InEntry) (rows : List (ℕ × Row)) → AllEach t rows → AllEach t (loosen es rows)
each_loosened t [] rows h = h
each_loosened t (e ∷ es) rows h = each_loosened t es (loose_by e.state rows) (one e.state)
  where
    one : (st : InState) → AllEach t (loose_by st rows)
    one (at.Forwarded seat) = each_at_row t seat.peer (loose_at seat.slot) rows (λ r k. k) h
    one at.Body = h
    one at.Direct = h
    one (at.Home i) = h

each_moved : (t : InEntry → Bool) (m : Move) (r : Row) → list_all t m.in_new ≡ true → list_all t r.ins ≡ true → list_all t (after_move m r).ins ≡ true
each_moved t m r new h = all m.in_new (without in_key m.in_gone r.ins) new (all_kept t (λ e. not (listed m.in_gone (in_key e))) r.ins h)
  where
    all : (es l : List InEntry) → list_all t es ≡ true → list_all t l ≡ true → list_all t (with_all in_key es l) ≡ true
    all [] l a b = b
    all (e ∷ es) l a b = let two = and_parts (t e) (list_all t es) a in all es (with_one in_key e l) two.1 (all_with_one in_key t e l two.0 b)

each_changed : (t : InEntry → Bool) (s : State) (c : Change) (r : Row) → list_all t (move_of s c).in_new ≡ true → list_all t r.ins ≡ true → list_all t (changed s c r).ins ≡ true
each_changed t s c r new h = ap (list_all t) (note_lists s c (after_move (move_of s c) r)).ins ∙ each_moved t (move_of s c) r new h

-- each entry that comes passes the test
abbrev pub PassComing : (InEntry → Bool) → Type 0
PassComing t = (s : State) (c : Change) → list_all t (move_of s c).in_new ≡ true

each_of_peer : (t : InEntry → Bool) → LeavesStates t → PassComing t → (s : State) (c : Change) (p : ℕ) → peer_of c ≡ Some p → AllEach t s.rows → AllEach t (all_rows_after s c)
each_of_peer t same new s c p e h =
    subst (AllEach t) (sym (rows_freed s c p e))
    (each_at_row t p (changed s c) (freed s c) (λ r k. each_changed t s c r (new s c) k) (each_loosened t (disturbed s c) (states_of s c s.rows) (each_states t same s c s.rows h)))

each_after : (t : InEntry → Bool) → LeavesStates t → PassComing t → (s : State) (c : Change) → AllEach t s.rows → AllEach t (all_rows_after s c)
each_after t same new s (Begun x) h = each_first t (settings_of_body x.body)
each_after t same new s (Kept x) h = h
each_after t same new s (Snapped x) h = h
each_after t same new s (Forgot x) h = h
each_after t same new s (Chose x) h = h
each_after t same new s (TookFresh x) h = each_of_peer t same new s (TookFresh x) x.peer refl h
each_after t same new s (TookSwap x) h = each_of_peer t same new s (TookSwap x) x.peer refl h
each_after t same new s (LetGo x) h = each_of_peer t same new s (LetGo x) x.peer refl h
each_after t same new s (LetGoBack x) h = each_of_peer t same new s (LetGoBack x) x.peer refl h
each_after t same new s (Replaced x) h = each_of_peer t same new s (Replaced x) x.peer refl h
each_after t same new s (Refused x) h = each_of_peer t same new s (Refused x) x.peer refl h
each_after t same new s (Proposed x) h = each_of_peer t same new s (Proposed x) x.peer refl h
each_after t same new s (Settled x) h = each_of_peer t same new s (Settled x) x.peer refl h
each_after t same new s (Turned x) h = each_of_peer t same new s (Turned x) x.peer refl h
each_after t same new s (Asked x) h = each_of_peer t same new s (Asked x) x.peer refl h
each_after t same new s (Passed x) h = each_of_peer t same new s (Passed x) x.peer refl h
each_after t same new s (Failed x) h = each_of_peer t same new s (Failed x) x.peer refl h
each_after t same new s (Declined x) h = each_of_peer t same new s (Declined x) x.peer refl h
each_after t same new s (Discarded x) h = each_of_peer t same new s (Discarded x) x.peer refl h

each_from : (t : InEntry → Bool) → LeavesStates t → PassComing t → (s : State) (h : List Change) → lawful_from s h ≡ true → AllEach t s.rows → AllEach t (state_from s h).rows
each_from t same new s [] v h = h
each_from t same new s (c ∷ cs) v h = each_from t same new (after s c) cs (lawful_cons s c cs v).rest (each_after t same new s c h)

pub each_entry : (t : InEntry → Bool) → LeavesStates t → PassComing t → (h : List Change) (p : ℕ) → is_lawful h ≡ true → list_all t (row (state h) p).ins ≡ true
each_entry t same new h p v = each_at_peer t (state h).rows p (each_from t same new nothing_yet h v tt)

-- ---- a chunk is forwarded nowhere

abbrev pub is_here_if_chunk : InEntry → Bool
is_here_if_chunk e = elim e.object [ Chunk n ↦ is_here e | Slot n ↦ true ]

slots_free : LeavesStates is_here_if_chunk
slots_free e n st k h = by_object e.object k
  where
    by_object : (o : Object) → object_eq o (Slot n) ≡ true → is_here_if_chunk (record { object = o; units = e.units; state = st }) ≡ true
    by_object (Chunk m) j = absurd (false≢true j)
    by_object (Slot m) j = refl

direct_free : (numbers : List ℕ) → list_all is_here_if_chunk (direct_slots numbers) ≡ true
direct_free [] = refl
direct_free (n ∷ ns) = direct_free ns

settled_free : (s : State) (r : Row) (d : Option Deal) (numbers : List ℕ) → list_all is_here_if_chunk (settle_move s r d numbers).in_new ≡ true
settled_free s r None numbers = refl
settled_free s r (Some d) numbers = by_what d.what
  where
    by_what : (w : DealWhat) → list_all is_here_if_chunk (settle_move s r (Some (record { number = d.number; what = w })) numbers).in_new ≡ true
    by_what (Fresh name) = direct_free numbers
    by_what (Swap name mine) = refl
    by_what (Cancel name theirs) = refl
    by_what (PutBack name first) = refl
    by_what (Forward slot entry) = refl
    by_what (Return slot) = refl

coming_free : PassComing is_here_if_chunk
coming_free s (TookFresh x) = refl
coming_free s (TookSwap x) = refl
coming_free s (LetGoBack x) = direct_free x.slots
coming_free s (Settled x) = settled_free s (row s x.peer) (row s x.peer).pending x.slots
coming_free s _ = refl

-- so nothing comes loose where a chunk goes
pub chunk_frees_none : (h : List Change) (p : ℕ) (name : List ℕ) (rows : List (ℕ × Row)) → is_lawful h ≡ true → loosen (only in_key (Chunk name ∷ []) (row (state h) p).ins) rows ≡ rows
chunk_frees_none h p name rows v = loosen_none (only in_key (Chunk name ∷ []) (row (state h) p).ins) rows (all (row (state h) p).ins (each_entry is_here_if_chunk slots_free coming_free h p v))
  where
    one : (e : InEntry) → is_here_if_chunk e ≡ true → listed (Chunk name ∷ []) (in_key e) ≡ true → is_here e ≡ true
    one e k j = by_object e.object k j
      where
        by_object : (o : Object) → elim o [ Chunk n ↦ is_here e | Slot n ↦ true ] ≡ true → listed (Chunk name ∷ []) o ≡ true → is_here e ≡ true
        by_object (Chunk n) a b = a
        by_object (Slot n) a b = absurd (false≢true b)

    all : (l : List InEntry) → list_all is_here_if_chunk l ≡ true → list_all is_here (only in_key (Chunk name ∷ []) l) ≡ true
    all [] k = refl
    all (e ∷ es) k =
        let two = and_parts (is_here_if_chunk e) (list_all is_here_if_chunk es) k in
        by_cases (listed (Chunk name ∷ []) (in_key e))
        (λ j. rw (j, one e two.0 j) (all es two.1))
        (λ j. rw j (all es two.1))
