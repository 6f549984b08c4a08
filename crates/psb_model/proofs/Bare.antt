-- What a change of any kind does to rows, but for the states of entries: one row moves and is noted.
use Rattle.std.proofs.Common.{◌≡◌, ℕ, Bool, true, ◌||◌, ◌&&◌, ◌==◌, cond, List, [], ◌∷◌, map, Option, Some, None, refl, sym, ap, ◌∙◌, subst}
use Rattle.std.specs.List.{list_any, list_all}
use Rattle.std.proofs.lemmas.Bool.{eqb-true}
use Rattle.psb_bytes.specs.declared.ids.Object.{Object}
use Rattle.psb_bytes.specs.declared.ids.Object.TheVariants.{Slot, Chunk}
use Rattle.psb_model.specs.declared.entries.InEntry.{InEntry}
use Rattle.psb_model.specs.declared.entries.OutEntry.{OutEntry}
use Rattle.psb_model.specs.declared.entries.DebtEntry.{DebtEntry}
use Rattle.psb_model.specs.declared.entries.InState.{InState}
use Rattle.psb_model.specs.declared.entries.InState.TheVariants as at
use Rattle.psb_model.specs.declared.entries.OutState.{OutState}
use Rattle.psb_model.specs.declared.entries.OutState.TheVariants as on
use Rattle.psb_model.specs.declared.deals.Deal.{Deal}
use Rattle.psb_model.specs.declared.deals.DealWhat.{DealWhat}
use Rattle.psb_model.specs.declared.deals.DealWhat.TheVariants.{Fresh, Swap, Cancel, PutBack, Forward, Return}
use Rattle.psb_model.specs.declared.change.Change.{Change}
use Rattle.psb_model.specs.declared.change.Change.TheVariants.{Begun, Replaced, Settled, TookFresh, TookSwap, LetGo, LetGoBack, Refused, Proposed, Turned, Asked, Passed, Failed, Declined, Discarded}
use Rattle.psb_model.specs.Words.{object_eq, name_listed, has}
use Rattle.psb_model.specs.State.{Row, State, row, row_in, is_peer, at_row, out_key, debt_key}
use Rattle.psb_model.specs.Conditions.{peer_of}
use Rattle.psb_model.specs.Move.{after_move}
use Rattle.psb_model.specs.Effects.{move_of, settle_states, states_of, note_of, loosen, relabel_in, relabel_out, relabel_debt, disturbed, rows_after, all_rows_after, after, deal_name, pending_name, is_named}
use Rattle.psb_model.proofs.ByObject.{by_cases}
use Rattle.psb_model.proofs.Rows.{row_in-at_row, row_in-at_other}

-- ---- entries and rows without states

abbrev pub bare_in : InEntry → InEntry
bare_in e = record e { state = at.Body }

abbrev pub bare_out : OutEntry → OutEntry
bare_out e = record e { state = on.Body }

abbrev pub bare_debt : DebtEntry → DebtEntry
bare_debt d = record d { state = on.Body }

abbrev pub bare : Row → Row
bare r = record r { ins = map bare_in r.ins; outs = map bare_out r.outs; debts = map bare_debt r.debts }

abbrev pub bare_rows : List (ℕ × Row) → List (ℕ × Row)
bare_rows = map (λ (x : ℕ × Row). (x.0, bare x.1))

-- ---- what does not look at states

pub any_bare : {E : Type 0} (g : E → E) (f : E → Bool) → ((e : E) → f (g e) ≡ f e) → (l : List E) → list_any f (map g l) ≡ list_any f l
any_bare g f h [] = refl
any_bare g f h (e ∷ es) = ap (λ b. b || list_any f (map g es)) (h e) ∙ ap (λ b. f e || b) (any_bare g f h es)

pub all_bare : {E : Type 0} (g : E → E) (f : E → Bool) → ((e : E) → f (g e) ≡ f e) → (l : List E) → list_all f (map g l) ≡ list_all f l
all_bare g f h [] = refl
all_bare g f h (e ∷ es) = ap (λ b. b && list_all f (map g es)) (h e) ∙ ap (λ b. f e && b) (all_bare g f h es)

pub has_bare : {E : Type 0} (key : E → Object) (g : E → E) → ((e : E) → key (g e) ≡ key e) → (l : List E) (o : Object) → has key (map g l) o ≡ has key l o
has_bare key g h l o = any_bare g (λ e. object_eq (key e) o) (λ e. ap (λ x. object_eq x o) (h e)) l

-- ---- labels

bare_label_in : (o : Object) (st : InState) (l : List InEntry) → map bare_in (map (λ (e : InEntry). cond (object_eq e.object o) (record e { state = st }) e) l) ≡ map bare_in l
bare_label_in o st [] = refl
bare_label_in o st (e ∷ es) = by_cases (object_eq e.object o) (λ k. rw k (ap (λ l. bare_in e ∷ l) (bare_label_in o st es))) (λ k. rw k (ap (λ l. bare_in e ∷ l) (bare_label_in o st es)))

bare_label_out : (o : Object) (st : OutState) (l : List OutEntry) → map bare_out (map (λ (e : OutEntry). cond (object_eq e.object o) (record e { state = st }) e) l) ≡ map bare_out l
bare_label_out o st [] = refl
bare_label_out o st (e ∷ es) = by_cases (object_eq e.object o) (λ k. rw k (ap (λ l. bare_out e ∷ l) (bare_label_out o st es))) (λ k. rw k (ap (λ l. bare_out e ∷ l) (bare_label_out o st es)))

bare_label_debt : (o : Object) (st : OutState) (l : List DebtEntry) → map bare_debt (map (λ (d : DebtEntry). cond (object_eq d.object o) (record d { state = st }) d) l) ≡ map bare_debt l
bare_label_debt o st [] = refl
bare_label_debt o st (e ∷ es) = by_cases (object_eq e.object o) (λ k. rw k (ap (λ l. bare_debt e ∷ l) (bare_label_debt o st es))) (λ k. rw k (ap (λ l. bare_debt e ∷ l) (bare_label_debt o st es)))

relabelled_in : (o : Object) (st : InState) (r : Row) → bare (relabel_in o st r) ≡ bare r
relabelled_in o st r = ap (λ l. record (bare r) { ins = l }) (bare_label_in o st r.ins)

relabelled_out : (o : Object) (st : OutState) (r : Row) → bare (relabel_out o st r) ≡ bare r
relabelled_out o st r = ap (λ l. record (bare r) { outs = l }) (bare_label_out o st r.outs)

relabelled_debt : (o : Object) (st : OutState) (r : Row) → bare (relabel_debt o st r) ≡ bare r
relabelled_debt o st r = ap (λ l. record (bare r) { debts = l }) (bare_label_debt o st r.debts)

-- where a row gets labels alone, all rows stay but for states
at_labelled : (p : ℕ) (f : Row → Row) → ((r : Row) → bare (f r) ≡ bare r) → (rows : List (ℕ × Row)) → bare_rows (at_row p f rows) ≡ bare_rows rows
at_labelled p f h [] = refl
at_labelled p f h (x ∷ xs) = by_cases (x.0 == p)
    (λ k. rw k (ap (λ r. (x.0, r) ∷ bare_rows xs) (h x.1)))
    (λ k. rw k (ap (λ l. (x.0, bare x.1) ∷ l) (at_labelled p f h xs)))

settle_labels : (p number : ℕ) (what : DealWhat) (rows : List (ℕ × Row)) → bare_rows (settle_states p (Some (record { number = number; what = what })) rows) ≡ bare_rows rows
settle_labels p number (Fresh name) rows = refl
settle_labels p number (Swap name numbers) rows = refl
settle_labels p number (Cancel name numbers) rows = refl
settle_labels p number (PutBack name first) rows = refl
settle_labels p number (Forward slot entry) rows =
    at_labelled entry.peer (relabel_in (Slot entry.slot) (at.Forwarded (record { peer = p; slot = slot }))) (relabelled_in (Slot entry.slot) (at.Forwarded (record { peer = p; slot = slot }))) (at_row p (relabel_out (Slot slot) (on.Carries entry)) rows)
    ∙ at_labelled p (relabel_out (Slot slot) (on.Carries entry)) (relabelled_out (Slot slot) (on.Carries entry)) rows
settle_labels p number (Return slot) rows = at_labelled p (relabel_out (Slot slot) on.Own) (relabelled_out (Slot slot) on.Own) rows

settled_labels : (p : ℕ) (d : Option Deal) (rows : List (ℕ × Row)) → bare_rows (settle_states p d rows) ≡ bare_rows rows
settled_labels p None rows = refl
settled_labels p (Some d) rows = settle_labels p d.number d.what rows

pub states_labels : (s : State) (c : Change) (rows : List (ℕ × Row)) → bare_rows (states_of s c rows) ≡ bare_rows rows
states_labels s (Replaced x) rows = at_labelled x.peer (relabel_in (Slot x.slot) (cond (x.place == 0) at.Direct (at.Home x.home))) (relabelled_in (Slot x.slot) (cond (x.place == 0) at.Direct (at.Home x.home))) rows
states_labels s (Settled x) rows = settled_labels x.peer (row s x.peer).pending rows
states_labels s _ rows = refl

loose_label : (o : Object) (r : Row) → bare (relabel_debt o on.Loose (relabel_out o on.Loose r)) ≡ bare r
loose_label o r = relabelled_debt o on.Loose (relabel_out o on.Loose r) ∙ relabelled_out o on.Loose r

loosen_one : (st : InState) (rows : List (ℕ × Row)) → bare_rows (elim st [ at.Forwarded seat ↦ at_row seat.peer (λ r. relabel_debt (Slot seat.slot) on.Loose (relabel_out (Slot seat.slot) on.Loose r)) rows | _ ↦ rows ]) ≡ bare_rows rows
loosen_one (at.Forwarded seat) rows = at_labelled seat.peer (λ r. relabel_debt (Slot seat.slot) on.Loose (relabel_out (Slot seat.slot) on.Loose r)) (loose_label (Slot seat.slot)) rows
loosen_one at.Body rows = refl
loosen_one at.Direct rows = refl
loosen_one (at.Home i) rows = refl

pub loosen_labels : (es : List InEntry) (rows : List (ℕ × Row)) → bare_rows (loosen es rows) ≡ bare_rows rows
loosen_labels [] rows = refl
loosen_labels (e ∷ es) rows = loosen_labels es _ ∙ loosen_one e.state rows

-- ---- a change of a peer

-- what is noted of a row has nothing to do with states
note_bare : (s : State) (c : Change) (r : Row) → bare (note_of s c r) ≡ note_of s c (bare r)
note_bare s (Passed x) r = by_cases (x.asked == 0) (λ k. rw k refl) (λ k. rw k refl)
note_bare s (TookFresh x) r = refl
note_bare s (TookSwap x) r = refl
note_bare s (LetGo x) r = refl
note_bare s (LetGoBack x) r = refl
note_bare s (Replaced x) r = refl
note_bare s (Refused x) r = refl
note_bare s (Proposed x) r = refl
note_bare s (Settled x) r = refl
note_bare s (Turned x) r = refl
note_bare s (Asked x) r = refl
note_bare s (Failed x) r = refl
note_bare s (Declined x) r = refl
note_bare s (Discarded x) r = refl
note_bare s _ r = refl

at_noted : (s : State) (c : Change) (p : ℕ) (rows : List (ℕ × Row)) → bare_rows (at_row p (note_of s c) rows) ≡ at_row p (note_of s c) (bare_rows rows)
at_noted s c p [] = refl
at_noted s c p (x ∷ xs) = by_cases (x.0 == p)
    (λ k. rw k (ap (λ r. (x.0, r) ∷ bare_rows xs) (note_bare s c x.1)))
    (λ k. rw k (ap (λ l. (x.0, bare x.1) ∷ l) (at_noted s c p xs)))

pub at_row_twice : (p : ℕ) (f g : Row → Row) (rows : List (ℕ × Row)) → at_row p g (at_row p f rows) ≡ at_row p (λ r. g (f r)) rows
at_row_twice p f g [] = refl
at_row_twice p f g (x ∷ xs) = by_cases (x.0 == p) (λ k. rw (k, k) refl) (λ k. rw (k, k) (ap (λ l. x ∷ l) (at_row_twice p f g xs)))

-- what a change does to the row of its peer, but for states
abbrev pub changed : State → Change → Row → Row
changed s c r = note_of s c (after_move (move_of s c) r)

pub rows_bare : (s : State) (c : Change) (p : ℕ) → bare_rows (rows_after s c p) ≡ bare_rows (at_row p (changed s c) s.rows)
rows_bare s c p =
    let first = at_row p (after_move (move_of s c)) s.rows in
    let labels = loosen_labels (disturbed s c) (states_of s c first) ∙ states_labels s c first in
    at_noted s c p (loosen (disturbed s c) (states_of s c first))
    ∙ ap (at_row p (note_of s c)) labels
    ∙ sym (at_noted s c p first)
    ∙ ap bare_rows (at_row_twice p (after_move (move_of s c)) (note_of s c) s.rows)

-- a change of a peer is no Begun
pub rows_are : (s : State) (c : Change) (p : ℕ) → peer_of c ≡ Some p → all_rows_after s c ≡ rows_after s c p
rows_are s (Begun x) p e = absurd (cc (e))
rows_are s c p e = ap (λ (o : Option ℕ). elim o [ None ↦ s.rows | Some q ↦ rows_after s c q ]) e

pub rows_then : (s : State) (c : Change) (p : ℕ) → peer_of c ≡ Some p → bare_rows (all_rows_after s c) ≡ bare_rows (at_row p (changed s c) s.rows)
rows_then s c p e = ap bare_rows (rows_are s c p e) ∙ rows_bare s c p

pub row_in-bare : (rows : List (ℕ × Row)) (p : ℕ) → row_in (bare_rows rows) p ≡ bare (row_in rows p)
row_in-bare [] p = refl
row_in-bare (x ∷ xs) p = by_cases (x.0 == p) (λ k. rw k refl) (λ k. rw k (row_in-bare xs p))

-- the row of each peer after a change of one
pub row_bare : (s : State) (c : Change) (q p : ℕ) → peer_of c ≡ Some q → is_peer s q ≡ true → bare (row (after s c) p) ≡ bare (cond (q == p) (changed s c (row s p)) (row s p))
row_bare s c q p e here =
    sym (row_in-bare (all_rows_after s c) p) ∙ ap (λ rows. row_in rows p) (rows_then s c q e) ∙ row_in-bare (at_row q (changed s c) s.rows) p
    ∙ by_cases (q == p)
    (λ k. rw k (ap bare (subst (λ x. row_in (at_row q (changed s c) s.rows) x ≡ changed s c (row s x)) (eqb-true q p k) (row_in-at_row q (changed s c) s.rows here))))
    (λ k. rw k (ap bare (row_in-at_other q p (changed s c) s.rows k)))

-- what rows name does not look at states
pub named_bare : (rows : List (ℕ × Row)) (n : List ℕ) → is_named (bare_rows rows) n ≡ is_named rows n
named_bare [] n = refl
named_bare (x ∷ xs) n =
    ap (λ b. b || has debt_key (bare x.1).debts (Chunk n) || name_listed (pending_name deal_name x.1.pending) n || is_named (bare_rows xs) n) (has_bare out_key bare_out (λ e. refl) x.1.outs (Chunk n))
    ∙ ap (λ b. has out_key x.1.outs (Chunk n) || b || name_listed (pending_name deal_name x.1.pending) n || is_named (bare_rows xs) n) (has_bare debt_key bare_debt (λ d. refl) x.1.debts (Chunk n))
    ∙ ap (λ b. has out_key x.1.outs (Chunk n) || has debt_key x.1.debts (Chunk n) || name_listed (pending_name deal_name x.1.pending) n || b) (named_bare xs n)

pub named_then : (s : State) (c : Change) (p : ℕ) (n : List ℕ) → peer_of c ≡ Some p → is_named (all_rows_after s c) n ≡ is_named (at_row p (changed s c) s.rows) n
named_then s c p n peer = sym (named_bare (all_rows_after s c) n) ∙ ap (λ rows. is_named rows n) (rows_then s c p peer) ∙ named_bare (at_row p (changed s c) s.rows) n
