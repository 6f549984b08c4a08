-- The rows of the peers, one by one: what is kept where only states of entries change.
use Rattle.std.proofs.Common.{◌≡◌, ℕ, ◌≤◌, Bool, true, false, ◌||◌, cond, List, [], ◌∷◌, Option, Some, None, refl, sym, ap, ◌∙◌, arith}
use Rattle.std.specs.Prelude.{◌==◌}
use Rattle.std.proofs.lemmas.Bool.{false≢true, eqb-true, eqb-false, ne_eqb}
use Rattle.psb_bytes.specs.declared.ids.Object.{Object}
use Rattle.psb_bytes.specs.declared.ids.Object.TheVariants.{Chunk, Slot}
use Rattle.psb_model.specs.declared.entries.InEntry.{InEntry}
use Rattle.psb_model.specs.declared.entries.OutEntry.{OutEntry}
use Rattle.psb_model.specs.declared.entries.DebtEntry.{DebtEntry}
use Rattle.psb_model.specs.declared.entries.OwnEntry.{OwnEntry}
use Rattle.psb_settings.specs.declared.settings.PeerRow.{PeerRow}
use Rattle.psb_settings.specs.declared.settings.Settings.{Settings}
use Rattle.psb_model.specs.declared.deals.Deal.{Deal}
use Rattle.psb_model.specs.declared.deals.DealWhat.{DealWhat}
use Rattle.psb_model.specs.declared.deals.DealWhat.TheVariants.{Fresh, Swap, Cancel, PutBack, Forward, Return}
use Rattle.psb_model.specs.declared.entries.OutState.{OutState}
use Rattle.psb_model.specs.declared.entries.OutState.TheVariants as on
use Rattle.psb_model.specs.declared.entries.InState.{InState}
use Rattle.psb_model.specs.declared.entries.InState.TheVariants as at
use Rattle.psb_model.specs.declared.change.Change.{Change}
use Rattle.psb_model.specs.declared.change.Change.TheVariants.{TookFresh, TookSwap, LetGo, LetGoBack, Replaced, Refused, Proposed, Settled, Turned, Asked, Passed, Failed, Declined, Discarded}
use Rattle.psb_model.specs.Effects.{blank_rows, first_rows, loosen, note_of, relabel_debt, relabel_in, relabel_out, settle_states, states_of}
use Rattle.psb_model.specs.State.{Row, State, at_row, back_units, blank, debt_key, debt_units, debt_size, has_row, held_units, in_key, in_size, out_key, out_size, row, row_in}
use Rattle.psb_model.specs.Words.{object_eq, units_at}
use Rattle.psb_model.proofs.ByObject.{by_cases, occurs, units_at-map, sum_by-map, Ones, Ones-map}
use Rattle.psb_model.proofs.Parts.{booked_units}
use Rattle.psb_model.proofs.Tidy.{IsTidy}
use Rattle.psb_model.proofs.Standing.{StandsFor}

-- two rows with the same objects and units
pub record Alike (r r' : Row) : Type 0 where
  pub held : held_units r' ≡ held_units r
  pub back : back_units r' ≡ back_units r
  pub debt : debt_units r' ≡ debt_units r
  pub ins : (o : Object) → occurs in_key r'.ins o ≡ occurs in_key r.ins o
  pub outs : (o : Object) → occurs out_key r'.outs o ≡ occurs out_key r.outs o
  pub debts : (o : Object) → occurs debt_key r'.debts o ≡ occurs debt_key r.debts o
  pub sizes : (o : Object) → units_at out_key out_size r'.outs o ≡ units_at out_key out_size r.outs o
  pub ins_ones : Ones in_key in_size r.ins → Ones in_key in_size r'.ins
  pub outs_ones : Ones out_key out_size r.outs → Ones out_key out_size r'.outs
  pub debts_ones : Ones debt_key booked_units r.debts → Ones debt_key booked_units r'.debts
  pub pending : r'.pending ≡ r.pending
  pub asked : r'.asked ≡ r.asked

pub alike_self : (r : Row) → Alike r r
alike_self r = record { held = refl; back = refl; debt = refl; ins = λ o. refl; outs = λ o. refl; debts = λ o. refl; sizes = λ o. refl; ins_ones = λ h. h; outs_ones = λ h. h; debts_ones = λ h. h; pending = refl; asked = refl }

pub alike_then : (a b c : Row) → Alike a b → Alike b c → Alike a c
alike_then a b c x y = record {
  held = y.held ∙ x.held;
  back = y.back ∙ x.back;
  debt = y.debt ∙ x.debt;
  ins = λ o. y.ins o ∙ x.ins o;
  outs = λ o. y.outs o ∙ x.outs o;
  debts = λ o. y.debts o ∙ x.debts o;
  sizes = λ o. y.sizes o ∙ x.sizes o;
  ins_ones = λ h. y.ins_ones (x.ins_ones h);
  outs_ones = λ h. y.outs_ones (x.outs_ones h);
  debts_ones = λ h. y.debts_ones (x.debts_ones h);
  pending = y.pending ∙ x.pending;
  asked = y.asked ∙ x.asked;
}

pub tidy_alike : (issued : ℕ) (r r' : Row) → Alike r r' → IsTidy issued r → IsTidy issued r'
tidy_alike issued r r' a t = record {
  balanced = omega (arith, a.held, a.back, a.debt, t.balanced);
  ins_once = λ o. omega (arith, a.ins o, t.ins_once o);
  ins_ones = a.ins_ones t.ins_ones;
  outs_once = λ o. omega (arith, a.outs o, a.debts o, t.outs_once o);
  outs_ones = a.outs_ones t.outs_ones;
  debts_ones = a.debts_ones t.debts_ones;
  below = λ n h. omega (arith, a.outs (Slot n), a.debts (Slot n), t.below n h);
}

pub stands_alike : (issued : ℕ) (own : List OwnEntry) (r r' : Row) (d : DealWhat) → Alike r r' → StandsFor issued own r d → StandsFor issued own r' d
stands_alike issued own r r' (Fresh name) a s = omega (arith, a.outs (Chunk name), a.debts (Chunk name), s)
stands_alike issued own r r' (Swap name numbers) a s = record { absent = omega (arith, a.outs (Chunk name), a.debts (Chunk name), s.absent); owned = s.owned; long = s.long; ascends = s.ascends; here = λ o h. a.outs o ∙ s.here o h }
stands_alike issued own r r' (Cancel name numbers) a s = record { present = a.outs (Chunk name) ∙ s.present; long = s.long ∙ sym (a.sizes (Chunk name)); ascends = s.ascends; here = λ o h. a.ins o ∙ s.here o h }
stands_alike issued own r r' (PutBack name first) a s = record {
  present = a.outs (Chunk name) ∙ s.present;
  drawn = omega (arith, s.drawn, a.sizes (Chunk name));
  free = λ n low high. omega (arith, a.outs (Slot n), a.debts (Slot n), s.free n low (omega (arith, high, a.sizes (Chunk name))));
}
stands_alike issued own r r' (Forward slot entry) a s = tt
stands_alike issued own r r' (Return slot) a s = tt

-- new states
in_label : (o : Object) (st : InState) → InEntry → InEntry
in_label o st e = cond (object_eq e.object o) (record e { state = st }) e

same_field : {A B : Type 0} (f : A → B) (b : Bool) (x y : A) → f x ≡ f y → f (cond b x y) ≡ f y
same_field f true x y h = h
same_field f false x y h = refl

pub relabel_in_alike : (o : Object) (st : InState) (r : Row) → Alike r (relabel_in o st r)
relabel_in_alike o st r =
    let g : InEntry → InEntry = λ e. cond (object_eq e.object o) (record e { state = st }) e in
    let key : (e : InEntry) → in_key (g e) ≡ in_key e = λ e. same_field in_key (object_eq e.object o) (record e { state = st }) e refl in
    let size : (e : InEntry) → in_size (g e) ≡ in_size e = λ e. same_field in_size (object_eq e.object o) (record e { state = st }) e refl in
    record {
      held = sum_by-map in_size in_size g size r.ins;
      back = refl;
      debt = refl;
      ins = units_at-map in_key (λ _. 1) in_key (λ _. 1) g key (λ e. refl) r.ins;
      outs = λ x. refl;
      debts = λ x. refl;
      sizes = λ x. refl;
      ins_ones = Ones-map in_key in_size in_key in_size g key size r.ins;
      outs_ones = λ h. h;
      debts_ones = λ h. h;
      pending = refl;
      asked = refl;
    }

pub relabel_out_alike : (o : Object) (st : OutState) (r : Row) → Alike r (relabel_out o st r)
relabel_out_alike o st r =
    let g : OutEntry → OutEntry = λ e. cond (object_eq e.object o) (record e { state = st }) e in
    let key : (e : OutEntry) → out_key (g e) ≡ out_key e = λ e. same_field out_key (object_eq e.object o) (record e { state = st }) e refl in
    let size : (e : OutEntry) → out_size (g e) ≡ out_size e = λ e. same_field out_size (object_eq e.object o) (record e { state = st }) e refl in
    record {
      held = refl;
      back = sum_by-map out_size out_size g size r.outs;
      debt = refl;
      ins = λ x. refl;
      outs = units_at-map out_key (λ _. 1) out_key (λ _. 1) g key (λ e. refl) r.outs;
      debts = λ x. refl;
      sizes = units_at-map out_key out_size out_key out_size g key size r.outs;
      ins_ones = λ h. h;
      outs_ones = Ones-map out_key out_size out_key out_size g key size r.outs;
      debts_ones = λ h. h;
      pending = refl;
      asked = refl;
    }

pub relabel_debt_alike : (o : Object) (st : OutState) (r : Row) → Alike r (relabel_debt o st r)
relabel_debt_alike o st r =
    let g : DebtEntry → DebtEntry = λ e. cond (object_eq e.object o) (record e { state = st }) e in
    let key : (e : DebtEntry) → debt_key (g e) ≡ debt_key e = λ e. same_field debt_key (object_eq e.object o) (record e { state = st }) e refl in
    let size : (e : DebtEntry) → debt_size (g e) ≡ debt_size e = λ e. same_field debt_size (object_eq e.object o) (record e { state = st }) e refl in
    let all : (e : DebtEntry) → booked_units (g e) ≡ booked_units e = λ e. same_field booked_units (object_eq e.object o) (record e { state = st }) e refl in
    record {
      held = refl;
      back = refl;
      debt = sum_by-map debt_size debt_size g size r.debts;
      ins = λ x. refl;
      outs = λ x. refl;
      debts = units_at-map debt_key (λ _. 1) debt_key (λ _. 1) g key (λ e. refl) r.debts;
      sizes = λ x. refl;
      ins_ones = λ h. h;
      outs_ones = λ h. h;
      debts_ones = Ones-map debt_key booked_units debt_key booked_units g key all r.debts;
      pending = refl;
      asked = refl;
    }

-- ROWS

pub row_in-at_row : (p : ℕ) (f : Row → Row) (rows : List (ℕ × Row)) → has_row rows p ≡ true → row_in (at_row p f rows) p ≡ f (row_in rows p)
row_in-at_row p f [] h = absurd (false≢true h)
row_in-at_row p f (x ∷ xs) h =
    by_cases (x.0 == p)
    (λ k. rw (k, k) refl)
    (λ k. rw (k, k) (row_in-at_row p f xs (sym (ap (λ b. b || has_row xs p) k) ∙ h)))

pub row_in-at_other : (p q : ℕ) (f : Row → Row) (rows : List (ℕ × Row)) → (p == q) ≡ false → row_in (at_row p f rows) q ≡ row_in rows q
row_in-at_other p q f [] h = refl
row_in-at_other p q f (x ∷ xs) h =
    by_cases (x.0 == p)
    (λ k. let k' : (x.0 == q) ≡ false = ne_eqb x.0 q (λ e. eqb-false p q h (sym (eqb-true x.0 p k) ∙ e)) in rw (k, k') refl)
    (λ k. rw k (ap (λ r. cond (x.0 == q) x.1 r) (row_in-at_other p q f xs h)))

pub has_row-at_row : (p q : ℕ) (f : Row → Row) (rows : List (ℕ × Row)) → has_row (at_row p f rows) q ≡ has_row rows q
has_row-at_row p q f [] = refl
has_row-at_row p q f (x ∷ xs) = by_cases (x.0 == p) (λ k. rw k refl) (λ k. rw k (ap (λ b. (x.0 == q) || b) (has_row-at_row p q f xs)))

-- the rows of each peer are alike, and the peers are the same
pub record AlikeRows (rows rows' : List (ℕ × Row)) : Type 0 where
  pub each : (q : ℕ) → Alike (row_in rows q) (row_in rows' q)
  pub peers : (q : ℕ) → has_row rows' q ≡ has_row rows q

pub alike_rows_self : (rows : List (ℕ × Row)) → AlikeRows rows rows
alike_rows_self rows = record { each = λ q. alike_self (row_in rows q); peers = λ q. refl }

pub alike_rows_then : (a b c : List (ℕ × Row)) → AlikeRows a b → AlikeRows b c → AlikeRows a c
alike_rows_then a b c x y = record { each = λ q. alike_then (row_in a q) (row_in b q) (row_in c q) (x.each q) (y.each q); peers = λ q. y.peers q ∙ x.peers q }

at_row_each : (p : ℕ) (f : Row → Row) → ((r : Row) → Alike r (f r)) → (rows : List (ℕ × Row)) (q : ℕ) → Alike (row_in rows q) (row_in (at_row p f rows) q)
at_row_each p f h [] q = alike_self blank
at_row_each p f h (x ∷ xs) q =
    by_cases (x.0 == p)
    (λ k. rw k (by_cases (x.0 == q) (λ j. rw j (h x.1)) (λ j. rw j (alike_self (row_in xs q)))))
    (λ k. rw k (by_cases (x.0 == q) (λ j. rw j (alike_self x.1)) (λ j. rw j (at_row_each p f h xs q))))

pub at_row_alike : (p : ℕ) (f : Row → Row) → ((r : Row) → Alike r (f r)) → (rows : List (ℕ × Row)) → AlikeRows rows (at_row p f rows)
at_row_alike p f h rows = record { each = at_row_each p f h rows; peers = λ q. has_row-at_row p q f rows }

settle_states_alike : (p : ℕ) (what : DealWhat) (number : ℕ) (rows : List (ℕ × Row)) → AlikeRows rows (settle_states p (Some (record { number = number; what = what })) rows)
settle_states_alike p (Fresh name) number rows = alike_rows_self rows
settle_states_alike p (Swap name numbers) number rows = alike_rows_self rows
settle_states_alike p (Cancel name numbers) number rows = alike_rows_self rows
settle_states_alike p (PutBack name first) number rows = alike_rows_self rows
settle_states_alike p (Forward slot entry) number rows =
    alike_rows_then rows _ _
    (at_row_alike p _ (relabel_out_alike (Slot slot) (on.Carries entry)) rows)
    (at_row_alike entry.peer _ (relabel_in_alike (Slot entry.slot) (at.Forwarded (record { peer = p; slot = slot }))) _)
settle_states_alike p (Return slot) number rows = at_row_alike p _ (relabel_out_alike (Slot slot) on.Own) rows

settled_alike : (p : ℕ) (d : Option Deal) (rows : List (ℕ × Row)) → AlikeRows rows (settle_states p d rows)
settled_alike p None rows = alike_rows_self rows
settled_alike p (Some d) rows = settle_states_alike p d.what d.number rows

pub states_alike : (s : State) (c : Change) (rows : List (ℕ × Row)) → AlikeRows rows (states_of s c rows)
states_alike s (Replaced x) rows = at_row_alike x.peer _ (relabel_in_alike (Slot x.slot) (cond (x.place == 0) at.Direct (at.Home x.home))) rows
states_alike s (Settled x) rows = settled_alike x.peer (row s x.peer).pending rows
states_alike s _ rows = alike_rows_self rows

pub loose_alike : (o : Object) (r : Row) → Alike r (relabel_debt o on.Loose (relabel_out o on.Loose r))
loose_alike o r = alike_then r (relabel_out o on.Loose r) _ (relabel_out_alike o on.Loose r) (relabel_debt_alike o on.Loose (relabel_out o on.Loose r))

loosen_one : (st : InState) (rows : List (ℕ × Row)) → AlikeRows rows (elim st [ at.Forwarded seat ↦ at_row seat.peer (λ r. relabel_debt (Slot seat.slot) on.Loose (relabel_out (Slot seat.slot) on.Loose r)) rows | _ ↦ rows ])
loosen_one (at.Forwarded seat) rows = at_row_alike seat.peer _ (loose_alike (Slot seat.slot)) rows
loosen_one at.Body rows = alike_rows_self rows
loosen_one at.Direct rows = alike_rows_self rows
loosen_one (at.Home i) rows = alike_rows_self rows

pub loosen_alike : (es : List InEntry) (rows : List (ℕ × Row)) → AlikeRows rows (loosen es rows)
loosen_alike [] rows = alike_rows_self rows
loosen_alike (e ∷ es) rows = alike_rows_then rows _ _ (loosen_one e.state rows) (loosen_alike es _)

-- what is noted of a row changes none of its lists
pub record SameLists (r r' : Row) : Type 0 where
  pub ins : r'.ins ≡ r.ins
  pub outs : r'.outs ≡ r.outs
  pub debts : r'.debts ≡ r.debts

same_lists_self : (r : Row) → SameLists r r
same_lists_self r = record { ins = refl; outs = refl; debts = refl }

pub note_lists : (s : State) (c : Change) (r : Row) → SameLists r (note_of s c r)
note_lists s (TookFresh x) r = record { ins = refl; outs = refl; debts = refl }
note_lists s (TookSwap x) r = record { ins = refl; outs = refl; debts = refl }
note_lists s (LetGo x) r = record { ins = refl; outs = refl; debts = refl }
note_lists s (LetGoBack x) r = record { ins = refl; outs = refl; debts = refl }
note_lists s (Replaced x) r = record { ins = refl; outs = refl; debts = refl }
note_lists s (Refused x) r = record { ins = refl; outs = refl; debts = refl }
note_lists s (Proposed x) r = record { ins = refl; outs = refl; debts = refl }
note_lists s (Settled x) r = record { ins = refl; outs = refl; debts = refl }
note_lists s (Turned x) r = record { ins = refl; outs = refl; debts = refl }
note_lists s (Asked x) r = record { ins = refl; outs = refl; debts = refl }
note_lists s (Passed x) r = by_cases (x.asked == 0) (λ k. rw k (same_lists_self r)) (λ k. rw k (record { ins = refl; outs = refl; debts = refl }))
note_lists s (Failed x) r = record { ins = refl; outs = refl; debts = refl }
note_lists s (Declined x) r = record { ins = refl; outs = refl; debts = refl }
note_lists s (Discarded x) r = record { ins = refl; outs = refl; debts = refl }
note_lists s _ r = same_lists_self r

-- facts of the lists carry over
pub tidy_lists : (issued : ℕ) (r r' : Row) → SameLists r r' → IsTidy issued r → IsTidy issued r'
tidy_lists issued r r' h t = record {
  balanced = rw (h.ins, h.outs, h.debts) t.balanced;
  ins_once = rw h.ins t.ins_once;
  ins_ones = rw h.ins t.ins_ones;
  outs_once = rw (h.outs, h.debts) t.outs_once;
  outs_ones = rw h.outs t.outs_ones;
  debts_ones = rw h.debts t.debts_ones;
  below = rw (h.outs, h.debts) t.below;
}

pub stands_lists : (issued : ℕ) (own : List OwnEntry) (r r' : Row) (d : DealWhat) → SameLists r r' → StandsFor issued own r d → StandsFor issued own r' d
stands_lists issued own r r' (Fresh name) h s = rw (h.outs, h.debts) s
stands_lists issued own r r' (Swap name numbers) h s = record { absent = rw (h.outs, h.debts) s.absent; owned = s.owned; long = s.long; ascends = s.ascends; here = rw h.outs s.here }
stands_lists issued own r r' (Cancel name numbers) h s = record { present = rw h.outs s.present; long = rw h.outs s.long; ascends = s.ascends; here = rw h.ins s.here }
stands_lists issued own r r' (PutBack name first) h s = record { present = rw h.outs s.present; drawn = rw h.outs s.drawn; free = rw (h.outs, h.debts) s.free }
stands_lists issued own r r' (Forward slot entry) h s = tt
stands_lists issued own r r' (Return slot) h s = tt

pub tidy_blank : (issued : ℕ) → IsTidy issued blank
tidy_blank issued = record { balanced = refl; ins_once = λ o. omega arith; ins_ones = tt; outs_once = λ o. omega arith; outs_ones = tt; debts_ones = tt; below = λ n h. refl }

pub row_in-blank_rows : (ps : List PeerRow) (q : ℕ) → row_in (blank_rows ps) q ≡ blank
row_in-blank_rows [] q = refl
row_in-blank_rows (x ∷ xs) q = by_cases (x.id == q) (λ k. rw k refl) (λ k. rw k (row_in-blank_rows xs q))

pub row_in-first_rows : (o : Option Settings) (q : ℕ) → row_in (first_rows o) q ≡ blank
row_in-first_rows None q = refl
row_in-first_rows (Some x) q = row_in-blank_rows x.peers q

pub tidy_later : (issued issued' : ℕ) (r : Row) → issued ≤ issued' → IsTidy issued r → IsTidy issued' r
tidy_later issued issued' r le t = record { balanced = t.balanced; ins_once = t.ins_once; ins_ones = t.ins_ones; outs_once = t.outs_once; outs_ones = t.outs_ones; debts_ones = t.debts_ones; below = λ n h. t.below n (omega arith) }

pub stands_later : (issued issued' : ℕ) (own : List OwnEntry) (r : Row) (d : DealWhat) → issued ≤ issued' → StandsFor issued own r d → StandsFor issued' own r d
stands_later issued issued' own r (Fresh name) le s = s
stands_later issued issued' own r (Swap name numbers) le s = s
stands_later issued issued' own r (Cancel name numbers) le s = s
stands_later issued issued' own r (PutBack name first) le s = record { present = s.present; drawn = omega (arith, s.drawn); free = s.free }
stands_later issued issued' own r (Forward slot entry) le s = tt
stands_later issued issued' own r (Return slot) le s = tt
