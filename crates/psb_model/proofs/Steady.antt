-- What every lawful history keeps, whatever kinds of change it has: own chunks have names of their own, what is marked
-- is named by some row, the chunk of each pending Fresh is an own one, and what is used stays within the capacity.
use Rattle.std.proofs.Common.{◌≡◌, ℕ, ◌+◌, ◌≤◌, Bool, true, false, not, ◌&&◌, ◌||◌, List, [], ◌∷◌, length, sum_by, filter, Option, Some, None, refl, sym, ap, ◌∙◌, subst, arith}
use Rattle.std.specs.Prelude.{◌==◌, nat_lt}
use Rattle.std.specs.List.{list_all}
use Rattle.std.specs.Ordering.{is_lt, nat_cmp}
use Rattle.std.specs.Cmp.Lexicographic.{slice_cmp}
use Rattle.std.proofs.lemmas.Bool.{false≢true, eqb-true, eq-eqb, leb-true, ltb-true, and_parts}
use Rattle.std.proofs.lemmas.List.Sums.{sum_by-cons}
use Rattle.psb_bytes.specs.declared.ids.Object.TheVariants.{Chunk, Slot}
use Rattle.psb_settings.specs.declared.settings.Settings.{Settings}
use Rattle.psb_settings.specs.declared.settings.PeerRow.{PeerRow}
use Rattle.psb_model.specs.declared.entries.InEntry.{InEntry}
use Rattle.psb_model.specs.declared.entries.OwnEntry.{OwnEntry}
use Rattle.psb_model.specs.declared.entries.InState.{InState}
use Rattle.psb_model.specs.declared.entries.InState.TheVariants as at
use Rattle.psb_model.specs.declared.entries.OutState.TheVariants as on
use Rattle.psb_model.specs.declared.deals.Deal.{Deal}
use Rattle.psb_model.specs.declared.deals.DealWhat.{DealWhat}
use Rattle.psb_model.specs.declared.deals.DealWhat.TheVariants.{Fresh, Swap, Cancel, PutBack, Forward, Return}
use Rattle.psb_model.specs.declared.change.Change.{Change}
use Rattle.psb_model.specs.declared.change.Change.TheVariants.{Begun, Kept, Snapped, Forgot, TookFresh, TookSwap, LetGo, LetGoBack, Replaced, Refused, Proposed, Settled, Turned, Asked, Passed, Failed, Declined, Discarded, Chose}
use Rattle.psb_model.specs.declared.kinds.Passed.{Passed as Outcome}
use Rattle.psb_model.specs.Words.{units, name_eq, name_listed, all_of, has, without}
use Rattle.psb_model.specs.State.{Row, State, blank, nothing_yet, row, row_in, has_row, is_peer, at_row, in_key, in_size, out_key, out_size, debt_key, debt_size, held_units, own_has, own_len, coming, used}
use Rattle.psb_model.specs.Grammar.{in_grammar}
use Rattle.psb_model.specs.Conditions.{capacity, settings_of_body, peer_of, is_begun, of_a_peer, place_tests, each_slot, may_settle, propose_tests, tests, allowed}
use Rattle.psb_model.specs.Move.{Move, after_move}
use Rattle.psb_model.specs.Effects.{move_of, settle_move, settle_states, states_of, note_of, loosen, relabel_in, relabel_out, relabel_debt, disturbed, blank_rows, first_rows, rows_after, all_rows_after, after, own_after, own_with, set_marks, kept_lists, kept_without, settings_after, deal_name, pending_name, is_named}
use Rattle.psb_model.specs.History.{state_from, lawful_from, state, is_lawful}
use Rattle.psb_model.proofs.ByObject.{by_cases, sum_by-with_all, sum_by-without}
use Rattle.psb_model.proofs.Parts.{sum-direct_slots}
use Rattle.psb_model.proofs.Steps.{parts, not_true, Step}
use Rattle.psb_model.proofs.Rows.{Alike, AlikeRows, alike_rows_then, relabel_in_alike, relabel_out_alike, loose_alike, states_alike, loosen_alike, note_lists, row_in-at_row, has_row-at_row}
use Rattle.psb_model.proofs.Balance.{Good, steps, note_pending, good_after, good_nothing}
use Rattle.psb_model.proofs.Own.{name_same, name_refl, own_with_other, KeepsName, keeps_then, own_after_keeps, named_keeps, pending_named}
use Rattle.psb_model.proofs.Prefixes.{lawful_cons}

-- THE PARTS OF A CONDITION

pub record Allows (s : State) (c : Change) : Type 0 where
  pub peer : of_a_peer s (peer_of c) ≡ true
  pub tests : all_of (tests s c) ≡ true

pub allows : (s : State) (c : Change) → allowed s c ≡ true → Allows s c
allows s c h =
    let begun = is_begun c || nat_lt 0 s.changes in
    let two = and_parts (begun && of_a_peer s (peer_of c)) (all_of (tests s c)) h in
    record { peer = (and_parts begun (of_a_peer s (peer_of c)) two.0).1; tests = two.1 }

-- every kind but Begun comes after another change
pub begun_before : (s : State) (c : Change) → is_begun c ≡ false → allowed s c ≡ true → 1 ≤ s.changes
begun_before s c none h =
    let begun = is_begun c || nat_lt 0 s.changes in
    let two = and_parts (begun && of_a_peer s (peer_of c)) (all_of (tests s c)) h in
    let one = (and_parts begun (of_a_peer s (peer_of c)) two.0).0 in
    let some : nat_lt 0 s.changes ≡ true = rw none at one in
    ltb-true 0 s.changes some

-- the chunk of a pending Fresh is an own one
abbrev pub has_coming : List OwnEntry → Option Deal → Bool
has_coming own None = true
has_coming own (Some d) = elim d.what [ Fresh name ↦ own_has own name | _ ↦ true ]

-- WHAT ROWS USE OF THE CAPACITY

-- what one row uses, and some rows
abbrev pub row_use : State → Row → ℕ
row_use s r = held_units r + coming s r.pending

abbrev pub rows_use : State → List (ℕ × Row) → ℕ
rows_use s rows = sum_by (λ (x : ℕ × Row). row_use s x.1) rows

pub use_cons : (s : State) (x : ℕ × Row) (xs : List (ℕ × Row)) → rows_use s (x ∷ xs) ≡ row_use s x.1 + rows_use s xs
use_cons s x xs = sum_by-cons (λ (x : ℕ × Row). row_use s x.1) x xs

use_blank_rows : (s : State) (ps : List PeerRow) → rows_use s (blank_rows ps) ≡ 0
use_blank_rows s [] = refl
use_blank_rows s (x ∷ xs) = omega (arith, use_blank_rows s xs, use_cons s (x.id, blank) (blank_rows xs))

pub use_first_rows : (s : State) (o : Option Settings) → rows_use s (first_rows o) ≡ 0
use_first_rows s None = refl
use_first_rows s (Some x) = use_blank_rows s x.peers

-- where one row changes, the sum changes by as much
pub use_at_row : (s : State) (p : ℕ) (f : Row → Row) (rows : List (ℕ × Row)) → has_row rows p ≡ true → rows_use s (at_row p f rows) + row_use s (row_in rows p) ≡ rows_use s rows + row_use s (f (row_in rows p))
use_at_row s p f [] here = absurd (false≢true here)
use_at_row s p f (x ∷ xs) here =
    by_cases (x.0 == p)
    (λ k. rw k (omega (arith, use_cons s (x.0, f x.1) xs, use_cons s x xs)))
    (λ k. let here' = rw k at here in
    rw k (omega (arith, use_at_row s p f xs here', use_cons s x (at_row p f xs), use_cons s x xs)))

-- a row uses no more than all do
pub use_within : (s : State) (rows : List (ℕ × Row)) (p : ℕ) → row_use s (row_in rows p) ≤ rows_use s rows
use_within s [] p = omega arith
use_within s (x ∷ xs) p =
    by_cases (x.0 == p)
    (λ k. rw k (omega (arith, use_cons s x xs)))
    (λ k. rw k (omega (arith, use_within s xs p, use_cons s x xs)))

-- WHERE OWN CHANGES AND THE ROWS DO NOT

pub or_true : (a : Bool) → (a || true) ≡ true
or_true true = refl
or_true false = refl

-- the row names the chunk
abbrev pub row_names : Row → List ℕ → Bool
row_names r n = has out_key r.outs (Chunk n) || has debt_key r.debts (Chunk n) || name_listed (pending_name deal_name r.pending) n

-- what the rows name stays in own
abbrev pub KeepsNamed : List OwnEntry → List OwnEntry → List (ℕ × Row) → Type 0
KeepsNamed own own' rows = (n : List ℕ) → is_named rows n ≡ true → own_has own n ≡ true → KeepsName own own' n

pub keeps_rest : (own own' : List OwnEntry) (x : ℕ × Row) (xs : List (ℕ × Row)) → KeepsNamed own own' (x ∷ xs) → KeepsNamed own own' xs
keeps_rest own own' x xs f n named own_n = f n (ap (λ b. row_names x.1 n || b) named ∙ or_true (row_names x.1 n)) own_n

-- so does the chunk of a pending Fresh, with its length
pub record StillComes (s s' : State) (o : Option Deal) : Type 0 where
  pub has : has_coming s'.own o ≡ true
  pub same : coming s' o ≡ coming s o

pub still_comes : (s s' : State) (x : ℕ × Row) (xs : List (ℕ × Row)) (o : Option Deal) → x.1.pending ≡ o → has_coming s.own o ≡ true → KeepsNamed s.own s'.own (x ∷ xs) → StillComes s s' o
still_comes s s' x xs None e h f = record { has = refl; same = refl }
still_comes s s' x xs (Some d) e h f = by_what d.what refl h
  where
    first : (row_in (x ∷ xs) x.0).pending ≡ Some d
    first = rw (eq-eqb x.0 x.0 refl) e

    by_what : (w : DealWhat) → d.what ≡ w → has_coming s.own (Some (record { number = d.number; what = w })) ≡ true → StillComes s s' (Some (record { number = d.number; what = w }))
    by_what (Fresh name) is k =
        let keeps = f name (pending_named (x ∷ xs) x.0 d name first (ap deal_name is)) k in
        record { has = keeps.has; same = ap units keeps.len }
    by_what (Swap name numbers) is k = record { has = refl; same = refl }
    by_what (Cancel name numbers) is k = record { has = refl; same = refl }
    by_what (PutBack name first) is k = record { has = refl; same = refl }
    by_what (Forward slot entry) is k = record { has = refl; same = refl }
    by_what (Return slot) is k = record { has = refl; same = refl }

-- WHAT A CHANGE USES MORE

-- what is answered for grows by what comes at most
pub held_moved : (r : Row) (m : Move) → held_units (after_move m r) ≤ held_units r + sum_by in_size m.in_new
held_moved r m = omega (arith, sum_by-with_all in_key in_size m.in_new (without in_key m.in_gone r.ins), sum_by-without in_key in_size m.in_gone r.ins)

-- a settled deal uses what it was to use
pub settle_uses : (s : State) (p : ℕ) (o : Option Deal) (numbers : List ℕ) (r : Row) → may_settle s p o numbers ≡ true → held_units (after_move (settle_move s (row s p) o numbers) r) ≤ held_units r + coming s o
settle_uses s p None numbers r h = absurd (false≢true h)
settle_uses s p (Some d) numbers r h = by_what d.what h
  where
    by_what : (w : DealWhat) → may_settle s p (Some (record { number = d.number; what = w })) numbers ≡ true → held_units (after_move (settle_move s (row s p) (Some (record { number = d.number; what = w })) numbers) r) ≤ held_units r + coming s (Some (record { number = d.number; what = w }))
    by_what (Fresh name) k =
        let both = and_parts (length numbers == units (own_len s.own name)) (each_slot (λ o. not (has in_key (row s p).ins o)) numbers) k in
        omega (arith, held_moved r (settle_move s (row s p) (Some (record { number = d.number; what = Fresh name })) numbers), sum-direct_slots numbers, eqb-true (length numbers) (units (own_len s.own name)) both.0)
    by_what (Swap name mine) k = held_moved r (settle_move s (row s p) (Some (record { number = d.number; what = Swap name mine })) numbers)
    by_what (Cancel name theirs) k = held_moved r (settle_move s (row s p) (Some (record { number = d.number; what = Cancel name theirs })) numbers)
    by_what (PutBack name first) k = held_moved r (settle_move s (row s p) (Some (record { number = d.number; what = PutBack name first })) numbers)
    by_what (Forward slot entry) k = held_moved r (settle_move s (row s p) (Some (record { number = d.number; what = Forward slot entry })) numbers)
    by_what (Return slot) k = held_moved r (settle_move s (row s p) (Some (record { number = d.number; what = Return slot })) numbers)

-- an own chunk is not marked, or some row names it
abbrev pub is_kept : List (ℕ × Row) → OwnEntry → Bool
is_kept rows e = not e.marked || is_named rows e.name

-- no two own chunks have one name
abbrev pub names_apart : List OwnEntry → Bool
names_apart [] = true
names_apart (e ∷ es) = not (own_has es e.name) && names_apart es

pub neither : (a b : Bool) → (a || b) ≡ false → (a ≡ false) × (b ≡ false)
neither true b k = absurd (false≢true (sym k))
neither false b k = (refl, k)

pub filter_all : {E : Type 0} (t : E → Bool) (l : List E) → list_all t (filter t l) ≡ true
filter_all t [] = refl
filter_all t (e ∷ es) = by_cases (t e) (λ k. rw (k, k) (filter_all t es)) (λ k. rw k (filter_all t es))

-- names stay apart where chunks leave, are marked, or one comes that was not there
pub filter_lacks : (t : OwnEntry → Bool) (l : List OwnEntry) (n : List ℕ) → own_has l n ≡ false → own_has (filter t l) n ≡ false
filter_lacks t [] n h = refl
filter_lacks t (e ∷ es) n h =
    let two = neither (name_eq e.name n) (own_has es n) h in
    by_cases (t e) (λ k. rw (k, two.0) (filter_lacks t es n two.1)) (λ k. rw k (filter_lacks t es n two.1))

pub filter_apart : (t : OwnEntry → Bool) (l : List OwnEntry) → names_apart l ≡ true → names_apart (filter t l) ≡ true
filter_apart t [] h = refl
filter_apart t (e ∷ es) h =
    let two = and_parts (not (own_has es e.name)) (names_apart es) h in
    by_cases (t e) (λ k. rw (k, filter_lacks t es e.name (not_true (own_has es e.name) two.0)) (filter_apart t es two.1)) (λ k. rw k (filter_apart t es two.1))

pub marks_has : (mark : OwnEntry → Bool) (l : List OwnEntry) (n : List ℕ) → own_has (set_marks mark l) n ≡ own_has l n
marks_has mark [] n = refl
marks_has mark (e ∷ es) n = ap (λ b. name_eq e.name n || b) (marks_has mark es n)

pub marks_apart : (mark : OwnEntry → Bool) (l : List OwnEntry) → names_apart l ≡ true → names_apart (set_marks mark l) ≡ true
marks_apart mark [] h = refl
marks_apart mark (e ∷ es) h =
    let two = and_parts (not (own_has es e.name)) (names_apart es) h in
    rw (ap not (marks_has mark es e.name) ∙ two.0, marks_apart mark es two.1) refl

with_lacks : (e : OwnEntry) (l : List OwnEntry) (n : List ℕ) → name_eq e.name n ≡ false → own_has l n ≡ false → own_has (own_with e l) n ≡ false
with_lacks e l n other h = (own_with_other e l n other).0 ∙ h

with_apart : (e : OwnEntry) (l : List OwnEntry) → own_has l e.name ≡ false → names_apart l ≡ true → names_apart (own_with e l) ≡ true
with_apart e [] lacks h = refl
with_apart e (x ∷ xs) lacks h =
    let two = and_parts (not (own_has xs x.name)) (names_apart xs) h in
    let none = neither (name_eq x.name e.name) (own_has xs e.name) lacks in
    let other : name_eq e.name x.name ≡ false = by_cases (name_eq e.name x.name) (λ k. absurd (false≢true (sym none.0 ∙ ap (name_eq x.name) (name_same e.name x.name k) ∙ name_refl x.name))) (λ k. k) in
    by_cases (is_lt (slice_cmp nat_cmp e.name x.name))
    (λ j. rw (j, lacks) h)
    (λ j. rw (j, with_lacks e xs x.name other (not_true (own_has xs x.name) two.0)) (with_apart e xs none.1 two.1))

pub own_after_apart : (s : State) (c : Change) → all_of (tests s c) ≡ true → names_apart s.own ≡ true → names_apart (own_after s c) ≡ true
own_after_apart s (Kept x) h a = with_apart (record { name = x.name; len = x.len; marked = false }) s.own (not_true (own_has s.own x.name) (parts (tests s (Kept x)) h).0) a
own_after_apart s (Snapped x) h a = marks_apart (λ e. e.marked && not (name_listed x.names e.name)) s.own a
own_after_apart s (Forgot x) h a = marks_apart (λ e. e.marked || not (kept_lists (kept_without x.number s.kept) e.name)) s.own a
own_after_apart s _ h a = a

-- own keeps what the rows after a change name
pub own_keeps : (s : State) (c : Change) → all_of (tests s c) ≡ true → KeepsNamed s.own (after s c).own (all_rows_after s c)
own_keeps s c h n named own_n =
    let k = own_after_keeps s c n h own_n in
    keeps_then s.own (own_after s c) (after s c).own n k (named_keeps (all_rows_after s c) (own_after s c) n named k.has)

-- EVERY LAWFUL HISTORY

-- the chunk of each pending Fresh is an own one
abbrev pub AllComing : List OwnEntry → List (ℕ × Row) → Type 0
AllComing own [] = Unit {0}
AllComing own (x ∷ xs) = (has_coming own x.1.pending ≡ true) × AllComing own xs

pub record IsSteady (s : State) : Type 0 where
  pub coming : AllComing s.own s.rows
  pub apart : names_apart s.own ≡ true
  pub named : list_all (is_kept s.rows) s.own ≡ true
  pub used : used s ≤ capacity s.settings
  pub good : Good s

-- so it is of each peer
pub coming_in : (own : List OwnEntry) (rows : List (ℕ × Row)) (p : ℕ) → AllComing own rows → has_coming own (row_in rows p).pending ≡ true
coming_in own [] p h = refl
coming_in own (x ∷ xs) p h = by_cases (x.0 == p) (λ k. rw k h.0) (λ k. rw k (coming_in own xs p h.1))

-- ---- where own changes and the rows do not

pub coming_kept : (s s' : State) (rows : List (ℕ × Row)) → KeepsNamed s.own s'.own rows → AllComing s.own rows → AllComing s'.own rows
coming_kept s s' [] f h = tt
coming_kept s s' (x ∷ xs) f h = ((still_comes s s' x xs x.1.pending refl h.0 f).has, coming_kept s s' xs (keeps_rest s.own s'.own x xs f) h.1)

pub uses_kept : (s s' : State) (rows : List (ℕ × Row)) → KeepsNamed s.own s'.own rows → AllComing s.own rows → rows_use s' rows ≡ rows_use s rows
uses_kept s s' [] f h = refl
uses_kept s s' (x ∷ xs) f h = omega (arith, (still_comes s s' x xs x.1.pending refl h.0 f).same, uses_kept s s' xs (keeps_rest s.own s'.own x xs f) h.1, use_cons s' x xs, use_cons s x xs)

-- ---- rows in which only states of entries change use as much as before

pub record Steadies (s : State) (rows rows' : List (ℕ × Row)) : Type 0 where
  pub use_is : rows_use s rows' ≡ rows_use s rows
  pub comes : AllComing s.own rows → AllComing s.own rows'

steadies_self : (s : State) (rows : List (ℕ × Row)) → Steadies s rows rows
steadies_self s rows = record { use_is = refl; comes = λ h. h }

steadies_then : (s : State) (a b c : List (ℕ × Row)) → Steadies s a b → Steadies s b c → Steadies s a c
steadies_then s a b c x y = record { use_is = y.use_is ∙ x.use_is; comes = λ h. y.comes (x.comes h) }

alike_use : (s : State) (r r' : Row) → Alike r r' → row_use s r' ≡ row_use s r
alike_use s r r' a = omega (arith, a.held, ap (coming s) a.pending)

use_still : (s : State) (p : ℕ) (f : Row → Row) → ((r : Row) → Alike r (f r)) → (rows : List (ℕ × Row)) → rows_use s (at_row p f rows) ≡ rows_use s rows
use_still s p f h [] = refl
use_still s p f h (x ∷ xs) =
    by_cases (x.0 == p)
    (λ k. rw k (omega (arith, alike_use s x.1 (f x.1) (h x.1), use_cons s (x.0, f x.1) xs, use_cons s x xs)))
    (λ k. rw k (omega (arith, use_still s p f h xs, use_cons s x (at_row p f xs), use_cons s x xs)))

coming_at_row : (own : List OwnEntry) (p : ℕ) (f : Row → Row) → ((r : Row) → has_coming own r.pending ≡ true → has_coming own (f r).pending ≡ true) → (rows : List (ℕ × Row)) → AllComing own rows → AllComing own (at_row p f rows)
coming_at_row own p f g [] h = tt
coming_at_row own p f g (x ∷ xs) h = by_cases (x.0 == p) (λ k. rw k (g x.1 h.0, h.1)) (λ k. rw k (h.0, coming_at_row own p f g xs h.1))

at_steadies : (s : State) (p : ℕ) (f : Row → Row) → ((r : Row) → Alike r (f r)) → (rows : List (ℕ × Row)) → Steadies s rows (at_row p f rows)
at_steadies s p f h rows = record {
  use_is = use_still s p f h rows;
  comes = coming_at_row s.own p f (λ r c. ap (has_coming s.own) (h r).pending ∙ c) rows;
}

settle_steadies : (s : State) (p number : ℕ) (what : DealWhat) (rows : List (ℕ × Row)) → Steadies s rows (settle_states p (Some (record { number = number; what = what })) rows)
settle_steadies s p number (Fresh name) rows = steadies_self s rows
settle_steadies s p number (Swap name numbers) rows = steadies_self s rows
settle_steadies s p number (Cancel name numbers) rows = steadies_self s rows
settle_steadies s p number (PutBack name first) rows = steadies_self s rows
settle_steadies s p number (Forward slot entry) rows =
    steadies_then s rows _ _
    (at_steadies s p (relabel_out (Slot slot) (on.Carries entry)) (relabel_out_alike (Slot slot) (on.Carries entry)) rows)
    (at_steadies s entry.peer (relabel_in (Slot entry.slot) (at.Forwarded (record { peer = p; slot = slot }))) (relabel_in_alike (Slot entry.slot) (at.Forwarded (record { peer = p; slot = slot }))) _)
settle_steadies s p number (Return slot) rows = at_steadies s p (relabel_out (Slot slot) on.Own) (relabel_out_alike (Slot slot) on.Own) rows

settled_steadies : (s : State) (p : ℕ) (d : Option Deal) (rows : List (ℕ × Row)) → Steadies s rows (settle_states p d rows)
settled_steadies s p None rows = steadies_self s rows
settled_steadies s p (Some d) rows = settle_steadies s p d.number d.what rows

pub states_steadies : (s : State) (c : Change) (rows : List (ℕ × Row)) → Steadies s rows (states_of s c rows)
states_steadies s (Replaced x) rows = at_steadies s x.peer _ (relabel_in_alike (Slot x.slot) _) rows
states_steadies s (Settled x) rows = settled_steadies s x.peer (row s x.peer).pending rows
states_steadies s _ rows = steadies_self s rows

loosen_one : (s : State) (st : InState) (rows : List (ℕ × Row)) → Steadies s rows (elim st [ at.Forwarded seat ↦ at_row seat.peer (λ r. relabel_debt (Slot seat.slot) on.Loose (relabel_out (Slot seat.slot) on.Loose r)) rows | _ ↦ rows ])
loosen_one s (at.Forwarded seat) rows = at_steadies s seat.peer _ (loose_alike (Slot seat.slot)) rows
loosen_one s at.Body rows = steadies_self s rows
loosen_one s at.Direct rows = steadies_self s rows
loosen_one s (at.Home i) rows = steadies_self s rows

pub loosen_steadies : (s : State) (es : List InEntry) (rows : List (ℕ × Row)) → Steadies s rows (loosen es rows)
loosen_steadies s [] rows = steadies_self s rows
loosen_steadies s (e ∷ es) rows = steadies_then s rows _ _ (loosen_one s e.state rows) (loosen_steadies s es _)

-- ---- a change of a peer

-- the rows once the lists moved, and once states changed too
abbrev moved_rows : State → Change → ℕ → List (ℕ × Row)
moved_rows s c p = at_row p (after_move (move_of s c)) s.rows

abbrev labelled_rows : State → Change → ℕ → List (ℕ × Row)
labelled_rows s c p = loosen (disturbed s c) (states_of s c (moved_rows s c p))

labelled : (s : State) (c : Change) (p : ℕ) → Steadies s (moved_rows s c p) (labelled_rows s c p)
labelled s c p = steadies_then s (moved_rows s c p) (states_of s c (moved_rows s c p)) (labelled_rows s c p) (states_steadies s c (moved_rows s c p)) (loosen_steadies s (disturbed s c) (states_of s c (moved_rows s c p)))

-- what the row of the peer uses after it
abbrev uses_then : State → Change → ℕ → ℕ
uses_then s c p = held_units (after_move (move_of s c) (row s p)) + coming s (note_of s c (row s p)).pending

noted_use : (s : State) (c : Change) (r m : Row) → Alike (after_move (move_of s c) r) m → row_use s (note_of s c m) ≡ held_units (after_move (move_of s c) r) + coming s (note_of s c r).pending
noted_use s c r m a =
    let held : held_units (note_of s c m) ≡ held_units m = ap (sum_by in_size) (note_lists s c m).ins in
    let pending : (note_of s c m).pending ≡ (note_of s c r).pending = note_pending s c m r a.pending in
    omega (arith, held, a.held, ap (coming s) pending)

peer_use : (s : State) (c : Change) (p : ℕ) → is_peer s p ≡ true → rows_use s (rows_after s c p) + row_use s (row s p) ≡ rows_use s s.rows + uses_then s c p
peer_use s c p here =
    let first = moved_rows s c p in
    let second = labelled_rows s c p in
    let alike : AlikeRows first second = alike_rows_then first (states_of s c first) second (states_alike s c first) (loosen_alike (disturbed s c) (states_of s c first)) in
    let has_p : has_row second p ≡ true = alike.peers p ∙ has_row-at_row p p (after_move (move_of s c)) s.rows ∙ here in
    let a : Alike (after_move (move_of s c) (row s p)) (row_in second p) = subst (λ r. Alike r (row_in second p)) (row_in-at_row p (after_move (move_of s c)) s.rows here) (alike.each p) in
    omega (
      arith,
      use_at_row s p (note_of s c) second has_p,
      use_at_row s p (after_move (move_of s c)) s.rows here,
      (labelled s c p).use_is,
      alike_use s (after_move (move_of s c) (row s p)) (row_in second p) a,
      noted_use s c (row s p) (row_in second p) a,
    )

-- one more step, by its rows
steady_step : (s : State) (c : Change) → IsSteady s → in_grammar c ≡ true → allowed s c ≡ true → AllComing s.own (all_rows_after s c) → rows_use s (all_rows_after s c) ≤ capacity (settings_after s c) → IsSteady (after s c)
steady_step s c was g h rows fits =
    let keeps = own_keeps s c (allows s c h).tests in
    record {
      coming = coming_kept s (after s c) (all_rows_after s c) keeps rows;
      apart = filter_apart (is_kept (all_rows_after s c)) (own_after s c) (own_after_apart s c (allows s c h).tests was.apart);
      named = filter_all (is_kept (all_rows_after s c)) (own_after s c);
      used = omega (arith, uses_kept s (after s c) (all_rows_after s c) keeps rows, fits);
      good = good_after s c was.good g h;
    }

-- what the row of the peer may use more, and that there is room for it
pub record Grows (s : State) (c : Change) (p : ℕ) : Type 0 where
  pub more : ℕ
  pub at_most : uses_then s c p ≤ row_use s (row s p) + more
  pub fits : used s + more ≤ capacity s.settings

-- one more step of a peer
steady_peer : (s : State) (c : Change) (p : ℕ) → IsSteady s → in_grammar c ≡ true → allowed s c ≡ true → all_rows_after s c ≡ rows_after s c p → is_peer s p ≡ true → settings_after s c ≡ s.settings → ((r : Row) → has_coming s.own r.pending ≡ true → has_coming s.own (note_of s c r).pending ≡ true) → Grows s c p → IsSteady (after s c)
steady_peer s c p was g h rows here settings noted grows =
    let moved : AllComing s.own (moved_rows s c p) = coming_at_row s.own p (after_move (move_of s c)) (λ r k. k) s.rows was.coming in
    let comes : AllComing s.own (rows_after s c p) = coming_at_row s.own p (note_of s c) noted (labelled_rows s c p) ((labelled s c p).comes moved) in
    steady_step s c was g h
    (subst (AllComing s.own) (sym rows) comes)
    (omega (arith, ap (rows_use s) rows, peer_use s c p here, grows.at_most, grows.fits, ap capacity settings))

-- ---- what each kind may use more

-- nothing comes to in(p)
still_less : (s : State) (c : Change) (p : ℕ) → IsSteady s → sum_by in_size (move_of s c).in_new ≡ 0 → coming s (note_of s c (row s p)).pending ≤ coming s (row s p).pending → Grows s c p
still_less s c p was none pending = record { more = 0; at_most = omega (arith, held_moved (row s p) (move_of s c), none, pending); fits = omega (arith, was.used) }

-- nothing comes to out(p), nor is anything lost: what is answered for stays, as the balance says
even : (s : State) (c : Change) (p : ℕ) → IsSteady s → Step s c p → sum_by out_size (move_of s c).out_new ≡ 0 → sum_by debt_size (move_of s c).booked ≡ 0 → coming s (note_of s c (row s p)).pending ≤ coming s (row s p).pending → Grows s c p
even s c p was st none booked pending = record {
  more = 0;
  at_most = omega (arith, st.tidy.balanced, st.weighs.back, st.weighs.debt, (was.good.rows p).tidy.balanced, none, booked, pending);
  fits = omega (arith, was.used);
}

-- what a proposal asks of own and of the capacity
pub record MayCome (s : State) (what : DealWhat) : Type 0 where
  pub own : (number : ℕ) → has_coming s.own (Some (record { number = number; what = what })) ≡ true
  pub fits : (number : ℕ) → used s + coming s (Some (record { number = number; what = what })) ≤ capacity s.settings

may_come : (s : State) (p : ℕ) (what : DealWhat) → IsSteady s → all_of (propose_tests s p what) ≡ true → MayCome s what
may_come s p (Fresh name) was h =
    let ts = parts (propose_tests s p (Fresh name)) h in
    let place = parts (place_tests s p name) ts.0 in
    record { own = λ n. (was.good.wanted name place.1.0).has; fits = λ n. leb-true (used s + units (own_len s.own name)) (capacity s.settings) ts.1.0 }
may_come s p (Swap name numbers) was h = record { own = λ n. refl; fits = λ n. omega (arith, was.used) }
may_come s p (Cancel name numbers) was h = record { own = λ n. refl; fits = λ n. omega (arith, was.used) }
may_come s p (PutBack name first) was h = record { own = λ n. refl; fits = λ n. omega (arith, was.used) }
may_come s p (Forward slot entry) was h = record { own = λ n. refl; fits = λ n. omega (arith, was.used) }
may_come s p (Return slot) was h = record { own = λ n. refl; fits = λ n. omega (arith, was.used) }

coming_first_rows : (own : List OwnEntry) (o : Option Settings) → AllComing own (first_rows o)
coming_first_rows own None = tt
coming_first_rows own (Some x) = blanks x.peers
  where
    blanks : (ps : List PeerRow) → AllComing own (blank_rows ps)
    blanks [] = tt
    blanks (y ∷ ys) = (refl, blanks ys)

-- what was passed leaves the deal
passed_pending : (s : State) (x : Outcome) (r : Row) → (note_of s (Passed x) r).pending ≡ r.pending
passed_pending s x r = by_cases (x.asked == 0) (λ k. rw k refl) (λ k. rw k refl)

pub steady_after : (s : State) (c : Change) → IsSteady s → in_grammar c ≡ true → allowed s c ≡ true → IsSteady (after s c)
steady_after s (Begun x) was g h = steady_step s (Begun x) was g h (coming_first_rows s.own (settings_of_body x.body)) (omega (arith, use_first_rows s (settings_of_body x.body)))
steady_after s (Kept x) was g h = steady_step s (Kept x) was g h was.coming was.used
steady_after s (Snapped x) was g h = steady_step s (Snapped x) was g h was.coming was.used
steady_after s (Forgot x) was g h = steady_step s (Forgot x) was g h was.coming was.used
steady_after s (Chose x) was g h = steady_step s (Chose x) was g h was.coming was.used
steady_after s (TookFresh x) was g h =
    let c : Change = TookFresh x in
    let ts = parts (tests s c) (allows s c h).tests in
    steady_peer s c x.peer was g h refl (allows s c h).peer refl (λ r k. k)
    (record { more = units x.len; at_most = omega (arith, held_moved (row s x.peer) (move_of s c)); fits = leb-true (used s + units x.len) (capacity s.settings) ts.1.1.1.1.0 })
steady_after s (TookSwap x) was g h =
    let c : Change = TookSwap x in
    steady_peer s c x.peer was g h refl (allows s c h).peer refl (λ r k. k) (even s c x.peer was (steps s c was.good g (allows s c h).tests) refl refl (omega arith))
steady_after s (LetGo x) was g h = let c : Change = LetGo x in steady_peer s c x.peer was g h refl (allows s c h).peer refl (λ r k. k) (still_less s c x.peer was refl (omega arith))
steady_after s (LetGoBack x) was g h =
    let c : Change = LetGoBack x in
    steady_peer s c x.peer was g h refl (allows s c h).peer refl (λ r k. k) (even s c x.peer was (steps s c was.good g (allows s c h).tests) refl refl (omega arith))
steady_after s (Replaced x) was g h = let c : Change = Replaced x in steady_peer s c x.peer was g h refl (allows s c h).peer refl (λ r k. k) (still_less s c x.peer was refl (omega arith))
steady_after s (Refused x) was g h = let c : Change = Refused x in steady_peer s c x.peer was g h refl (allows s c h).peer refl (λ r k. k) (still_less s c x.peer was refl (omega arith))
steady_after s (Proposed x) was g h =
    let c : Change = Proposed x in
    let ts = parts (tests s c) (allows s c h).tests in
    let may = may_come s x.peer x.what was ts.1.1.0 in
    steady_peer s c x.peer was g h refl (allows s c h).peer refl (λ r k. may.own x.deal)
    (record { more = coming s (Some (record { number = x.deal; what = x.what })); at_most = omega (arith, held_moved (row s x.peer) (move_of s c)); fits = may.fits x.deal })
steady_after s (Settled x) was g h =
    let c : Change = Settled x in
    let ts = parts (tests s c) (allows s c h).tests in
    steady_peer s c x.peer was g h refl (allows s c h).peer refl (λ r k. refl)
    (record { more = 0; at_most = omega (arith, settle_uses s x.peer (row s x.peer).pending x.slots (row s x.peer) ts.1.0); fits = omega (arith, was.used) })
steady_after s (Turned x) was g h = let c : Change = Turned x in steady_peer s c x.peer was g h refl (allows s c h).peer refl (λ r k. refl) (still_less s c x.peer was refl (omega arith))
steady_after s (Asked x) was g h = let c : Change = Asked x in steady_peer s c x.peer was g h refl (allows s c h).peer refl (λ r k. k) (still_less s c x.peer was refl (omega arith))
steady_after s (Passed x) was g h =
    let c : Change = Passed x in
    steady_peer s c x.peer was g h refl (allows s c h).peer refl (λ r k. ap (has_coming s.own) (passed_pending s x r) ∙ k) (still_less s c x.peer was refl (omega (arith, ap (coming s) (passed_pending s x (row s x.peer)))))
steady_after s (Failed x) was g h = let c : Change = Failed x in steady_peer s c x.peer was g h refl (allows s c h).peer refl (λ r k. k) (still_less s c x.peer was refl (omega arith))
steady_after s (Declined x) was g h = let c : Change = Declined x in steady_peer s c x.peer was g h refl (allows s c h).peer refl (λ r k. k) (still_less s c x.peer was refl (omega arith))
steady_after s (Discarded x) was g h = let c : Change = Discarded x in steady_peer s c x.peer was g h refl (allows s c h).peer refl (λ r k. k) (still_less s c x.peer was refl (omega arith))

pub steady_nothing : IsSteady nothing_yet
steady_nothing = record { coming = tt; apart = refl; named = refl; used = omega arith; good = good_nothing }

pub steady_from : (s : State) (h : List Change) → IsSteady s → lawful_from s h ≡ true → IsSteady (state_from s h)
steady_from s [] was v = was
steady_from s (c ∷ cs) was v =
    let l = lawful_cons s c cs v in
    steady_from (after s c) cs (steady_after s c was l.grammar l.allows) l.rest

pub steady_state : (h : List Change) → is_lawful h ≡ true → IsSteady (state h)
steady_state h v = steady_from nothing_yet h steady_nothing v
