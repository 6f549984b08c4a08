-- The entries of each row stand in object order, whatever the change; and what may be read off that.
use Rattle.std.proofs.Common.{◌≡◌, ℕ, ◌+◌, ◌≤◌, Bool, true, false, not, ◌&&◌, cond, ltb, List, [], ◌∷◌, ◌++◌, map, filter, take, Option, Some, None, refl, sym, ap, ◌∙◌, arith}
use Rattle.std.specs.Prelude.{zero, suc, ◌==◌, if◌then◌else◌}
use Rattle.std.specs.List.{list_all, flat_map}
use Rattle.std.specs.Ordering.{is_lt}
use Rattle.std.proofs.lemmas.Bool.{and_parts, true≢false}
use Rattle.std.proofs.lemmas.Bool.Decides.{nat_tests}
use Rattle.psb_bytes.specs.declared.ids.Object.{Object}
use Rattle.psb_bytes.specs.declared.ids.Object.TheVariants.{Chunk, Slot}
use Rattle.psb_settings.specs.declared.settings.Settings.{Settings}
use Rattle.psb_settings.specs.declared.settings.PeerRow.{PeerRow}
use Rattle.psb_model.specs.declared.entries.InEntry.{InEntry}
use Rattle.psb_model.specs.declared.entries.OutEntry.{OutEntry}
use Rattle.psb_model.specs.declared.entries.InState.{InState}
use Rattle.psb_model.specs.declared.entries.InState.TheVariants as at
use Rattle.psb_model.specs.declared.entries.OutState.{OutState}
use Rattle.psb_model.specs.declared.entries.OutState.TheVariants as on
use Rattle.psb_model.specs.declared.deals.Deal.{Deal}
use Rattle.psb_model.specs.declared.deals.DealWhat.{DealWhat}
use Rattle.psb_model.specs.declared.deals.DealWhat.TheVariants.{Fresh, Swap, Cancel, PutBack, Forward, Return}
use Rattle.psb_model.specs.declared.change.Change.{Change}
use Rattle.psb_model.specs.declared.change.Change.TheVariants.{Begun, Kept, Snapped, Forgot, TookFresh, TookSwap, LetGo, LetGoBack, Replaced, Refused, Proposed, Settled, Turned, Asked, Passed, Failed, Declined, Discarded, Chose}
use Rattle.psb_model.specs.Words.{object_eq, object_cmp, with_one, with_all, occurs}
use Rattle.psb_model.specs.State.{Row, State, nothing_yet, row, row_in, at_row, in_key, out_key}
use Rattle.psb_model.specs.Grammar.{ascend}
use Rattle.psb_model.specs.Conditions.{settings_of_body}
use Rattle.psb_model.specs.Move.{Move, after_move}
use Rattle.psb_model.specs.Effects.{relabel_in, relabel_out, relabel_debt, settle_states, states_of, disturbed, loosen, note_of, rows_after, blank_rows, first_rows, move_of, after}
use Rattle.psb_model.specs.Proposing.{slot_number}
use Rattle.psb_model.specs.History.{state_from, state}
use Rattle.psb_model.proofs.ByObject.{by_cases, object_eq-refl, all_kept}
use Rattle.psb_model.proofs.ObjectOrder.{less_then, comes_first}
use Rattle.psb_model.proofs.Rows.{note_lists}

-- no entry comes before one that stands in front of it
abbrev pub is_sorted : {E : Type 0} → (E → Object) → List E → Bool
is_sorted key [] = true
is_sorted key (e ∷ es) = list_all (λ x. not (is_lt (object_cmp (key x) (key e)))) es && is_sorted key es

abbrev pub IsSortedRow : Row → Type 0
IsSortedRow r = (is_sorted in_key r.ins ≡ true) × (is_sorted out_key r.outs ≡ true)

abbrev pub AllSorted : List (ℕ × Row) → Type 0
AllSorted [] = Unit {0}
AllSorted (x ∷ xs) = IsSortedRow x.1 × AllSorted xs

-- ---- entries that come and go

-- what does not come before an object does not come before a lesser one
none_below : {E : Type 0} (key : E → Object) (o p : Object) (l : List E) → is_lt (object_cmp p o) ≡ true → list_all (λ x. not (is_lt (object_cmp (key x) o))) l ≡ true → list_all (λ x. not (is_lt (object_cmp (key x) p))) l ≡ true
none_below key o p [] less h = refl
none_below key o p (x ∷ xs) less h =
    let a = and_parts (not (is_lt (object_cmp (key x) o))) (list_all (λ y. not (is_lt (object_cmp (key y) o))) xs) h in
    by_cases (is_lt (object_cmp (key x) p))
    (λ k. let below = less_then (key x) p o k less in let wrong : false ≡ true = rw below at a.0 in absurd (true≢false (sym wrong)))
    (λ k. rw k (none_below key o p xs less a.1))

-- one entry more
below_with : {E : Type 0} (key : E → Object) (e : E) (o : Object) (l : List E) → is_lt (object_cmp (key e) o) ≡ false → list_all (λ x. not (is_lt (object_cmp (key x) o))) l ≡ true → list_all (λ x. not (is_lt (object_cmp (key x) o))) (with_one key e l) ≡ true
below_with key e o [] not_less h = rw not_less refl
below_with key e o (x ∷ xs) not_less h =
    let a = and_parts (not (is_lt (object_cmp (key x) o))) (list_all (λ y. not (is_lt (object_cmp (key y) o))) xs) h in
    by_cases (is_lt (object_cmp (key e) (key x)))
    (λ k. rw (k, not_less) h)
    (λ k. rw (k, a.0) (below_with key e o xs not_less a.1))

sorted_with : {E : Type 0} (key : E → Object) (e : E) (l : List E) → is_sorted key l ≡ true → is_sorted key (with_one key e l) ≡ true
sorted_with key e [] h = refl
sorted_with key e (x ∷ xs) h =
    let a = and_parts (list_all (λ y. not (is_lt (object_cmp (key y) (key x)))) xs) (is_sorted key xs) h in
    by_cases (is_lt (object_cmp (key e) (key x)))
    (λ k. rw k (rw (comes_first (key e) (key x) k, none_below key (key x) (key e) xs k a.0) h))
    (λ k. rw (k, below_with key e (key x) xs k a.0) (sorted_with key e xs a.1))

sorted_with_all : {E : Type 0} (key : E → Object) (es l : List E) → is_sorted key l ≡ true → is_sorted key (with_all key es l) ≡ true
sorted_with_all key [] l h = h
sorted_with_all key (e ∷ es) l h = sorted_with_all key es (with_one key e l) (sorted_with key e l h)

sorted_left : {E : Type 0} (key : E → Object) (q : E → Bool) (l : List E) → is_sorted key l ≡ true → is_sorted key (filter q l) ≡ true
sorted_left key q [] h = refl
sorted_left key q (x ∷ xs) h =
    let a = and_parts (list_all (λ y. not (is_lt (object_cmp (key y) (key x)))) xs) (is_sorted key xs) h in
    by_cases (q x)
    (λ k. rw (k, all_kept (λ y. not (is_lt (object_cmp (key y) (key x)))) q xs a.0) (sorted_left key q xs a.1))
    (λ k. rw k (sorted_left key q xs a.1))

-- entries with other states
sorted_map : {E : Type 0} (key : E → Object) (f : E → E) → ((e : E) → key (f e) ≡ key e) → (l : List E) → is_sorted key (map f l) ≡ is_sorted key l
sorted_map key f same [] = refl
sorted_map {E = E} key f same (x ∷ xs) = λ i. all_map (same x i) xs i && sorted_map key f same xs i
  where
    all_map : (o : Object) (l : List E) → list_all (λ y. not (is_lt (object_cmp (key y) o))) (map f l) ≡ list_all (λ y. not (is_lt (object_cmp (key y) o))) l
    all_map o [] = refl
    all_map o (y ∷ ys) = λ i. not (is_lt (object_cmp (same y i) o)) && all_map o ys i

-- ---- rows

moved : (m : Move) (r : Row) → IsSortedRow r → IsSortedRow (after_move m r)
moved m r h = (sorted_with_all in_key m.in_new _ (sorted_left in_key _ r.ins h.0), sorted_with_all out_key m.out_new _ (sorted_left out_key _ r.outs h.1))

same_field : {A B : Type 0} (f : A → B) (b : Bool) (x y : A) → f x ≡ f y → f (cond b x y) ≡ f y
same_field f true x y h = h
same_field f false x y h = refl

relabelled_in : (o : Object) (st : InState) (r : Row) → IsSortedRow r → IsSortedRow (relabel_in o st r)
relabelled_in o st r h = (sorted_map in_key (λ (e : InEntry). cond (object_eq e.object o) (record e { state = st }) e) (λ e. same_field in_key (object_eq e.object o) (record e { state = st }) e refl) r.ins ∙ h.0, h.1)

relabelled_out : (o : Object) (st : OutState) (r : Row) → IsSortedRow r → IsSortedRow (relabel_out o st r)
relabelled_out o st r h = (h.0, sorted_map out_key (λ (e : OutEntry). cond (object_eq e.object o) (record e { state = st }) e) (λ e. same_field out_key (object_eq e.object o) (record e { state = st }) e refl) r.outs ∙ h.1)

sorted_at : (p : ℕ) (f : Row → Row) (rows : List (ℕ × Row)) → ((r : Row) → IsSortedRow r → IsSortedRow (f r)) → AllSorted rows → AllSorted (at_row p f rows)
sorted_at p f [] keeps h = tt
sorted_at p f (x ∷ xs) keeps h = by_cases (x.0 == p) (λ k. rw k (keeps x.1 h.0, h.1)) (λ k. rw k (h.0, sorted_at p f xs keeps h.1))

sorted_settling : (p : ℕ) (o : Option Deal) (rows : List (ℕ × Row)) → AllSorted rows → AllSorted (settle_states p o rows)
sorted_settling p None rows h = h
sorted_settling p (Some d) rows h = by_what d.what
  where
    by_what : (what : DealWhat) → AllSorted (settle_states p (Some (record { number = d.number; what = what })) rows)
    by_what (Fresh name) = h
    by_what (Swap name numbers) = h
    by_what (Cancel name numbers) = h
    by_what (PutBack name first) = h
    by_what (Forward slot entry) = sorted_at entry.peer _ _ (relabelled_in (Slot entry.slot) (at.Forwarded (record { peer = p; slot = slot }))) (sorted_at p _ rows (relabelled_out (Slot slot) (on.Carries entry)) h)
    by_what (Return slot) = sorted_at p _ rows (relabelled_out (Slot slot) on.Own) h

sorted_states : (s : State) (c : Change) (rows : List (ℕ × Row)) → AllSorted rows → AllSorted (states_of s c rows)
sorted_states s (Replaced x) rows h = sorted_at x.peer _ rows (relabelled_in (Slot x.slot) _) h
sorted_states s (Settled x) rows h = sorted_settling x.peer (row s x.peer).pending rows h
sorted_states s _ rows h = h

sorted_loose : (es : List InEntry) (rows : List (ℕ × Row)) → AllSorted rows → AllSorted (loosen es rows)
sorted_loose [] rows h = h
sorted_loose (e ∷ es) rows h = sorted_loose es _ (by_state e.state)
  where
    by_state : (st : InState) → AllSorted (elim st [ at.Forwarded seat ↦ at_row seat.peer (λ r. relabel_debt (Slot seat.slot) on.Loose (relabel_out (Slot seat.slot) on.Loose r)) rows | _ ↦ rows ])
    by_state at.Body = h
    by_state at.Direct = h
    by_state (at.Home i) = h
    by_state (at.Forwarded seat) = sorted_at seat.peer _ rows (λ r k. relabelled_out (Slot seat.slot) on.Loose r k) h

noted : (s : State) (c : Change) (r : Row) → IsSortedRow r → IsSortedRow (note_of s c r)
noted s c r h = let same = note_lists s c r in (ap (is_sorted in_key) same.ins ∙ h.0, ap (is_sorted out_key) same.outs ∙ h.1)

sorted_of_peer : (s : State) (c : Change) (p : ℕ) → AllSorted s.rows → AllSorted (rows_after s c p)
sorted_of_peer s c p h = sorted_at p _ _ (noted s c) (sorted_loose (disturbed s c) _ (sorted_states s c _ (sorted_at p _ s.rows (moved (move_of s c)) h)))

sorted_blank : (ps : List PeerRow) → AllSorted (blank_rows ps)
sorted_blank [] = tt
sorted_blank (x ∷ xs) = ((refl, refl), sorted_blank xs)

sorted_first : (o : Option Settings) → AllSorted (first_rows o)
sorted_first None = tt
sorted_first (Some x) = sorted_blank x.peers

sorted_after : (s : State) (c : Change) → AllSorted s.rows → AllSorted (after s c).rows
sorted_after s (Begun x) h = sorted_first (settings_of_body x.body)
sorted_after s (Kept x) h = h
sorted_after s (Snapped x) h = h
sorted_after s (Forgot x) h = h
sorted_after s (TookFresh x) h = sorted_of_peer s (TookFresh x) x.peer h
sorted_after s (TookSwap x) h = sorted_of_peer s (TookSwap x) x.peer h
sorted_after s (LetGo x) h = sorted_of_peer s (LetGo x) x.peer h
sorted_after s (LetGoBack x) h = sorted_of_peer s (LetGoBack x) x.peer h
sorted_after s (Replaced x) h = sorted_of_peer s (Replaced x) x.peer h
sorted_after s (Refused x) h = sorted_of_peer s (Refused x) x.peer h
sorted_after s (Proposed x) h = sorted_of_peer s (Proposed x) x.peer h
sorted_after s (Settled x) h = sorted_of_peer s (Settled x) x.peer h
sorted_after s (Turned x) h = sorted_of_peer s (Turned x) x.peer h
sorted_after s (Asked x) h = sorted_of_peer s (Asked x) x.peer h
sorted_after s (Passed x) h = sorted_of_peer s (Passed x) x.peer h
sorted_after s (Failed x) h = sorted_of_peer s (Failed x) x.peer h
sorted_after s (Declined x) h = sorted_of_peer s (Declined x) x.peer h
sorted_after s (Discarded x) h = sorted_of_peer s (Discarded x) x.peer h
sorted_after s (Chose x) h = h

sorted_from : (s : State) (h : List Change) → AllSorted s.rows → AllSorted (state_from s h).rows
sorted_from s [] k = k
sorted_from s (c ∷ cs) k = sorted_from (after s c) cs (sorted_after s c k)

row_of_sorted : (rows : List (ℕ × Row)) (p : ℕ) → AllSorted rows → IsSortedRow (row_in rows p)
row_of_sorted [] p h = (refl, refl)
row_of_sorted (x ∷ xs) p h = by_cases (x.0 == p) (λ k. rw k h.0) (λ k. rw k (row_of_sorted xs p h.1))

pub sorted_row : (h : List Change) (p : ℕ) → IsSortedRow (row (state h) p)
sorted_row h p = row_of_sorted (state h).rows p (sorted_from nothing_yet h tt)

-- ---- the numbers of slots that stand once each ascend

abbrev pub numbers_that : {E : Type 0} → (E → Object) → (E → Bool) → List E → List ℕ
numbers_that key test l = flat_map (λ e. if test e then slot_number (key e) else []) l

all_above : {E : Type 0} (key : E → Object) (test : E → Bool) (n : ℕ) (l : List E) → list_all (λ x. not (is_lt (object_cmp (key x) (Slot n)))) l ≡ true → occurs key l (Slot n) ≡ 0 → list_all (λ m. ltb n m) (numbers_that key test l) ≡ true
all_above key test n [] h once = refl
all_above {E = E} key test n (e ∷ es) h once =
    let a = and_parts (not (is_lt (object_cmp (key e) (Slot n)))) (list_all (λ x. not (is_lt (object_cmp (key x) (Slot n)))) es) h in
    by_object (key e) a.0 (all_above key test n es a.1 (omega (arith, once))) (omega (arith, once))
  where
    by_object : (o : Object) → not (is_lt (object_cmp o (Slot n))) ≡ true → list_all (λ m. ltb n m) (numbers_that key test es) ≡ true → cond {A = ℕ} (object_eq o (Slot n)) 1 0 ≡ 0 → list_all (λ m. ltb n m) ((if test e then slot_number o else []) ++ numbers_that key test es) ≡ true
    by_object (Chunk c) not_less rest other = by_cases (test e) (λ k. rw k rest) (λ k. rw k rest)
    by_object (Slot m) not_less rest other = by_cases (test e) (λ k. rw k (rw (later m not_less other) rest)) (λ k. rw k rest)
      where
        later : (m : ℕ) → not (is_lt (object_cmp (Slot m) (Slot n))) ≡ true → cond {A = ℕ} (object_eq (Slot m) (Slot n)) 1 0 ≡ 0 → ltb n m ≡ true
        later m not_less other = grind (arith, nat_tests)

ascend_cons : (n : ℕ) (ns : List ℕ) → list_all (λ m. ltb n m) ns ≡ true → ascend ns ≡ true → ascend (n ∷ ns) ≡ true
ascend_cons n [] above h = refl
ascend_cons n (m ∷ ms) above h = rw (and_parts (ltb n m) (list_all (λ x. ltb n x) ms) above).0 h

pub numbers_ascend : {E : Type 0} (key : E → Object) (test : E → Bool) (l : List E) → is_sorted key l ≡ true → ((n : ℕ) → occurs key l (Slot n) ≤ 1) → ascend (numbers_that key test l) ≡ true
numbers_ascend key test [] h once = refl
numbers_ascend {E = E} key test (e ∷ es) h once =
    let a = and_parts (list_all (λ x. not (is_lt (object_cmp (key x) (key e)))) es) (is_sorted key es) h in
    by_object (key e) a.0 (numbers_ascend key test es a.1 (λ n. let one = once n in omega (arith, one))) (λ n. once n)
  where
    by_object : (o : Object) → list_all (λ x. not (is_lt (object_cmp (key x) o))) es ≡ true → ascend (numbers_that key test es) ≡ true → ((n : ℕ) → cond (object_eq o (Slot n)) 1 0 + occurs key es (Slot n) ≤ 1) → ascend ((if test e then slot_number o else []) ++ numbers_that key test es) ≡ true
    by_object (Chunk c) above rest one = by_cases (test e) (λ k. rw k rest) (λ k. rw k rest)
    by_object (Slot n) above rest one = by_cases (test e) (λ k. rw k (ascend_cons n (numbers_that key test es) (all_above key test n es above (none n (one n))) rest)) (λ k. rw k rest)
      where
        none : (n : ℕ) → cond (object_eq (Slot n) (Slot n)) 1 0 + occurs key es (Slot n) ≤ 1 → occurs key es (Slot n) ≡ 0
        none n one = let same = object_eq-refl (Slot n) in let one' = rw same at one in omega (arith, one')

-- and so do the first of them
pub ascend_take : (u : ℕ) (ns : List ℕ) → ascend ns ≡ true → ascend (take u ns) ≡ true
ascend_take zero ns h = refl
ascend_take (suc u) [] h = refl
ascend_take (suc zero) (n ∷ ns) h = refl
ascend_take (suc (suc u)) (n ∷ []) h = refl
ascend_take (suc (suc u)) (n ∷ m ∷ ms) h =
    let a = and_parts (ltb n m) (ascend (m ∷ ms)) h in
    rw a.0 (ascend_take (suc u) (m ∷ ms) a.1)
