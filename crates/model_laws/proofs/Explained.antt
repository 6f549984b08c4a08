-- Each row of debt is explained.
use Rattle.std.proofs.Common.{◌≡◌, ◌⊎◌, ℕ, zero, suc, ◌-◌, ◌<◌, ◌≤◌, Bool, true, false, not, ◌&&◌, ◌||◌, cond, List, [], ◌∷◌, ◌++◌, map, filter, Option, Some, None, refl, sym, ap, ◌∙◌, subst, inl, inr, ⊎_elim, arith}
use Rattle.std.specs.Prelude.{◌==◌, nat_lt, nat_le}
use Rattle.std.proofs.lemmas.Bool.{false≢true, eqb-true, eq-eqb, leb-false, and_parts}
use Rattle.psb_bytes.specs.declared.ids.Object.{Object}
use Rattle.psb_bytes.specs.declared.ids.Object.TheVariants.{Chunk, Slot}
use Rattle.psb_model.specs.declared.entries.InEntry.{InEntry}
use Rattle.psb_model.specs.declared.entries.OutEntry.{OutEntry}
use Rattle.psb_model.specs.declared.entries.DebtEntry.{DebtEntry}
use Rattle.psb_model.specs.declared.deals.Deal.{Deal}
use Rattle.psb_model.specs.declared.deals.DealWhat.{DealWhat}
use Rattle.psb_model.specs.declared.deals.DealWhat.TheVariants.{Fresh, Swap, Cancel, PutBack, Forward, Return}
use Rattle.psb_model.specs.declared.entries.OutState.{OutState}
use Rattle.psb_model.specs.declared.entries.OutState.TheVariants as on
use Rattle.psb_model.specs.declared.entries.InState.{InState}
use Rattle.psb_model.specs.declared.entries.InState.TheVariants as at
use Rattle.psb_model.specs.declared.change.Change.{Change}
use Rattle.psb_model.specs.declared.change.Change.TheVariants.{Begun, Kept, Snapped, Forgot, TookFresh, TookSwap, LetGo, LetGoBack, Replaced, Refused, Proposed, Settled, Turned, Asked, Passed, Failed, Declined, Discarded, Chose}
use Rattle.psb_model.specs.Conditions.{settings_of_body, allowed, declined_objects, is_begun, of_a_peer, peer_of, tests}
use Rattle.psb_model.specs.Effects.{after, debt_row, disturbed, is_whole_listed, loosen, lost_rows, move_of, note_of, relabel_debt, relabel_in, relabel_out, rows_after, settle_move, settle_states, states_of}
use Rattle.psb_model.specs.Grammar.{in_grammar}
use Rattle.psb_model.specs.History.{AllExplained, Books, Explains, IsLoss, gives_back, gives_none, lawful_from, state, state_from}
use Rattle.psb_model.specs.Move.{after_move, use_up}
use Rattle.psb_model.specs.State.{Row, State, at_row, debt_key, has_row, is_peer, nothing_yet, out_key, out_size, row, row_in}
use Rattle.psb_model.specs.Words.{In, all_of, has, has_so, listed, object_eq, only, units_at}
use Rattle.std.proofs.Common.{append_assoc, append-nil}
use Rattle.psb_model.proofs.ByObject.{by_cases, carry, object_eq-refl, occurs, Ones}
use Rattle.psb_model.proofs.Standing.{in_occurs, in_units, in_filter}
use Rattle.psb_model.proofs.Rows.{row_in-at_row, row_in-at_other, has_row-at_row, states_alike, loosen_alike, AlikeRows, alike_rows_then, note_lists}
use Rattle.psb_model.proofs.Steps.{in_passes, not_true}
use Rattle.psb_model.proofs.Prefixes.{state_app, changes_are}
use Rattle.psb_model.proofs.Balance.{Good, good_state, good_after, good_nothing}

-- the same loss, with as much left or less
pub record IsOf (d d' : DebtEntry) : Type 0 where
  pub object : d'.object ≡ d.object
  pub units : d'.units ≡ d.units
  pub cause : d'.cause ≡ d.cause
  pub declined : d'.declined ≡ d.declined
  pub less : d'.left ≤ d.left
  pub some : 1 ≤ d.left → 1 ≤ d'.left

of_self : (d : DebtEntry) → IsOf d d
of_self d = record { object = refl; units = refl; cause = refl; declined = refl; less = omega arith; some = λ h. h }

of_then : (a b c : DebtEntry) → IsOf a b → IsOf b c → IsOf a c
of_then a b c x y = record { object = y.object ∙ x.object; units = y.units ∙ x.units; cause = y.cause ∙ x.cause; declined = y.declined ∙ x.declined; less = omega (arith, x.less, y.less); some = λ h. y.some (x.some h) }

-- each row of r' comes from one of r
abbrev From : List DebtEntry → List DebtEntry → Type 0
From ds ds' = (d : DebtEntry) → In d ds' → (e : DebtEntry) × In e ds × IsOf e d

from_self : (ds : List DebtEntry) → From ds ds
from_self ds d h = (d, h, of_self d)

from_then : (a b c : List DebtEntry) → From a b → From b c → From a c
from_then a b c f g d h = let y = g d h in let x = f y.0 y.1 in (x.0, x.1, of_then x.0 y.0 d x.2 y.2)

from_more : (x : DebtEntry) (a b : List DebtEntry) → From a b → From (x ∷ a) b
from_more x a b f d h = let y = f d h in (y.0, inr y.1, y.2)

from_map : (g : DebtEntry → DebtEntry) → ((d : DebtEntry) → IsOf d (g d)) → (ds : List DebtEntry) → From ds (map g ds)
from_map g h [] d k = elim k [ ]
from_map g h (x ∷ xs) d (inl same) = (x, inl refl, subst (IsOf x) (sym same) (h x))
from_map g h (x ∷ xs) d (inr there) = from_more x xs (map g xs) (from_map g h xs) d there

-- ROWS
abbrev FromRows : List (ℕ × Row) → List (ℕ × Row) → Type 0
FromRows rows rows' = (q : ℕ) → From (row_in rows q).debts (row_in rows' q).debts

from_rows_self : (rows : List (ℕ × Row)) → FromRows rows rows
from_rows_self rows q = from_self (row_in rows q).debts

from_rows_then : (a b c : List (ℕ × Row)) → FromRows a b → FromRows b c → FromRows a c
from_rows_then a b c f g q = from_then (row_in a q).debts (row_in b q).debts (row_in c q).debts (f q) (g q)

from_at_row : (p : ℕ) (f : Row → Row) → ((r : Row) → From r.debts (f r).debts) → (rows : List (ℕ × Row)) → FromRows rows (at_row p f rows)
from_at_row p f h [] q = from_self []
from_at_row p f h (x ∷ xs) q =
    by_cases (x.0 == p)
    (λ k. rw k (by_cases (x.0 == q) (λ j. rw j (h x.1)) (λ j. rw j (from_self (row_in xs q).debts))))
    (λ k. rw k (by_cases (x.0 == q) (λ j. rw j (from_self x.1.debts)) (λ j. rw j (from_at_row p f h xs q))))

label_of : (o : Object) (st : OutState) (d : DebtEntry) → IsOf d (cond (object_eq d.object o) (record d { state = st }) d)
label_of o st d = by_cases (object_eq d.object o) (λ k. rw k (record { object = refl; units = refl; cause = refl; declined = refl; less = omega arith; some = λ h. h })) (λ k. rw k (of_self d))

from_settle : (p : ℕ) (what : DealWhat) (number : ℕ) (rows : List (ℕ × Row)) → FromRows rows (settle_states p (Some (record { number = number; what = what })) rows)
from_settle p (Fresh name) number rows = from_rows_self rows
from_settle p (Swap name numbers) number rows = from_rows_self rows
from_settle p (Cancel name numbers) number rows = from_rows_self rows
from_settle p (PutBack name first) number rows = from_rows_self rows
from_settle p (Forward slot entry) number rows =
    let mid = at_row p (relabel_out (Slot slot) (on.Carries entry)) rows in
    from_rows_then rows mid _
    (from_at_row p (relabel_out (Slot slot) (on.Carries entry)) (λ r. from_self r.debts) rows)
    (from_at_row entry.peer (relabel_in (Slot entry.slot) (at.Forwarded (record { peer = p; slot = slot }))) (λ r. from_self r.debts) mid)
from_settle p (Return slot) number rows = from_at_row p (relabel_out (Slot slot) on.Own) (λ r. from_self r.debts) rows

from_settled : (p : ℕ) (d : Option Deal) (rows : List (ℕ × Row)) → FromRows rows (settle_states p d rows)
from_settled p None rows = from_rows_self rows
from_settled p (Some d) rows = from_settle p d.what d.number rows

from_states : (s : State) (c : Change) (rows : List (ℕ × Row)) → FromRows rows (states_of s c rows)
from_states s (Replaced x) rows = from_at_row x.peer (relabel_in (Slot x.slot) (cond (x.place == 0) at.Direct (at.Home x.home))) (λ r. from_self r.debts) rows
from_states s (Settled x) rows = from_settled x.peer (row s x.peer).pending rows
from_states s _ rows = from_rows_self rows

loose : Object → Row → Row
loose o r = relabel_debt o on.Loose (relabel_out o on.Loose r)

from_loose : (st : InState) (rows : List (ℕ × Row)) → FromRows rows (elim st [ at.Forwarded seat ↦ at_row seat.peer (λ r. relabel_debt (Slot seat.slot) on.Loose (relabel_out (Slot seat.slot) on.Loose r)) rows | _ ↦ rows ])
from_loose (at.Forwarded seat) rows = from_at_row seat.peer (λ r. relabel_debt (Slot seat.slot) on.Loose (relabel_out (Slot seat.slot) on.Loose r)) (λ r. from_map (λ d. cond (object_eq d.object (Slot seat.slot)) (record d { state = on.Loose }) d) (label_of (Slot seat.slot) on.Loose) r.debts) rows
from_loose at.Body rows = from_rows_self rows
from_loose at.Direct rows = from_rows_self rows
from_loose (at.Home i) rows = from_rows_self rows

from_loosen : (es : List InEntry) (rows : List (ℕ × Row)) → FromRows rows (loosen es rows)
from_loosen [] rows = from_rows_self rows
from_loosen (e ∷ es) rows = from_rows_then rows _ _ (from_loose e.state rows) (from_loosen es _)

-- WHAT IS USED UP, AND WHAT IS BOOKED
from_use_up : (n : ℕ) (ds : List DebtEntry) → From ds (use_up n ds)
from_use_up zero ds = from_self ds
from_use_up (suc n) [] = from_self []
from_use_up (suc n) (x ∷ xs) =
    by_cases (nat_le x.left (suc n))
    (λ k. rw k (from_more x xs (use_up (suc n - x.left) xs) (from_use_up (suc n - x.left) xs)))
    (λ k. rw k (part x n xs (leb-false x.left (suc n) k)))
  where
    part : (x : DebtEntry) (n : ℕ) (xs : List DebtEntry) → suc n < x.left → From (x ∷ xs) (record x { left = x.left - suc n } ∷ xs)
    part x n xs lt d (inl same) = (x, inl refl, subst (IsOf x) (sym same) (record { object = refl; units = refl; cause = refl; declined = refl; less = omega arith; some = λ h. omega arith }))
    part x n xs lt d (inr there) = (d, inr there, of_self d)

in_append : (d : DebtEntry) (xs ys : List DebtEntry) → In d (xs ++ ys) → (In d xs) ⊎ (In d ys)
in_append d [] ys h = inr h
in_append d (x ∷ xs) ys (inl same) = inl (inl same)
in_append d (x ∷ xs) ys (inr there) = ⊎_elim (λ (a : In d xs). inl (inr a)) (λ (b : In d ys). inr b) (in_append d xs ys there)

-- a booked row is a loss of an entry that is listed
pub record IsBooked (n : ℕ) (declined : Bool) (objects : List Object) (outs : List OutEntry) (d : DebtEntry) : Type 0 where
  pub entry : OutEntry
  pub there : In entry outs
  pub lists : listed objects entry.object ≡ true
  pub is : d ≡ debt_row n declined entry

in_map : (n : ℕ) (declined : Bool) (o : Object) (outs : List OutEntry) (d : DebtEntry) → In d (map (debt_row n declined) (only out_key (o ∷ []) outs)) → (e : OutEntry) × In e outs × (listed (o ∷ []) e.object ≡ true) × (d ≡ debt_row n declined e)
in_map n declined o [] d h = elim h [ ]
in_map n declined o (x ∷ xs) d h =
    by_cases (listed (o ∷ []) x.object)
    (λ k. let h' = rw k at h in here k h' (in_map n declined o xs d))
    (λ k. let h' = rw k at h in let r = in_map n declined o xs d h' in (r.0, inr r.1, r.2, r.3))
  where
    here : listed (o ∷ []) x.object ≡ true → In d (debt_row n declined x ∷ map (debt_row n declined) (only out_key (o ∷ []) xs)) → (In d (map (debt_row n declined) (only out_key (o ∷ []) xs)) → (e : OutEntry) × In e xs × (listed (o ∷ []) e.object ≡ true) × (d ≡ debt_row n declined e)) → (e : OutEntry) × In e (x ∷ xs) × (listed (o ∷ []) e.object ≡ true) × (d ≡ debt_row n declined e)
    here k (inl same) f = (x, inl refl, k, same)
    here k (inr there) f = let r = f there in (r.0, inr r.1, r.2, r.3)

booked_by : (n : ℕ) (declined : Bool) (os : List Object) (outs : List OutEntry) (d : DebtEntry) → In d (lost_rows n declined os outs) → IsBooked n declined os outs d
booked_by n declined [] outs d h = elim h [ ]
booked_by n declined (o ∷ os) outs d h =
    ⊎_elim
    (λ (a : In d (map (debt_row n declined) (only out_key (o ∷ []) outs))). let r = in_map n declined o outs d a in record { entry = r.0; there = r.1; lists = first o os r.0.object r.2; is = r.3 })
    (λ (b : In d (lost_rows n declined os outs)). let r = booked_by n declined os outs d b in record { entry = r.entry; there = r.there; lists = more o os r.entry.object r.lists; is = r.is })
    (in_append d (map (debt_row n declined) (only out_key (o ∷ []) outs)) (lost_rows n declined os outs) h)
  where
    first : (o : Object) (os : List Object) (x : Object) → listed (o ∷ []) x ≡ true → listed (o ∷ os) x ≡ true
    first o os x h = by_cases (object_eq o x) (λ k. rw k refl) (λ k. let h' = rw k at h in absurd (false≢true h'))

    more : (o : Object) (os : List Object) (x : Object) → listed os x ≡ true → listed (o ∷ os) x ≡ true
    more o os x h = by_cases (object_eq o x) (λ k. rw k refl) (λ k. rw (k, h) refl)

in_has : {E : Type 0} (key : E → Object) (e : E) (l : List E) → In e l → has key l (key e) ≡ true
in_has key e [] h = elim h [ ]
in_has key e (x ∷ xs) (inl same) = rw (ap (λ y. object_eq (key y) (key e)) (sym same) ∙ object_eq-refl (key e)) refl
in_has key e (x ∷ xs) (inr there) = by_cases (object_eq (key x) (key e)) (λ k. rw k refl) (λ k. rw (k, in_has key e xs there) refl)

in_ones : {E : Type 0} (key : E → Object) (size : E → ℕ) (e : E) (l : List E) → In e l → Ones key size l → 1 ≤ size e
in_ones key size e [] h o = elim h [ ]
in_ones key size e (x ∷ xs) (inl same) o = subst (λ n. 1 ≤ n) (ap size (sym same)) (some (key x) (size x) o.0)
  where
    some : (k : Object) (u : ℕ) → Rattle.psb_model.proofs.ByObject.slot_size k u → 1 ≤ u
    some (Chunk c) u h = h
    some (Slot n) u h = omega arith
in_ones key size e (x ∷ xs) (inr there) o = in_ones key size e xs there o.1

-- WHERE A ROW COMES FROM
pub record Booking (s : State) (c : Change) (q : ℕ) (d : DebtEntry) : Type 0 where
  pub books : Books s c q d
  pub number : d.cause ≡ s.changes
  pub least : 1 ≤ d.left
  pub most : d.left ≤ d.units

pub record KeptRow (s : State) (c : Change) (q : ℕ) (d : DebtEntry) : Type 0 where
  pub old : DebtEntry
  pub there : In old (row s q).debts
  pub same : IsOf old d
  pub stays : gives_back s c q old.object ≡ false

abbrev pub Origin : State → Change → ℕ → DebtEntry → Type 0
Origin s c q d = Booking s c q d ⊎ KeptRow s c q d

loss_of : (s : State) (q : ℕ) (declined : Bool) (objects : List Object) (d d' : DebtEntry) → IsOf d d' → IsLoss s q declined objects d → IsLoss s q declined objects d'
loss_of s q declined objects d d' i l = record {
  lists = ap (listed objects) i.object ∙ l.lists;
  flag = i.declined ∙ l.flag;
  stood = ap (has out_key (row s q).outs) i.object ∙ l.stood;
  units = ap (units_at out_key out_size (row s q).outs) i.object ∙ l.units ∙ sym i.units;
}

books_of : (s : State) (c : Change) (q : ℕ) (d d' : DebtEntry) → IsOf d d' → Books s c q d → Books s c q d'
books_of s (Failed x) q d d' i b = (b.0, loss_of s q false x.objects d d' i b.1)
books_of s (Declined x) q d d' i b = (b.0, loss_of s q true (declined_objects s x.peer x.asked x.places) d d' i b.1)
books_of s _ q d d' i b = absurd b

booking_of : (s : State) (c : Change) (q : ℕ) (d d' : DebtEntry) → IsOf d d' → Booking s c q d → Booking s c q d'
booking_of s c q d d' i b = record { books = books_of s c q d d' i b.books; number = i.cause ∙ b.number; least = i.some b.least; most = omega (arith, i.less, b.most, i.units) }

origin_of : (s : State) (c : Change) (q : ℕ) (d d' : DebtEntry) → IsOf d d' → Origin s c q d → Origin s c q d'
origin_of s c q d d' i o =
    ⊎_elim
    (λ (b : Booking s c q d). inl (booking_of s c q d d' i b))
    (λ (k : KeptRow s c q d). inr (record { old = k.old; there = k.there; same = of_then k.old d d' k.same i; stays = k.stays }))
    o

origin_moved : (s : State) (c : Change) (p : ℕ) → ((d : DebtEntry) → In d (move_of s c).booked → Booking s c p d) → ((d : DebtEntry) → In d (row s p).debts → (move_of s c).returned d ≡ false → gives_back s c p d.object ≡ false) → (d : DebtEntry) → In d (after_move (move_of s c) (row s p)).debts → Origin s c p d
origin_moved s c p bookings keeps d h =
    let m = move_of s c in
    let q : DebtEntry → Bool = λ x. not (m.returned x) in
    let left = filter q (row s p).debts in
    ⊎_elim
    (λ (a : In d (use_up m.used_up left)).
    let y = from_use_up m.used_up left d a in
    inr (record { old = y.0; there = in_filter q y.0 (row s p).debts y.1; same = y.2; stays = keeps y.0 (in_filter q y.0 (row s p).debts y.1) (not_true (m.returned y.0) (in_passes q y.0 (row s p).debts y.1)) }))
    (λ (b : In d m.booked). inl (bookings d b))
    (in_append d (use_up m.used_up left) m.booked h)

origin_of_peer : (s : State) (c : Change) (p : ℕ) → is_peer s p ≡ true → ((d : DebtEntry) → In d (move_of s c).booked → Booking s c p d) → ((d : DebtEntry) → In d (row s p).debts → (move_of s c).returned d ≡ false → gives_back s c p d.object ≡ false) → ((q : ℕ) (o : Object) → (p == q) ≡ false → gives_back s c q o ≡ false) → (q : ℕ) (d : DebtEntry) → In d (row_in (rows_after s c p) q).debts → Origin s c q d
origin_of_peer s c p peer bookings keeps others q d h =
    let first = at_row p (after_move (move_of s c)) s.rows in
    let second = loosen (disturbed s c) (states_of s c first) in
    let from : FromRows first second = from_rows_then first (states_of s c first) second (from_states s c first) (from_loosen (disturbed s c) (states_of s c first)) in
    let alike : AlikeRows first second = alike_rows_then first (states_of s c first) second (states_alike s c first) (loosen_alike (disturbed s c) (states_of s c first)) in
    by_cases (p == q)
    (λ k. let same : p ≡ q = eqb-true p q k in
    let has_p : has_row second p ≡ true = alike.peers p ∙ has_row-at_row p p (after_move (move_of s c)) s.rows ∙ peer in
    let at_p : In d (row_in (rows_after s c p) p).debts = subst (λ x. In d (row_in (rows_after s c p) x).debts) (sym same) h in
    let noted : In d (note_of s c (row_in second p)).debts = subst (λ (r : Row). In d r.debts) (row_in-at_row p (note_of s c) second has_p) at_p in
    let plain : In d (row_in second p).debts = subst (λ ds. In d ds) (note_lists s c (row_in second p)).debts noted in
    let y = from p d plain in
    let there : In y.0 (after_move (move_of s c) (row s p)).debts = subst (λ (r : Row). In y.0 r.debts) (row_in-at_row p (after_move (move_of s c)) s.rows peer) y.1 in
    subst (λ x. Origin s c x d) same (origin_of s c p y.0 d y.2 (origin_moved s c p bookings keeps y.0 there)))
    (λ k. let plain : In d (row_in second q).debts = subst (λ (r : Row). In d r.debts) (row_in-at_other p q (note_of s c) second k) h in
    let y = from q d plain in
    let there : In y.0 (row s q).debts = subst (λ (r : Row). In y.0 r.debts) (row_in-at_other p q (after_move (move_of s c)) s.rows k) y.1 in
    inr (record { old = y.0; there = there; same = y.2; stays = others q y.0.object k }))

-- what a Failed or Declined books
booking_from : (s : State) (p : ℕ) (declined : Bool) (objects : List Object) (d : DebtEntry) → Good s → IsBooked s.changes declined objects (row s p).outs d → (IsLoss s p declined objects d) × (d.cause ≡ s.changes) × (1 ≤ d.left) × (d.left ≤ d.units)
booking_from s p declined objects d g b =
    let t = (g.rows p).tidy in
    let e = b.entry in
    let x = debt_row s.changes declined e in
    let loss : IsLoss s p declined objects x = record {
      lists = b.lists;
      flag = refl;
      stood = in_has out_key e (row s p).outs b.there;
      units = in_units out_key out_size e (row s p).outs b.there (omega (arith, t.outs_once e.object));
    } in
    let some : 1 ≤ e.units = in_ones out_key out_size e (row s p).outs b.there t.outs_ones in
    let all : (IsLoss s p declined objects x) × (x.cause ≡ s.changes) × (1 ≤ x.left) × (x.left ≤ x.units) = (loss, refl, some, omega arith) in
    subst (λ (y : DebtEntry). (IsLoss s p declined objects y) × (y.cause ≡ s.changes) × (1 ≤ y.left) × (y.left ≤ y.units)) (sym b.is) all

-- a row that is not returned is no whole row of the list
lacks_so : (test : DebtEntry → Bool) (d : DebtEntry) (l : List DebtEntry) → In d l → occurs debt_key l d.object ≤ 1 → test d ≡ false → has_so debt_key test l d.object ≡ false
lacks_so test d [] h once fails = refl
lacks_so test d (x ∷ xs) (inl same) once fails =
    let k : object_eq x.object d.object ≡ true = ap (λ (y : DebtEntry). object_eq y.object d.object) (sym same) ∙ object_eq-refl d.object in
    let fails' : test x ≡ false = ap test (sym same) ∙ fails in
    let once' = rw k at once in
    rw (k, fails') (lacks_rest xs (omega (arith, once')))
  where
    lacks_rest : (l : List DebtEntry) → occurs debt_key l d.object ≡ 0 → has_so debt_key test l d.object ≡ false
    lacks_rest [] e = refl
    lacks_rest (y ∷ ys) e = by_cases (object_eq y.object d.object) (λ k. let e' = rw k at e in absurd (omega (arith, e'))) (λ k. let e' = rw k at e in rw k (lacks_rest ys (omega (arith, e'))))
lacks_so test d (x ∷ xs) (inr there) once fails =
    by_cases (object_eq x.object d.object)
    (λ k. let once' = rw k at once in absurd (omega (arith, once', in_occurs debt_key d xs there)))
    (λ k. let once' = rw k at once in rw k (lacks_so test d xs there (omega (arith, once')) fails))

pub origin : (s : State) (c : Change) → Good s → of_a_peer s (peer_of c) ≡ true → (q : ℕ) (d : DebtEntry) → In d (row (after s c) q).debts → Origin s c q d
origin s (Begun x) g pe q d h = absurd (subst (λ (r : Row). In d r.debts) (Rattle.psb_model.proofs.Rows.row_in-first_rows (settings_of_body x.body) q) h)
origin s (Kept x) g pe q d h = inr (record { old = d; there = h; same = of_self d; stays = refl })
origin s (Snapped x) g pe q d h = inr (record { old = d; there = h; same = of_self d; stays = refl })
origin s (Forgot x) g pe q d h = inr (record { old = d; there = h; same = of_self d; stays = refl })
origin s (Chose x) g pe q d h = inr (record { old = d; there = h; same = of_self d; stays = refl })
origin s (TookFresh z) g pe q d h = origin_of_peer s (TookFresh z) z.peer pe (λ x k. absurd k) (λ x k r. refl) (λ y o k. refl) q d h
origin s (TookSwap z) g pe q d h = origin_of_peer s (TookSwap z) z.peer pe (λ x k. absurd k) (λ x k r. refl) (λ y o k. refl) q d h
origin s (LetGo z) g pe q d h = origin_of_peer s (LetGo z) z.peer pe (λ x k. absurd k) (λ x k r. refl) (λ y o k. refl) q d h
origin s (LetGoBack z) g pe q d h = origin_of_peer s (LetGoBack z) z.peer pe (λ x k. absurd k) (λ x k r. refl) (λ y o k. refl) q d h
origin s (Replaced z) g pe q d h = origin_of_peer s (Replaced z) z.peer pe (λ x k. absurd k) (λ x k r. refl) (λ y o k. refl) q d h
origin s (Refused z) g pe q d h = origin_of_peer s (Refused z) z.peer pe (λ x k. absurd k) (λ x k r. refl) (λ y o k. refl) q d h
origin s (Proposed z) g pe q d h = origin_of_peer s (Proposed z) z.peer pe (λ x k. absurd k) (λ x k r. refl) (λ y o k. refl) q d h
origin s (Settled z) g pe q d h = origin_of_peer s (Settled z) z.peer pe (λ x k. absurd (none_booked s (row s z.peer) (row s z.peer).pending z.slots x k)) (λ x k r. refl) (λ y o k. refl) q d h
  where
    by_what : (s : State) (r : Row) (what : DealWhat) (number : ℕ) (numbers : List ℕ) (x : DebtEntry) → In x (settle_move s r (Some (record { number = number; what = what })) numbers).booked → ⊥
    by_what s r (Fresh name) number numbers x k = k
    by_what s r (Swap name mine) number numbers x k = k
    by_what s r (Cancel name theirs) number numbers x k = k
    by_what s r (PutBack name first) number numbers x k = k
    by_what s r (Forward slot entry) number numbers x k = k
    by_what s r (Return slot) number numbers x k = k

    none_booked : (s : State) (r : Row) (o : Option Deal) (numbers : List ℕ) (x : DebtEntry) → In x (settle_move s r o numbers).booked → ⊥
    none_booked s r None numbers x k = k
    none_booked s r (Some d) numbers x k = by_what s r d.what d.number numbers x k
origin s (Turned z) g pe q d h = origin_of_peer s (Turned z) z.peer pe (λ x k. absurd k) (λ x k r. refl) (λ y o k. refl) q d h
origin s (Asked z) g pe q d h = origin_of_peer s (Asked z) z.peer pe (λ x k. absurd k) (λ x k r. refl) (λ y o k. refl) q d h
origin s (Passed z) g pe q d h =
    origin_of_peer s (Passed z) z.peer pe
    (λ x k. absurd k)
    (λ x k r. rw (eq-eqb z.peer z.peer refl) (lacks_so (is_whole_listed z.objects) x (row s z.peer).debts k (let t = (g.rows z.peer).tidy.outs_once x.object in omega (arith, t)) r))
    (λ y o k. rw k refl)
    q d h
origin s (Failed z) g pe q d h =
    origin_of_peer s (Failed z) z.peer pe
    (λ x k. let b = booking_from s z.peer false z.objects x g (booked_by s.changes false z.objects (row s z.peer).outs x k) in record { books = (refl, b.0); number = b.1; least = b.2; most = b.3 })
    (λ x k r. refl) (λ y o k. refl) q d h
origin s (Declined z) g pe q d h =
    let objects = declined_objects s z.peer z.asked z.places in
    origin_of_peer s (Declined z) z.peer pe
    (λ x k. let b = booking_from s z.peer true objects x g (booked_by s.changes true objects (row s z.peer).outs x k) in record { books = (refl, b.0); number = b.1; least = b.2; most = b.3 })
    (λ x k r. refl) (λ y o k. refl) q d h
origin s (Discarded z) g pe q d h = origin_of_peer s (Discarded z) z.peer pe (λ x k. absurd k) (λ x k r. refl) (λ y o k. refl) q d h

-- OVER WHOLE HISTORIES
none_more : (s : State) (cs : List Change) (c : Change) (q : ℕ) (o : Object) → gives_none s cs q o ≡ true → gives_back (state_from s cs) c q o ≡ false → gives_none s (cs ++ c ∷ []) q o ≡ true
none_more s [] c q o h b = rw b refl
none_more s (x ∷ xs) c q o h b =
    let both = and_parts (not (gives_back s x q o)) (gives_none (after s x) xs q o) h in
    rw (both.0, none_more (after s x) xs c q o both.1 b) refl

abbrev RowsExplained : List Change → Type 0
RowsExplained h = (q : ℕ) (d : DebtEntry) → In d (row (state h) q).debts → Explains h q d

explain_booked : (pre : List Change) (c : Change) (q : ℕ) (d : DebtEntry) → Booking (state pre) c q d → Explains (pre ++ c ∷ []) q d
explain_booked pre c q d b = record {
  before = pre;
  cause = c;
  later = [];
  parts = refl;
  number = omega (arith, b.number, changes_are nothing_yet pre);
  books = b.books;
  stays = refl;
  least = b.least;
  most = b.most;
}

explain_kept : (pre : List Change) (c : Change) (q : ℕ) (d : DebtEntry) (k : KeptRow (state pre) c q d) → Explains pre q k.old → Explains (pre ++ c ∷ []) q d
explain_kept pre c q d k e =
    let start = after (state e.before) e.cause in
    let same : state pre ≡ state_from start e.later = ap state e.parts ∙ state_app nothing_yet e.before (e.cause ∷ e.later) in
    let back : gives_back (state_from start e.later) c q k.old.object ≡ false = sym (ap (λ s. gives_back s c q k.old.object) same) ∙ k.stays in
    record {
      before = e.before;
      cause = e.cause;
      later = e.later ++ c ∷ [];
      parts = ap (λ l. l ++ c ∷ []) e.parts ∙ append_assoc e.before (e.cause ∷ e.later) (c ∷ []);
      number = e.number ∙ sym k.same.cause;
      books = books_of (state e.before) e.cause q k.old d k.same e.books;
      stays = ap (gives_none start (e.later ++ c ∷ []) q) k.same.object ∙ none_more start e.later c q k.old.object e.stays back;
      least = k.same.some e.least;
      most = omega (arith, k.same.less, e.most, k.same.units);
    }

explain_step : (pre : List Change) (c : Change) → Good (state pre) → of_a_peer (state pre) (peer_of c) ≡ true → RowsExplained pre → RowsExplained (pre ++ c ∷ [])
explain_step pre c g pe f q d h =
    let h' : In d (row (after (state pre) c) q).debts = subst (λ s. In d (row s q).debts) (state_app nothing_yet pre (c ∷ [])) h in
    ⊎_elim
    (λ (b : Booking (state pre) c q d). explain_booked pre c q d b)
    (λ (k : KeptRow (state pre) c q d). explain_kept pre c q d k (f q k.old k.there))
    (origin (state pre) c g pe q d h')

explain_from : (pre rest : List Change) → Good (state pre) → RowsExplained pre → lawful_from (state pre) rest ≡ true → RowsExplained (pre ++ rest)
explain_from pre [] g f v = subst RowsExplained (sym (append-nil pre)) f
explain_from pre (c ∷ cs) g f v =
    let two = and_parts (in_grammar c && allowed (state pre) c) (lawful_from (after (state pre) c) cs) v in
    let one = and_parts (in_grammar c) (allowed (state pre) c) two.0 in
    let begun = is_begun c || nat_lt 0 (state pre).changes in
    let a = and_parts (begun && of_a_peer (state pre) (peer_of c)) (all_of (tests (state pre) c)) one.1 in
    let pe = (and_parts begun (of_a_peer (state pre) (peer_of c)) a.0).1 in
    let next : after (state pre) c ≡ state (pre ++ c ∷ []) = sym (state_app nothing_yet pre (c ∷ [])) in
    let g' : Good (state (pre ++ c ∷ [])) = subst Good next (good_after (state pre) c g one.0 one.1) in
    let v' : lawful_from (state (pre ++ c ∷ [])) cs ≡ true = subst (λ s. lawful_from s cs ≡ true) next two.1 in
    subst RowsExplained (append_assoc pre (c ∷ []) cs) (explain_from (pre ++ c ∷ []) cs g' (explain_step pre c g pe f) v')

-- the law
pub explained : AllExplained
explained h q v = record {
  rows = explain_from [] h good_nothing (λ p d k. absurd k) v q;
  once = ((good_state h v).rows q).tidy.outs_once;
}
