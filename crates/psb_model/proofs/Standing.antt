-- Pending deals: what they stand for, what settles them, and what leaves them alone. And discards.
use Rattle.std.proofs.Common.{◌≡◌, ℕ, ◌+◌, ◌-◌, ◌%◌, ◌<◌, ◌≤◌, Bool, true, false, not, ◌&&◌, cond, leb, ltb, List, [], ◌∷◌, length, map, filter, sum_by, Option, Some, None, refl, sym, ap, ◌∙◌, inl, inr, arith}
use Rattle.std.specs.Prelude.{◌==◌, nat_lt}
use Rattle.std.proofs.lemmas.Bool.{false≢true, leb-true, and_parts}
use Rattle.std.proofs.lemmas.List.Sums.{sum_by-cons}
use Rattle.psb_bytes.specs.declared.ids.Object.{Object}
use Rattle.psb_bytes.specs.declared.ids.Object.TheVariants.{Chunk, Slot}
use Rattle.psb_model.specs.declared.entries.InEntry.{InEntry}
use Rattle.psb_model.specs.declared.entries.DebtEntry.{DebtEntry}
use Rattle.psb_model.specs.declared.entries.OwnEntry.{OwnEntry}
use Rattle.psb_model.specs.declared.deals.Deal.{Deal}
use Rattle.psb_model.specs.declared.deals.DealWhat.{DealWhat}
use Rattle.psb_model.specs.declared.deals.DealWhat.TheVariants.{Fresh, Swap, Cancel, PutBack, Forward, Return}
pub use Rattle.psb_model.specs.Words.{In}
use Rattle.psb_model.specs.Conditions.{same_objects}
use Rattle.psb_model.specs.Discards.{is_picked, picks}
use Rattle.psb_model.specs.Effects.{chunk_out, direct_slots, own_slots}
use Rattle.psb_model.specs.Grammar.{ascend}
use Rattle.psb_model.specs.Move.{Move, after_move, still}
use Rattle.psb_model.specs.State.{Row, debt_key, debt_units, debt_size, in_key, in_size, out_key, out_size, own_has, own_len}
use Rattle.psb_model.specs.Words.{has, listed, object_eq, objects_distinct, only, slots, units, units_at}
use Rattle.psb_model.proofs.ByObject.{object_eq-same, object_eq-refl, by_cases, carry, occurs, sum_by-only, sum_by-parts, sum_at, sum_at-ones, Ones, units_at-slot}
use Rattle.psb_model.proofs.Parts.{ascend-distinct, length-slots, no_chunk, sum-direct_slots, Ones-direct_slots, sum-own_slots, own_slots-chunk, IsRange, own_slots-slot, Ones-own_slots}
use Rattle.psb_model.proofs.Tidy.{total, IsTidy, weighs, none_returned, ones_moved, none_left, fewer, new_slots_in}

-- the list has the object once: units there are those of an own slot
pub occurs_none : {E : Type 0} (key : E → Object) (size : E → ℕ) (l : List E) (o : Object) → occurs key l o ≡ 0 → units_at key size l o ≡ 0
occurs_none key size [] o h = refl
occurs_none key size (e ∷ es) o h =
    by_cases (object_eq (key e) o)
    (λ k. let h' = rw k at h in absurd (omega (arith, h')))
    (λ k. let h' = rw k at h in rw k (omega (arith, occurs_none key size es o (omega (arith, h')))))

pub record SwapStands (own : List OwnEntry) (r : Row) (name : List ℕ) (numbers : List ℕ) : Type 0 where
  pub absent : total r (Chunk name) ≡ 0
  pub owned : own_has own name ≡ true
  pub long : length numbers ≡ units (own_len own name)
  pub ascends : ascend numbers ≡ true
  pub here : (o : Object) → listed (slots numbers) o ≡ true → occurs out_key r.outs o ≡ 1

pub record CancelStands (r : Row) (name : List ℕ) (numbers : List ℕ) : Type 0 where
  pub present : occurs out_key r.outs (Chunk name) ≡ 1
  pub long : length numbers ≡ units_at out_key out_size r.outs (Chunk name)
  pub ascends : ascend numbers ≡ true
  pub here : (o : Object) → listed (slots numbers) o ≡ true → occurs in_key r.ins o ≡ 1

pub record PutBackStands (issued : ℕ) (r : Row) (name : List ℕ) (first : ℕ) : Type 0 where
  pub present : occurs out_key r.outs (Chunk name) ≡ 1
  pub drawn : first + units_at out_key out_size r.outs (Chunk name) ≤ issued
  pub free : (n : ℕ) → first ≤ n → n < first + units_at out_key out_size r.outs (Chunk name) → total r (Slot n) ≡ 0

-- what a pending deal stands for
abbrev pub StandsFor : ℕ → List OwnEntry → Row → DealWhat → Type 0
StandsFor issued own r (Fresh name) = total r (Chunk name) ≡ 0
StandsFor issued own r (Swap name numbers) = SwapStands own r name numbers
StandsFor issued own r (Cancel name numbers) = CancelStands r name numbers
StandsFor issued own r (PutBack name first) = PutBackStands issued r name first
StandsFor issued own r (Forward slot entry) = Unit {0}
StandsFor issued own r (Return slot) = Unit {0}

abbrev pub Stands : ℕ → List OwnEntry → Row → Option Deal → Type 0
Stands issued own r None = Unit {0}
Stands issued own r (Some d) = StandsFor issued own r d.what

-- SETTLING

abbrev pub settle_fresh_move : List ℕ → ℕ → List ℕ → Move
settle_fresh_move name u numbers = record still { out_new = chunk_out name u ∷ []; in_new = direct_slots numbers }

-- one chunk that neither out(p) nor debt(p) had
new_chunk_total : (r : Row) (name : List ℕ) (o : Object) (x y d : ℕ) (b : Bool) → total r (Chunk name) ≡ 0 → x ≡ (cond (object_eq (Chunk name) o) 1 0 + 0) + cond b 0 (occurs out_key r.outs o) → y + d ≤ occurs debt_key r.debts o + 0 → total r o ≤ 1 → x + y ≤ 1
new_chunk_total r name o x y d b absent is le once =
    by_cases (object_eq (Chunk name) o)
    (λ k. let none : total r o ≡ 0 = sym (carry (total r) (Chunk name) o k) ∙ absent in let is' = rw k at is in omega (arith, is', none, le, fewer b (occurs out_key r.outs o)))
    (λ k. let is' = rw k at is in omega (arith, is', once, le, fewer b (occurs out_key r.outs o)))

pub tidy_settle_fresh : (issued u : ℕ) (numbers name : List ℕ) (r : Row) → 1 ≤ u → IsTidy issued r → total r (Chunk name) ≡ 0 → ascend numbers ≡ true → ((o : Object) → listed (slots numbers) o ≡ true → not (has in_key r.ins o) ≡ true) → length numbers ≡ u → IsTidy issued (after_move (settle_fresh_move name u numbers) r)
tidy_settle_fresh issued u numbers name r some t absent asc lacks long =
    let m : Move = settle_fresh_move name u numbers in
    let w = weighs r m refl refl (omega arith) in
    let ones = ones_moved issued r m t (Ones-direct_slots numbers) (some, tt) tt in
    record {
      balanced = omega (arith, w.held, w.back, w.debt, t.balanced, none_returned debt_size r.debts, sum-direct_slots numbers, long);
      ins_once = λ o. new_slots_in r numbers o _ false asc lacks (w.ins o) (t.ins_once o);
      ins_ones = ones.0;
      outs_once = λ o. new_chunk_total r name o _ _ _ false absent (w.outs o) (w.debts o) (t.outs_once o);
      outs_ones = ones.1;
      debts_ones = ones.2;
      below = λ n h. omega (arith, w.outs (Slot n), w.debts (Slot n), t.below n h);
    }

abbrev pub settle_swap_move : List ℕ → ℕ → List ℕ → Move
settle_swap_move name u numbers = record still { out_gone = slots numbers; out_new = chunk_out name u ∷ [] }

-- slots that occur once each are as many units
pub units_of_ones : {E : Type 0} (key : E → Object) (size : E → ℕ) (l : List E) (ns : List ℕ) → Ones key size l → ((o : Object) → listed (slots ns) o ≡ true → occurs key l o ≡ 1) → sum_at key size l (slots ns) ≡ length ns
units_of_ones key size l ns ones here =
    sum_at-ones key size l (slots ns) (elim [ Chunk c ↦ λ h. absurd (false≢true (sym (no_chunk ns c) ∙ h)) | Slot n ↦ λ h. units_at-slot key size l n ones ∙ here (Slot n) h ])
    ∙ length-slots ns

pub tidy_settle_swap : (issued : ℕ) (own : List OwnEntry) (numbers name : List ℕ) (r : Row) → IsTidy issued r → SwapStands own r name numbers → IsTidy issued (after_move (settle_swap_move name (units (own_len own name)) numbers) r)
tidy_settle_swap issued own numbers name r t s =
    let m : Move = settle_swap_move name (units (own_len own name)) numbers in
    let w = weighs r m refl (ascend-distinct numbers s.ascends) (omega arith) in
    let ones = ones_moved issued r m t tt (omega arith, tt) tt in
    record {
      balanced = omega (arith, w.held, w.back, w.debt, t.balanced, none_returned debt_size r.debts, units_of_ones out_key out_size r.outs numbers t.outs_ones s.here, s.long);
      ins_once = λ o. omega (arith, w.ins o, t.ins_once o);
      ins_ones = ones.0;
      outs_once = λ o. new_chunk_total r name o _ _ _ (listed (slots numbers) o) s.absent (w.outs o) (w.debts o) (t.outs_once o);
      outs_ones = ones.1;
      debts_ones = ones.2;
      below = λ n h. omega (arith, w.outs (Slot n), w.debts (Slot n), t.below n h, fewer (listed (slots numbers) (Slot n)) (occurs out_key r.outs (Slot n)));
    }

abbrev pub settle_cancel_move : List ℕ → List ℕ → Move
settle_cancel_move name numbers = record still { out_gone = Chunk name ∷ []; in_gone = slots numbers }

pub tidy_settle_cancel : (issued : ℕ) (numbers name : List ℕ) (r : Row) → IsTidy issued r → CancelStands r name numbers → IsTidy issued (after_move (settle_cancel_move name numbers) r)
tidy_settle_cancel issued numbers name r t s =
    let m : Move = settle_cancel_move name numbers in
    let w = weighs r m (ascend-distinct numbers s.ascends) refl (omega arith) in
    let ones = ones_moved issued r m t tt tt tt in
    record {
      balanced = omega (arith, w.held, w.back, w.debt, t.balanced, none_returned debt_size r.debts, units_of_ones in_key in_size r.ins numbers t.ins_ones s.here, s.long);
      ins_once = λ o. omega (arith, w.ins o, t.ins_once o, fewer (listed (slots numbers) o) (occurs in_key r.ins o));
      ins_ones = ones.0;
      outs_once = λ o. omega (arith, w.outs o, w.debts o, t.outs_once o, fewer (listed (Chunk name ∷ []) o) (occurs out_key r.outs o));
      outs_ones = ones.1;
      debts_ones = ones.2;
      below = λ n h. omega (arith, w.outs (Slot n), w.debts (Slot n), t.below n h, fewer (listed (Chunk name ∷ []) (Slot n)) (occurs out_key r.outs (Slot n)));
    }

abbrev pub settle_put_back_move : List ℕ → ℕ → ℕ → Move
settle_put_back_move name first u = record still { out_gone = Chunk name ∷ []; out_new = own_slots first u }

range_once : (first u : ℕ) (r : Row) (n k x y d : ℕ) (b : Bool) → IsRange first u n k → total r (Slot n) ≤ 1 → (first ≤ n → n < first + u → total r (Slot n) ≡ 0) → x ≡ k + cond b 0 (occurs out_key r.outs (Slot n)) → y + d ≤ occurs debt_key r.debts (Slot n) + 0 → x + y ≤ 1
range_once first u r n k x y d b range once free is le =
    by_cases (leb 1 k)
    (λ h. let least = leb-true 1 k h in omega (arith, range.once, free (range.low least) (range.high least), fewer b (occurs out_key r.outs (Slot n))))
    (λ h. let less = none_left k h in omega (arith, fewer b (occurs out_key r.outs (Slot n))))

range_below : (first u : ℕ) (r : Row) (n k x y d : ℕ) (b : Bool) → IsRange first u n k → first + u ≤ n → total r (Slot n) ≡ 0 → x ≡ k + cond b 0 (occurs out_key r.outs (Slot n)) → y + d ≤ occurs debt_key r.debts (Slot n) + 0 → x + y ≡ 0
range_below first u r n k x y d b range high none is le =
    by_cases (leb 1 k)
    (λ h. absurd (omega (arith, range.high (leb-true 1 k h))))
    (λ h. let less = none_left k h in omega (arith, fewer b (occurs out_key r.outs (Slot n))))

pub tidy_settle_put_back : (issued first : ℕ) (name : List ℕ) (r : Row) → IsTidy issued r → PutBackStands issued r name first → IsTidy issued (after_move (settle_put_back_move name first (units_at out_key out_size r.outs (Chunk name))) r)
tidy_settle_put_back issued first name r t s =
    let u = units_at out_key out_size r.outs (Chunk name) in
    let m : Move = settle_put_back_move name first u in
    let w = weighs r m refl refl (omega arith) in
    let ones = ones_moved issued r m t tt (Ones-own_slots first u) tt in
    record {
      balanced = omega (arith, w.held, w.back, w.debt, t.balanced, none_returned debt_size r.debts, sum-own_slots first u);
      ins_once = λ o. omega (arith, w.ins o, t.ins_once o);
      ins_ones = ones.0;
      outs_once = elim [ Chunk c ↦ omega (arith, w.outs (Chunk c), w.debts (Chunk c), own_slots-chunk first u c, t.outs_once (Chunk c), fewer (listed (Chunk name ∷ []) (Chunk c)) (occurs out_key r.outs (Chunk c))) | Slot n ↦ range_once first u r n _ _ _ _ (listed (Chunk name ∷ []) (Slot n)) (own_slots-slot first u n) (t.outs_once (Slot n)) (s.free n) (w.outs (Slot n)) (w.debts (Slot n)) ];
      outs_ones = ones.1;
      debts_ones = ones.2;
      below = λ n h. range_below first u r n _ _ _ _ (listed (Chunk name ∷ []) (Slot n)) (own_slots-slot first u n) (omega (arith, s.drawn)) (t.below n h) (w.outs (Slot n)) (w.debts (Slot n));
    }

-- DISCARDS

pub in_occurs : {E : Type 0} (key : E → Object) (e : E) (l : List E) → In e l → 1 ≤ occurs key l (key e)
in_occurs key e [] h = elim h [ ]
in_occurs key e (x ∷ xs) (inl same) = rw (ap (λ y. object_eq (key y) (key e)) (sym same) ∙ object_eq-refl (key e)) (omega arith)
in_occurs key e (x ∷ xs) (inr there) = omega (arith, in_occurs key e xs there)

pub in_units : {E : Type 0} (key : E → Object) (size : E → ℕ) (e : E) (l : List E) → In e l → occurs key l (key e) ≤ 1 → units_at key size l (key e) ≡ size e
in_units key size e [] h once = elim h [ ]
in_units key size e (x ∷ xs) (inl same) once =
    let k : object_eq (key x) (key e) ≡ true = ap (λ y. object_eq (key y) (key e)) (sym same) ∙ object_eq-refl (key e) in
    let once' = rw k at once in
    rw k (omega (arith, occurs_none key size xs (key e) (omega (arith, once')), ap size same))
in_units key size e (x ∷ xs) (inr there) once =
    by_cases (object_eq (key x) (key e))
    (λ k. let once' = rw k at once in absurd (omega (arith, once', in_occurs key e xs there)))
    (λ k. let once' = rw k at once in rw k (omega (arith, in_units key size e xs there (omega (arith, once')))))

pub in_cond : {E : Type 0} (t : Bool) (x e : E) (rest other es : List E) → (In x rest → In x es) → (In x other → In x es) → In x (cond t (e ∷ rest) other) → In x (e ∷ es)
in_cond true x e rest other es f g (inl s) = inl s
in_cond true x e rest other es f g (inr k) = inr (f k)
in_cond false x e rest other es f g h = inr (g h)

pub in_filter : {E : Type 0} (q : E → Bool) (e : E) (l : List E) → In e (filter q l) → In e l
in_filter q e [] h = h
in_filter q e (x ∷ xs) h = in_cond (q x) e x (filter q xs) (filter q xs) xs (in_filter q e xs) (in_filter q e xs) h

sum_at_members : {E : Type 0} (key : E → Object) (size : E → ℕ) (l ps : List E) → ((o : Object) → occurs key l o ≤ 1) → ((e : E) → In e ps → In e l) → sum_at key size l (map key ps) ≡ sum_by size ps
sum_at_members key size l [] once sub = refl
sum_at_members key size l (p ∷ ps) once sub = omega (arith, in_units key size p l (sub p (inl refl)) (once (key p)), sum_at_members key size l ps once (λ e h. sub e (inr h)), sum_by-cons size p ps)

picked : (t : Bool) (e : InEntry) (rest other : List InEntry) (left : ℕ) → (t ≡ true → e.units ≤ left) → (sum_by in_size rest ≤ left - e.units) → sum_by in_size other ≤ left → sum_by in_size (cond t (e ∷ rest) other) ≤ left
picked true e rest other left f a b = omega (arith, f refl, sum_by-cons in_size e rest)
picked false e rest other left f a b = b

picked_fits : (every word left room : ℕ) (e : InEntry) → is_picked every word left room e ≡ true → e.units ≤ left
picked_fits every word left room e h =
    let most = nat_lt 0 every && word % every == 0 in
    leb-true e.units left (and_parts most (leb e.units left) (and_parts (most && leb e.units left) (ltb 0 room) h).0).1

picks_total : (words : ℕ → ℕ) (every j left room : ℕ) (es : List InEntry) → sum_by in_size (picks words every j left room es) ≤ left
picks_total words every j left room [] = omega arith
picks_total words every j left room (e ∷ es) = picked (is_picked every (words j) left room e) e (picks words every (j + 1) (left - e.units) (room - 1) es) (picks words every (j + 1) left room es) left (picked_fits every (words j) left room e) (picks_total words every (j + 1) (left - e.units) (room - 1) es) (picks_total words every (j + 1) left room es)

pub picks_in : (words : ℕ → ℕ) (every j left room : ℕ) (es : List InEntry) (x : InEntry) → In x (picks words every j left room es) → In x es
picks_in words every j left room [] x h = h
picks_in words every j left room (e ∷ es) x h = in_cond (is_picked every (words j) left room e) x e (picks words every (j + 1) (left - e.units) (room - 1) es) (picks words every (j + 1) left room es) es (picks_in words every (j + 1) (left - e.units) (room - 1) es x) (picks_in words every (j + 1) left room es x) h

pub same_objects-same : (xs ys : List Object) → same_objects xs ys ≡ true → xs ≡ ys
same_objects-same [] [] h = refl
same_objects-same [] (y ∷ ys) h = absurd (false≢true h)
same_objects-same (x ∷ xs) [] h = absurd (false≢true h)
same_objects-same (x ∷ xs) (y ∷ ys) h =
    let parts = and_parts (object_eq x y) (same_objects xs ys) h in
    let a : x ≡ y = object_eq-same x y parts.0 in
    let b : xs ≡ ys = same_objects-same xs ys parts.1 in
    cc

-- what is picked has no more units than the debt
pub picked_units : (words : ℕ → ℕ) (every room : ℕ) (q : InEntry → Bool) (r : Row) (objects : List Object) → ((o : Object) → occurs in_key r.ins o ≤ 1) → objects_distinct objects ≡ true → objects ≡ map in_key (picks words every 0 (debt_units r) room (filter q r.ins)) → sum_by in_size (only in_key objects r.ins) ≤ debt_units r
picked_units words every room q r objects once distinct is =
    let ps = picks words every 0 (debt_units r) room (filter q r.ins) in
    let a : sum_by in_size (only in_key objects r.ins) ≡ sum_at in_key in_size r.ins objects = sum_by-only in_key in_size r.ins objects distinct in
    let b : sum_at in_key in_size r.ins (map in_key ps) ≡ sum_by in_size ps = sum_at_members in_key in_size r.ins ps once (λ e h. in_filter q e r.ins (picks_in words every 0 (debt_units r) room (filter q r.ins) e h)) in
    let c : sum_at in_key in_size r.ins objects ≡ sum_at in_key in_size r.ins (map in_key ps) = ap (sum_at in_key in_size r.ins) is in
    omega (arith, a, b, c, picks_total words every 0 (debt_units r) room (filter q r.ins))

abbrev pub discard_move : List Object → Row → Move
discard_move objects r = record still { in_gone = objects; used_up = sum_by in_size (only in_key objects r.ins) }

pub tidy_discard : (issued : ℕ) (objects : List Object) (r : Row) → IsTidy issued r → objects_distinct objects ≡ true → sum_by in_size (only in_key objects r.ins) ≤ debt_units r → IsTidy issued (after_move (discard_move objects r) r)
tidy_discard issued objects r t distinct le =
    let m : Move = discard_move objects r in
    let w = weighs r m distinct refl (omega (arith, le, sum_by-parts (λ (d : DebtEntry). false) debt_size r.debts, none_returned debt_size r.debts)) in
    let ones = ones_moved issued r m t tt tt tt in
    record {
      balanced = omega (arith, w.held, w.back, w.debt, t.balanced, none_returned debt_size r.debts, sum_by-only in_key in_size r.ins objects distinct);
      ins_once = λ o. omega (arith, w.ins o, t.ins_once o, fewer (listed objects o) (occurs in_key r.ins o));
      ins_ones = ones.0;
      outs_once = λ o. omega (arith, w.outs o, w.debts o, t.outs_once o);
      outs_ones = ones.1;
      debts_ones = ones.2;
      below = λ n h. omega (arith, w.outs (Slot n), w.debts (Slot n), t.below n h);
    }
