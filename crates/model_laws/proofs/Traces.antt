-- What a change does to what stands with each peer, object by object: what is there after it was there before, came, or
-- came loose.
use Rattle.std.proofs.Common.{◌≡◌, ◌⊎◌, inl, inr, ℕ, Bool, true, false, not, List, [], ◌∷◌, ◌++◌, filter, refl, sym, ap, ◌∙◌, subst, ⊎_elim}
use Rattle.std.specs.Prelude.{◌==◌}
use Rattle.std.proofs.lemmas.Bool.{false≢true, eqb-true, eq-eqb}
use Rattle.psb_bytes.specs.declared.ids.Object.{Object}
use Rattle.psb_bytes.specs.declared.ids.Object.TheVariants.{Slot}
use Rattle.psb_bytes.specs.declared.ids.Seat.{Seat}
use Rattle.psb_model.specs.declared.entries.InEntry.{InEntry}
use Rattle.psb_model.specs.declared.entries.OutEntry.{OutEntry}
use Rattle.psb_model.specs.declared.entries.DebtEntry.{DebtEntry}
use Rattle.psb_model.specs.declared.entries.InState.{InState}
use Rattle.psb_model.specs.declared.entries.InState.TheVariants as at
use Rattle.psb_model.specs.declared.entries.OutState.{OutState}
use Rattle.psb_model.specs.declared.entries.OutState.TheVariants as on
use Rattle.psb_model.specs.Words.{In, listed, object_eq, without, with_all}
use Rattle.psb_model.specs.State.{Row, blank, row_in, has_row, at_row, in_key, out_key, debt_key}
use Rattle.psb_model.specs.Move.{Move, after_move, use_up}
use Rattle.psb_model.specs.Effects.{loosen, loose_at, relabel_in, relabel_out}
use Rattle.psb_model.proofs.ByObject.{by_cases, object_eq-same, object_eq-refl}
use Rattle.psb_model.proofs.Rows.{row_in-at_row, row_in-at_other, loosen_alike, SameLists}
use Rattle.psb_model.proofs.Freed.{loose_by}
use Rattle.model_laws.proofs.Marks.{At, Was, Labelled, kept, got, label, label_from, label_other, label_here, at_left, at_stays, at_with, at_more, at_append, at_filter, at_used}

abbrev pub in_state : InEntry → InState
in_state e = e.state

abbrev pub out_state : OutEntry → OutState
out_state e = e.state

abbrev pub debt_state : DebtEntry → OutState
debt_state d = d.state

abbrev pub ins_of : Row → List InEntry
ins_of r = r.ins

abbrev pub outs_of : Row → List OutEntry
outs_of r = r.outs

abbrev pub debts_of : Row → List DebtEntry
debts_of r = r.debts

-- in(q) has the object in this state; out(p) has it; debt(p) has it; and one of these two
abbrev pub Here : List (ℕ × Row) → ℕ → Object → InState → Type 0
Here rows q o st = At in_key in_state (row_in rows q).ins o st

abbrev pub Out : List (ℕ × Row) → ℕ → Object → OutState → Type 0
Out rows p o st = At out_key out_state (row_in rows p).outs o st

abbrev pub Owed : List (ℕ × Row) → ℕ → Object → OutState → Type 0
Owed rows p o st = At debt_key debt_state (row_in rows p).debts o st

abbrev pub There : List (ℕ × Row) → ℕ → Object → OutState → Type 0
There rows p o st = Out rows p o st ⊎ Owed rows p o st

-- the entry of this seat
abbrev pub seat_of : ℕ → ℕ → Seat
seat_of p n = record { peer = p; slot = n }

-- ---- one row gets other states

row_at : (p q : ℕ) (f : Row → Row) (rows : List (ℕ × Row)) → f blank ≡ blank → (p == q) ≡ true → row_in (at_row p f rows) q ≡ f (row_in rows q)
row_at p q f rows h k = subst (λ x. row_in (at_row p f rows) x ≡ f (row_in rows x)) (eqb-true p q k) (same rows)
  where
    same : (l : List (ℕ × Row)) → row_in (at_row p f l) p ≡ f (row_in l p)
    same [] = sym h
    same (x ∷ xs) = by_cases (x.0 == p) (λ j. rw (j, j) refl) (λ j. rw (j, j) (same xs))

-- what the change of one row leaves as it is
pub untouched : {A : Type 0} (get : Row → A) (p : ℕ) (f : Row → Row) → ((r : Row) → get (f r) ≡ get r) → (rows : List (ℕ × Row)) (q : ℕ) → get (row_in (at_row p f rows) q) ≡ get (row_in rows q)
untouched get p f h [] q = refl
untouched get p f h (x ∷ xs) q = by_cases (x.0 == p)
    (λ k. rw k (by_cases (x.0 == q) (λ j. rw j (h x.1)) (λ j. rw j refl)))
    (λ k. rw k (by_cases (x.0 == q) (λ j. rw j refl) (λ j. rw j (untouched get p f h xs q))))

-- a function of rows gives the entries at the object this state
pub record Relabels {E S : Type 0} (key : E → Object) (st : E → S) (get : Row → List E) (k : Object) (s : S) (f : Row → Row) : Type 0 where
  pub set : E → E
  pub same_key : (e : E) → key (set e) ≡ key e
  pub same_state : (e : E) → st (set e) ≡ s
  pub none : f blank ≡ blank
  pub labels : (r : Row) → get (f r) ≡ label key k set (get r)

-- it is as it was, or is in that row and got the state
pub data Marked {E S : Type 0} (key : E → Object) (st : E → S) (l : List E) (there : Bool) (k : Object) (s : S) (o : Object) (x : S) : Type 0 where
  as_was : (there ≡ true → object_eq o k ≡ false) → At key st l o x → Marked key st l there k s o x
  marked : there ≡ true → object_eq o k ≡ true → x ≡ s → Was key st l o → Marked key st l there k s o x

pub marked_from : {E S : Type 0} (key : E → Object) (st : E → S) (get : Row → List E) (k : Object) (s : S) (f : Row → Row) → Relabels key st get k s f → (rows : List (ℕ × Row)) (p q : ℕ) (o : Object) (x : S) → At key st (get (row_in (at_row p f rows) q)) o x → Marked key st (get (row_in rows q)) (p == q) k s o x
marked_from {E = E} {S = S} key st get k s f r rows p q o x h =
    by_cases (p == q)
    (λ j. one j (label_from key st k r.set s r.same_key r.same_state (get (row_in rows q)) o x (subst (λ (l : List E). At key st l o x) (ap get (row_at p q f rows r.none j) ∙ r.labels (row_in rows q)) h)))
    (λ j. as_was (λ y. absurd (false≢true (sym j ∙ y))) (subst (λ (w : Row). At key st (get w) o x) (row_in-at_other p q f rows j) h))
  where
    one : (p == q) ≡ true → Labelled key st (get (row_in rows q)) k s o x → Marked key st (get (row_in rows q)) (p == q) k s o x
    one j (kept a b) = as_was (λ y. a) b
    one j (got a b c) = marked j a b c

pub marked_other : {E S : Type 0} (key : E → Object) (st : E → S) (get : Row → List E) (k : Object) (s : S) (f : Row → Row) → Relabels key st get k s f → (rows : List (ℕ × Row)) (p q : ℕ) (o : Object) (x : S) → At key st (get (row_in rows q)) o x → ((p == q) ≡ true → object_eq o k ≡ false) → At key st (get (row_in (at_row p f rows) q)) o x
marked_other {E = E} key st get k s f r rows p q o x h other =
    by_cases (p == q)
    (λ j. subst (λ (l : List E). At key st l o x) (sym (ap get (row_at p q f rows r.none j) ∙ r.labels (row_in rows q))) (label_other key st k r.set (get (row_in rows q)) o x h (other j)))
    (λ j. subst (λ (w : Row). At key st (get w) o x) (sym (row_in-at_other p q f rows j)) h)

pub marked_here : {E S : Type 0} (key : E → Object) (st : E → S) (get : Row → List E) (k : Object) (s : S) (f : Row → Row) → Relabels key st get k s f → (rows : List (ℕ × Row)) (p q : ℕ) (o : Object) (x : S) → At key st (get (row_in rows q)) o x → (p == q) ≡ true → object_eq o k ≡ true → At key st (get (row_in (at_row p f rows) q)) o s
marked_here {E = E} key st get k s f r rows p q o x h j same =
    subst (λ (l : List E). At key st l o s) (sym (ap get (row_at p q f rows r.none j) ∙ r.labels (row_in rows q))) (label_here key st k r.set s r.same_key r.same_state (get (row_in rows q)) o x h same)

pub relabels_in : (k : Object) (s : InState) → Relabels in_key in_state ins_of k s (relabel_in k s)
relabels_in k s = record { set = λ e. record e { state = s }; same_key = λ e. refl; same_state = λ e. refl; none = refl; labels = λ r. refl }

pub relabels_out : (k : Object) (s : OutState) → Relabels out_key out_state outs_of k s (relabel_out k s)
relabels_out k s = record { set = λ e. record e { state = s }; same_key = λ e. refl; same_state = λ e. refl; none = refl; labels = λ r. refl }

-- ---- what comes loose

-- an entry of this state is forwarded to the object of out(p)
pub record Frees (st : InState) (p : ℕ) (o : Object) : Type 0 where
  pub slot : ℕ
  pub state : st ≡ at.Forwarded (seat_of p slot)
  pub here : o ≡ Slot slot

-- one of these is
pub record Hit (es : List InEntry) (p : ℕ) (o : Object) : Type 0 where
  pub entry : InEntry
  pub stands : In entry es
  pub frees : Frees entry.state p o

-- it is as it was, or came loose
pub data Freed {E : Type 0} (key : E → Object) (st : E → OutState) (l : List E) (hit : Type 0) (o : Object) (x : OutState) : Type 0 where
  as_stood : (hit → ⊥) → At key st l o x → Freed key st l hit o x
  loose : hit → x ≡ on.Loose → Was key st l o → Freed key st l hit o x

-- of both lists: out, and debt
pub record Loosens {E : Type 0} (key : E → Object) (st : E → OutState) (get : Row → List E) : Type 0 where
  pub by : (n : ℕ) → Relabels key st get (Slot n) on.Loose (loose_at n)

pub loosens_out : Loosens out_key out_state outs_of
loosens_out = record { by = λ n. record { set = λ e. record e { state = on.Loose }; same_key = λ e. refl; same_state = λ e. refl; none = refl; labels = λ r. refl } }

pub loosens_debt : Loosens debt_key debt_state debts_of
loosens_debt = record { by = λ n. record { set = λ e. record e { state = on.Loose }; same_key = λ e. refl; same_state = λ e. refl; none = refl; labels = λ r. refl } }

one_freed : {E : Type 0} (key : E → Object) (st : E → OutState) (get : Row → List E) → Loosens key st get → (it : InState) (rows : List (ℕ × Row)) (p : ℕ) (o : Object) (x : OutState) → At key st (get (row_in (loose_by it rows) p)) o x → Freed key st (get (row_in rows p)) (Frees it p o) o x
one_freed {E = E} key st get w (at.Forwarded seat) rows p o x h =
    one (marked_from key st get (Slot seat.slot) on.Loose (loose_at seat.slot) (w.by seat.slot) rows seat.peer p o x h)
  where
    none : ((seat.peer == p) ≡ true → object_eq o (Slot seat.slot) ≡ false) → Frees (at.Forwarded seat) p o → ⊥
    none a f =
        let same : seat ≡ seat_of p f.slot = cc (f.state) in
        let peer : (seat.peer == p) ≡ true = ap (λ (y : Seat). y.peer == p) same ∙ eq-eqb p p refl in
        let slot : o ≡ Slot seat.slot = f.here ∙ ap (λ (y : Seat). Slot y.slot) (sym same) in
        false≢true (sym (a peer) ∙ ap (λ y. object_eq y (Slot seat.slot)) slot ∙ object_eq-refl (Slot seat.slot))

    one : Marked key st (get (row_in rows p)) (seat.peer == p) (Slot seat.slot) on.Loose o x → Freed key st (get (row_in rows p)) (Frees (at.Forwarded seat) p o) o x
    one (as_was a b) = as_stood (none a) b
    one (marked a b c d) = loose (record { slot = seat.slot; state = ap (λ y. at.Forwarded (seat_of y seat.slot)) (eqb-true seat.peer p a); here = object_eq-same o (Slot seat.slot) b }) c d
one_freed key st get w at.Body rows p o x h = as_stood (λ f. absurd (cc (f.state))) h
one_freed key st get w at.Direct rows p o x h = as_stood (λ f. absurd (cc (f.state))) h
one_freed key st get w (at.Home i) rows p o x h = as_stood (λ f. absurd (cc (f.state))) h

pub freed_from : {E : Type 0} (key : E → Object) (st : E → OutState) (get : Row → List E) → Loosens key st get → (es : List InEntry) (rows : List (ℕ × Row)) (p : ℕ) (o : Object) (x : OutState) → At key st (get (row_in (loosen es rows) p)) o x → Freed key st (get (row_in rows p)) (Hit es p o) o x
freed_from key st get w [] rows p o x h = as_stood (λ hit. hit.stands) h
freed_from {E = E} key st get w (e ∷ es) rows p o x h = join (freed_from key st get w es (loose_by e.state rows) p o x h)
  where
    more : Hit es p o → Hit (e ∷ es) p o
    more hit = record { entry = hit.entry; stands = inr hit.stands; frees = hit.frees }

    neither : (Hit es p o → ⊥) → (Frees e.state p o → ⊥) → Hit (e ∷ es) p o → ⊥
    neither a b hit = ⊎_elim (λ (s : hit.entry ≡ e). b (subst (λ (y : InEntry). Frees y.state p o) s hit.frees)) (λ (t : In hit.entry es). a (record { entry = hit.entry; stands = t; frees = hit.frees })) hit.stands

    first : (Hit es p o → ⊥) → Freed key st (get (row_in rows p)) (Frees e.state p o) o x → Freed key st (get (row_in rows p)) (Hit (e ∷ es) p o) o x
    first miss (as_stood a b) = as_stood (neither miss a) b
    first miss (loose a b c) = loose (record { entry = e; stands = inl refl; frees = a }) b c

    again : (y : OutState) → Hit es p o → x ≡ on.Loose → Freed key st (get (row_in rows p)) (Frees e.state p o) o y → Freed key st (get (row_in rows p)) (Hit (e ∷ es) p o) o x
    again y hit is (as_stood a b) = loose (more hit) is (record { before = y; stood = b })
    again y hit is (loose a b c) = loose (more hit) is c

    join : Freed key st (get (row_in (loose_by e.state rows) p)) (Hit es p o) o x → Freed key st (get (row_in rows p)) (Hit (e ∷ es) p o) o x
    join (as_stood a b) = first a (one_freed key st get w e.state rows p o x b)
    join (loose a b c) = again c.before a b (one_freed key st get w e.state rows p o c.before c.stood)

one_keeps : {E : Type 0} (key : E → Object) (st : E → OutState) (get : Row → List E) → Loosens key st get → (it : InState) (rows : List (ℕ × Row)) (p : ℕ) (o : Object) (x : OutState) → At key st (get (row_in rows p)) o x → (Frees it p o → ⊥) → At key st (get (row_in (loose_by it rows) p)) o x
one_keeps key st get w (at.Forwarded seat) rows p o x h miss =
    marked_other key st get (Slot seat.slot) on.Loose (loose_at seat.slot) (w.by seat.slot) rows seat.peer p o x h
    (λ j. by_cases (object_eq o (Slot seat.slot))
    (λ k. absurd (miss (record { slot = seat.slot; state = ap (λ y. at.Forwarded (seat_of y seat.slot)) (eqb-true seat.peer p j); here = object_eq-same o (Slot seat.slot) k })))
    (λ k. k))
one_keeps key st get w at.Body rows p o x h miss = h
one_keeps key st get w at.Direct rows p o x h miss = h
one_keeps key st get w (at.Home i) rows p o x h miss = h

pub freed_keeps : {E : Type 0} (key : E → Object) (st : E → OutState) (get : Row → List E) → Loosens key st get → (es : List InEntry) (rows : List (ℕ × Row)) (p : ℕ) (o : Object) (x : OutState) → At key st (get (row_in rows p)) o x → (Hit es p o → ⊥) → At key st (get (row_in (loosen es rows) p)) o x
freed_keeps key st get w [] rows p o x h miss = h
freed_keeps key st get w (e ∷ es) rows p o x h miss =
    freed_keeps key st get w es (loose_by e.state rows) p o x
    (one_keeps key st get w e.state rows p o x h (λ f. miss (record { entry = e; stands = inl refl; frees = f })))
    (λ hit. miss (record { entry = hit.entry; stands = inr hit.stands; frees = hit.frees }))

pub loosen_ins : (es : List InEntry) (rows : List (ℕ × Row)) (q : ℕ) → (row_in (loosen es rows) q).ins ≡ (row_in rows q).ins
loosen_ins [] rows q = refl
loosen_ins (e ∷ es) rows q = loosen_ins es (loose_by e.state rows) q ∙ one e.state
  where
    one : (it : InState) → (row_in (loose_by it rows) q).ins ≡ (row_in rows q).ins
    one (at.Forwarded seat) = untouched ins_of seat.peer (loose_at seat.slot) (λ r. refl) rows q
    one at.Body = refl
    one at.Direct = refl
    one (at.Home i) = refl

-- ---- a row moves, where some entries came loose

abbrev pub moved_rows : ℕ → (Row → Row) → List InEntry → List (ℕ × Row) → List (ℕ × Row)
moved_rows p f es rows = at_row p f (loosen es rows)

-- the function of the row moves it, whatever else it notes
abbrev pub Moves : Move → (Row → Row) → Type 0
Moves m f = (r : Row) → SameLists (after_move m r) (f r)

row_moved : (p q : ℕ) (f : Row → Row) (es : List InEntry) (rows : List (ℕ × Row)) → has_row rows p ≡ true → (p == q) ≡ true → row_in (moved_rows p f es rows) q ≡ f (row_in (loosen es rows) q)
row_moved p q f es rows peer k = subst (λ x. row_in (moved_rows p f es rows) x ≡ f (row_in (loosen es rows) x)) (eqb-true p q k) (row_in-at_row p f (loosen es rows) ((loosen_alike es rows).peers p ∙ peer))

-- what the node answers for stood before, or came
pub data HereThen (rows : List (ℕ × Row)) (p : ℕ) (m : Move) (q : ℕ) (o : Object) (st : InState) : Type 0 where
  here_stood : ((p == q) ≡ true → listed m.in_gone o ≡ false) → Here rows q o st → HereThen rows p m q o st
  here_came : At in_key in_state m.in_new o st → HereThen rows p m q o st

pub here_from : (p : ℕ) (m : Move) (f : Row → Row) → Moves m f → (es : List InEntry) (rows : List (ℕ × Row)) → has_row rows p ≡ true → (q : ℕ) (o : Object) (st : InState) → Here (moved_rows p f es rows) q o st → HereThen rows p m q o st
here_from p m f moves es rows peer q o st h =
    by_cases (p == q)
    (λ k. let is : (row_in (moved_rows p f es rows) q).ins ≡ with_all in_key m.in_new (without in_key m.in_gone (row_in rows q).ins) = ap ins_of (row_moved p q f es rows peer k) ∙ (moves (row_in (loosen es rows) q)).ins ∙ ap (λ l. with_all in_key m.in_new (without in_key m.in_gone l)) (loosen_ins es rows q) in
    ⊎_elim
    (λ (a : At in_key in_state m.in_new o st). here_came a)
    (λ (b : At in_key in_state (without in_key m.in_gone (row_in rows q).ins) o st). let c = at_left in_key in_state m.in_gone (row_in rows q).ins o st b in here_stood (λ j. c.1) c.0)
    (at_with in_key in_state m.in_new (without in_key m.in_gone (row_in rows q).ins) o st (subst (λ (l : List InEntry). At in_key in_state l o st) is h)))
    (λ k. here_stood (λ j. absurd (false≢true (sym k ∙ j))) (subst (λ (l : List InEntry). At in_key in_state l o st) (ap ins_of (row_in-at_other p q f (loosen es rows) k) ∙ loosen_ins es rows q) h))

pub here_keeps : (p : ℕ) (m : Move) (f : Row → Row) → Moves m f → (es : List InEntry) (rows : List (ℕ × Row)) → has_row rows p ≡ true → (q : ℕ) (o : Object) (st : InState) → Here rows q o st → ((p == q) ≡ true → listed m.in_gone o ≡ false) → Here (moved_rows p f es rows) q o st
here_keeps p m f moves es rows peer q o st h stays =
    by_cases (p == q)
    (λ k. let is : (row_in (moved_rows p f es rows) q).ins ≡ with_all in_key m.in_new (without in_key m.in_gone (row_in rows q).ins) = ap ins_of (row_moved p q f es rows peer k) ∙ (moves (row_in (loosen es rows) q)).ins ∙ ap (λ l. with_all in_key m.in_new (without in_key m.in_gone l)) (loosen_ins es rows q) in
    subst (λ (l : List InEntry). At in_key in_state l o st) (sym is) (at_more in_key in_state m.in_new (without in_key m.in_gone (row_in rows q).ins) o st (at_stays in_key in_state m.in_gone (row_in rows q).ins o st h (stays k))))
    (λ k. subst (λ (l : List InEntry). At in_key in_state l o st) (sym (ap ins_of (row_in-at_other p q f (loosen es rows) k) ∙ loosen_ins es rows q)) h)

-- what was there in some state
pub record WasThere (rows : List (ℕ × Row)) (p : ℕ) (o : Object) : Type 0 where
  pub before : OutState
  pub stood : There rows p o before

-- what the node has on a peer, or the peer lost, stood before, came loose, or came
pub data ThereThen (rows : List (ℕ × Row)) (p : ℕ) (m : Move) (es : List InEntry) (q : ℕ) (o : Object) (st : OutState) : Type 0 where
  there_stood : (Hit es q o → ⊥) → There rows q o st → ThereThen rows p m es q o st
  there_loose : Hit es q o → st ≡ on.Loose → WasThere rows q o → ThereThen rows p m es q o st
  there_new : (p == q) ≡ true → At out_key out_state m.out_new o st → ThereThen rows p m es q o st
  there_booked : (p == q) ≡ true → At debt_key debt_state m.booked o st → ThereThen rows p m es q o st

out_freed : (p : ℕ) (m : Move) (es : List InEntry) (rows : List (ℕ × Row)) (q : ℕ) (o : Object) (st : OutState) → At out_key out_state (row_in (loosen es rows) q).outs o st → ThereThen rows p m es q o st
out_freed p m es rows q o st h = one (freed_from out_key out_state outs_of loosens_out es rows q o st h)
  where
    one : Freed out_key out_state (row_in rows q).outs (Hit es q o) o st → ThereThen rows p m es q o st
    one (as_stood a b) = there_stood a (inl b)
    one (loose a b c) = there_loose a b (record { before = c.before; stood = inl c.stood })

debt_freed : (p : ℕ) (m : Move) (es : List InEntry) (rows : List (ℕ × Row)) (q : ℕ) (o : Object) (st : OutState) → At debt_key debt_state (row_in (loosen es rows) q).debts o st → ThereThen rows p m es q o st
debt_freed p m es rows q o st h = one (freed_from debt_key debt_state debts_of loosens_debt es rows q o st h)
  where
    one : Freed debt_key debt_state (row_in rows q).debts (Hit es q o) o st → ThereThen rows p m es q o st
    one (as_stood a b) = there_stood a (inr b)
    one (loose a b c) = there_loose a b (record { before = c.before; stood = inr c.stood })

pub there_from : (p : ℕ) (m : Move) (f : Row → Row) → Moves m f → (es : List InEntry) (rows : List (ℕ × Row)) → has_row rows p ≡ true → (q : ℕ) (o : Object) (st : OutState) → There (moved_rows p f es rows) q o st → ThereThen rows p m es q o st
there_from p m f moves es rows peer q o st (inl h) =
    by_cases (p == q)
    (λ k. let before = (row_in (loosen es rows) q).outs in
    let is : (row_in (moved_rows p f es rows) q).outs ≡ with_all out_key m.out_new (without out_key m.out_gone before) = ap outs_of (row_moved p q f es rows peer k) ∙ (moves (row_in (loosen es rows) q)).outs in
    ⊎_elim
    (λ (a : At out_key out_state m.out_new o st). there_new k a)
    (λ (b : At out_key out_state (without out_key m.out_gone before) o st). out_freed p m es rows q o st (at_left out_key out_state m.out_gone before o st b).0)
    (at_with out_key out_state m.out_new (without out_key m.out_gone before) o st (subst (λ (l : List OutEntry). At out_key out_state l o st) is h)))
    (λ k. out_freed p m es rows q o st (subst (λ (w : Row). At out_key out_state w.outs o st) (row_in-at_other p q f (loosen es rows) k) h))
there_from p m f moves es rows peer q o st (inr h) =
    by_cases (p == q)
    (λ k. let before = (row_in (loosen es rows) q).debts in
    let kept_rows = filter (λ (d : DebtEntry). not (m.returned d)) before in
    let is : (row_in (moved_rows p f es rows) q).debts ≡ use_up m.used_up kept_rows ++ m.booked = ap debts_of (row_moved p q f es rows peer k) ∙ (moves (row_in (loosen es rows) q)).debts in
    ⊎_elim
    (λ (a : At debt_key debt_state (use_up m.used_up kept_rows) o st). debt_freed p m es rows q o st (at_filter debt_key debt_state (λ (d : DebtEntry). not (m.returned d)) before o st (at_used m.used_up kept_rows o st a)))
    (λ (b : At debt_key debt_state m.booked o st). there_booked k b)
    (at_append debt_key debt_state (use_up m.used_up kept_rows) m.booked o st (subst (λ (l : List DebtEntry). At debt_key debt_state l o st) is h)))
    (λ k. debt_freed p m es rows q o st (subst (λ (w : Row). At debt_key debt_state w.debts o st) (row_in-at_other p q f (loosen es rows) k) h))

pub out_keeps : (p : ℕ) (m : Move) (f : Row → Row) → Moves m f → (es : List InEntry) (rows : List (ℕ × Row)) → has_row rows p ≡ true → (q : ℕ) (o : Object) (st : OutState) → Out rows q o st → (Hit es q o → ⊥) → ((p == q) ≡ true → listed m.out_gone o ≡ false) → Out (moved_rows p f es rows) q o st
out_keeps p m f moves es rows peer q o st h miss stays =
    let mid = freed_keeps out_key out_state outs_of loosens_out es rows q o st h miss in
    let before = (row_in (loosen es rows) q).outs in
    by_cases (p == q)
    (λ k. let is : (row_in (moved_rows p f es rows) q).outs ≡ with_all out_key m.out_new (without out_key m.out_gone before) = ap outs_of (row_moved p q f es rows peer k) ∙ (moves (row_in (loosen es rows) q)).outs in
    subst (λ (l : List OutEntry). At out_key out_state l o st) (sym is) (at_more out_key out_state m.out_new (without out_key m.out_gone before) o st (at_stays out_key out_state m.out_gone before o st mid (stays k))))
    (λ k. subst (λ (w : Row). At out_key out_state w.outs o st) (sym (row_in-at_other p q f (loosen es rows) k)) mid)
