-- Each kind of change keeps the row of its peer tidy, and what a pending deal stands for.
use Rattle.std.proofs.Common.{◌≡◌, ℕ, ◌+◌, ◌<◌, ◌≤◌, Bool, true, false, not, cond, leb, List, [], ◌∷◌, length, map, filter, Option, Some, None, refl, sym, ap, ◌∙◌, subst, inl, inr, arith}
use Rattle.std.specs.Prelude.{◌==◌}
use Rattle.std.specs.List.{list_any}
use Rattle.std.proofs.lemmas.Bool.{false≢true, eqb-true, leb-true, and_parts}
use Rattle.psb_bytes.specs.declared.ids.Object.{Object}
use Rattle.psb_bytes.specs.declared.ids.Object.TheVariants.{Chunk, Slot}
use Rattle.psb_model.specs.declared.entries.InEntry.{InEntry}
use Rattle.psb_model.specs.declared.entries.DebtEntry.{DebtEntry}
use Rattle.psb_model.specs.declared.deals.Deal.{Deal}
use Rattle.psb_model.specs.declared.deals.DealWhat.{DealWhat}
use Rattle.psb_model.specs.declared.deals.DealWhat.TheVariants.{Fresh, Swap, Cancel, PutBack, Forward, Return}
use Rattle.psb_model.specs.declared.change.Change.{Change}
use Rattle.psb_model.specs.declared.change.Change.TheVariants.{TookFresh, TookSwap, LetGo, LetGoBack, Proposed, Settled, Discarded}
use Rattle.psb_model.specs.Conditions.{carries_none, each_slot, is_direct_or_home, is_own, may_settle, place_tests, propose_tests, tests}
use Rattle.psb_digest.specs.Words.{own_word}
use Rattle.psb_model.specs.Discards.{discards, one_in, seed}
use Rattle.psb_model.specs.Effects.{is_whole_listed, issued_after, loses, move_of, note_of, out_again, settle_move}
use Rattle.psb_model.specs.Grammar.{numbers_listed, ascend, chunk_fits, in_grammar}
use Rattle.psb_model.specs.Move.{Move, after_move, still}
use Rattle.psb_model.specs.State.{Row, State, debt_key, debt_units, debt_size, in_key, in_size, in_ties, is_wanted, out_key, out_size, own_has, own_len, row, row_in, tied_in, tied_out, ties_in, ties_out}
use Rattle.psb_model.specs.Words.{all_of, has, has_so, listed, object_eq, objects_distinct, slots, units, units_at}
use Rattle.psb_model.proofs.ByObject.{object_eq-refl, object_eq-same, by_cases, carry, occurs, units_at-map, has-occurs, lacks-units_at, has_so-has}
use Rattle.psb_model.proofs.Parts.{numbers_ascend, ascend-distinct, each_slot-listed, own_slots-chunk, IsRange, own_slots-slot, no_chunk, units_at-lost_rows}
use Rattle.psb_model.proofs.Tidy.{total, IsTidy, Weighs, weighs, none_left, fewer, tidy_still, fresh_move, tidy_fresh, swap_move, tidy_swap, let_go_move, tidy_let_go, put_back_move, tidy_put_back, lost_total, tidy_loses, give_back_move, tidy_give_back}
use Rattle.psb_model.proofs.Standing.{settle_put_back_move, settle_cancel_move, settle_swap_move, settle_fresh_move, In, picks_in, picked_units, same_objects-same, StandsFor, tidy_settle_fresh, tidy_settle_swap, tidy_settle_cancel, tidy_settle_put_back, discard_move, tidy_discard}
use Rattle.psb_model.proofs.Alone.{IsOld, stands_after, cancel_ties}
use Rattle.psb_model.proofs.Rows.{tidy_later}

-- the tests of a list, one by one
abbrev pub AllTrue : List Bool → Type 0
AllTrue [] = Unit {0}
AllTrue (b ∷ bs) = (b ≡ true) × AllTrue bs

pub parts : (bs : List Bool) → all_of bs ≡ true → AllTrue bs
parts [] h = tt
parts (b ∷ bs) h = let both = and_parts b (all_of bs) h in (both.0, parts bs both.1)

pub not_true : (b : Bool) → not b ≡ true → b ≡ false
not_true true h = sym h
not_true false h = refl

-- if a then not b, so if b then not a
pub unless : (a b : Bool) → (a ≡ true → not b ≡ true) → b ≡ true → a ≡ false
unless true b f h = absurd (false≢true (sym (not_true b (f refl)) ∙ h))
unless false b f h = refl

-- what the pending deal of p ties is tied
pub tie_shows : (rows : List (ℕ × Row)) (p q : ℕ) (d : Deal) (o : Object) → (row_in rows p).pending ≡ Some d → listed (in_ties p d.what q) o ≡ true → list_any (λ (x : ℕ × Row). ties_in x.0 x.1.pending q o) rows ≡ true
tie_shows [] p q d o e h = cc
tie_shows (x ∷ xs) p q d o e h =
    by_cases (x.0 == p)
    (λ k. let e' = rw k at e in
    let same : x.0 ≡ p = eqb-true x.0 p k in
    let here : ties_in x.0 x.1.pending q o ≡ true = ap (λ y. ties_in x.0 y q o) e' ∙ (ap (λ y. listed (in_ties y d.what q) o) same ∙ h) in
    rw here refl)
    (λ k. let e' = rw k at e in
    by_cases (ties_in x.0 x.1.pending q o) (λ j. rw j refl) (λ j. rw (j, tie_shows xs p q d o e' h) refl))

-- What a step of p leaves.
pub record Step (s : State) (c : Change) (p : ℕ) : Type 0 where
  pub weighs : Weighs (row s p) (move_of s c)
  pub tidy : IsTidy (issued_after s c) (after_move (move_of s c) (row s p))
  pub stands : (d : Deal) → (note_of s c (after_move (move_of s c) (row s p))).pending ≡ Some d → StandsFor (issued_after s c) s.own (after_move (move_of s c) (row s p)) d.what

pub record Before (s : State) (p : ℕ) : Type 0 where
  pub tidy : IsTidy s.issued (row s p)
  pub stands : (d : Deal) → (row s p).pending ≡ Some d → StandsFor s.issued s.own (row s p) d.what

-- nothing moves and the deal stays
pub same_stands : (s : State) (p issued' : ℕ) → s.issued ≤ issued' → Before s p → (d : Deal) → (row s p).pending ≡ Some d → StandsFor issued' s.own (after_move still (row s p)) d.what
same_stands s p issued' le b d e =
    let t = tidy_still s.issued (row s p) b.tidy in
    let w = weighs (row s p) still refl refl (omega arith) in
    stands_after s.issued issued' p s.own (row s p) still d.what le (tidy_later s.issued issued' _ le t) w
    (record { outs = λ o h. refl; ins = λ o h. refl; late = λ o old none. omega (arith, w.outs o, w.debts o, none) })
    (b.stands d e)

pub step_fresh : (s : State) (p deal : ℕ) (name : List ℕ) (first len : ℕ) (new : Bool) (body : Option (List ℕ)) → Before s p → all_of (tests s (TookFresh (record { peer = p; deal = deal; name = name; first = first; len = len; new = new; body = body }))) ≡ true → Step s (TookFresh (record { peer = p; deal = deal; name = name; first = first; len = len; new = new; body = body })) p
step_fresh s p deal name first len new body b h =
    let ts = parts (tests s (TookFresh (record { peer = p; deal = deal; name = name; first = first; len = len; new = new; body = body }))) h in
    let same : first ≡ s.issued = eqb-true first s.issued ts.1.1.1.1.1.0 in
    let r = row s p in
    let u = units len in
    let m : Move = fresh_move s.issued u name in
    let t : IsTidy (s.issued + u) (after_move m r) = tidy_fresh s.issued u name r (omega arith) b.tidy (not_true (has in_key r.ins (Chunk name)) ts.1.0) in
    let w = weighs r m refl refl (omega arith) in
    let late : (o : Object) → IsOld s.issued o → total r o ≡ 0 → total (after_move m r) o ≡ 0 = elim [ Chunk c ↦ λ _ none. omega (arith, w.outs (Chunk c), w.debts (Chunk c), own_slots-chunk s.issued u c, none) | Slot n ↦ λ old none. late_slot s r u n _ _ _ _ (own_slots-slot s.issued u n) old none (w.outs (Slot n)) (w.debts (Slot n)) ] in
    record {
      weighs = rw same w;
      tidy = rw same t;
      stands = λ d e. rw same (stands_after s.issued (s.issued + u) p s.own r m d.what (omega arith) t w (record { outs = λ o k. refl; ins = λ o k. refl; late = late }) (b.stands d e));
    }
  where
    late_slot : (s : State) (r : Row) (u n k x y d : ℕ) → IsRange s.issued u n k → n < s.issued → total r (Slot n) ≡ 0 → x ≡ k + occurs out_key r.outs (Slot n) → y + d ≤ occurs debt_key r.debts (Slot n) + 0 → x + y ≡ 0
    late_slot s r u n k x y d range old none is le =
        by_cases (leb 1 k) (λ j. absurd (omega (arith, range.low (leb-true 1 k j)))) (λ j. omega (arith, none_left k j))

pub step_swap : (s : State) (p deal : ℕ) (name : List ℕ) (numbers : List ℕ) (len : ℕ) (new : Bool) (body : Option (List ℕ)) → Before s p → in_grammar (TookSwap (record { peer = p; deal = deal; name = name; slots = numbers; len = len; new = new; body = body })) ≡ true → all_of (tests s (TookSwap (record { peer = p; deal = deal; name = name; slots = numbers; len = len; new = new; body = body }))) ≡ true → Step s (TookSwap (record { peer = p; deal = deal; name = name; slots = numbers; len = len; new = new; body = body })) p
step_swap s p deal name numbers len new body b g h =
    let ts = parts (tests s (TookSwap (record { peer = p; deal = deal; name = name; slots = numbers; len = len; new = new; body = body }))) h in
    let asc : ascend numbers ≡ true = numbers_ascend numbers (and_parts (chunk_fits len new body) (numbers_listed numbers) g).1 in
    let r = row s p in
    let m : Move = swap_move numbers name (units len) in
    let t : IsTidy s.issued (after_move m r) = tidy_swap s.issued (units len) numbers name r (omega arith) b.tidy (not_true (has in_key r.ins (Chunk name)) ts.1.0) asc (λ o. each_slot-listed (has in_key r.ins) numbers o ts.1.1.1.0) (eqb-true (length numbers) (units len) ts.1.1.1.1.1.0) in
    let w = weighs r m (ascend-distinct numbers asc) refl (omega arith) in
    record {
      weighs = w;
      tidy = t;
      stands = λ d e. stands_after s.issued s.issued p s.own r m d.what (omega arith) t w
          (record {
            outs = λ o k. refl;
            ins = λ o k. unless (listed (slots numbers) o) (tied_in s p o) (each_slot-listed (λ x. not (tied_in s p x)) numbers o ts.1.1.1.1.0) (tie_shows s.rows p p d o e k);
            late = λ o old none. omega (arith, w.outs o, w.debts o, none);
          })
          (b.stands d e);
    }

-- a deal ties no chunk in in(p)
no_chunk_tied : (p : ℕ) (what : DealWhat) (o : Object) (name : List ℕ) → listed (in_ties p what p) o ≡ true → listed (Chunk name ∷ []) o ≡ false
no_chunk_tied p what (Slot n) name h = refl
no_chunk_tied p (Fresh x) (Chunk c) name h = absurd (false≢true h)
no_chunk_tied p (Swap x xs) (Chunk c) name h = absurd (false≢true h)
no_chunk_tied p (Cancel x xs) (Chunk c) name h = absurd (false≢true (sym (no_chunk xs c) ∙ (ap (λ l. listed l (Chunk c)) (sym (cancel_ties p x xs)) ∙ h)))
no_chunk_tied p (PutBack x first) (Chunk c) name h = absurd (false≢true h)
no_chunk_tied p (Forward slot entry) (Chunk c) name h = absurd (false≢true (sym (forward_case (entry.peer == p) entry.slot c) ∙ h))
  where
    forward_case : (b : Bool) (n : ℕ) (c : List ℕ) → listed (cond b (Slot n ∷ []) []) (Chunk c) ≡ false
    forward_case true n c = refl
    forward_case false n c = refl
no_chunk_tied p (Return slot) (Chunk c) name h = absurd (false≢true h)

pub step_let_go : (s : State) (p deal : ℕ) (name : List ℕ) (numbers : List ℕ) → Before s p → ascend numbers ≡ true → all_of (tests s (LetGo (record { peer = p; deal = deal; name = name; slots = numbers }))) ≡ true → Step s (LetGo (record { peer = p; deal = deal; name = name; slots = numbers })) p
step_let_go s p deal name numbers b asc h =
    let ts = parts (tests s (LetGo (record { peer = p; deal = deal; name = name; slots = numbers }))) h in
    let r = row s p in
    let m : Move = let_go_move name numbers in
    let t : IsTidy s.issued (after_move m r) = tidy_let_go s.issued numbers name r b.tidy asc (λ o k. has_so-has out_key carries_none r.outs o (each_slot-listed (has_so out_key carries_none r.outs) numbers o ts.1.1.0 k)) (eqb-true (length numbers) (units_at in_key in_size r.ins (Chunk name)) ts.1.1.1.1.0) in
    let w = weighs r m refl (ascend-distinct numbers asc) (omega arith) in
    record {
      weighs = w;
      tidy = t;
      stands = λ d e. stands_after s.issued s.issued p s.own r m d.what (omega arith) t w
          (record {
            outs = λ o k. unless (listed (slots numbers) o) (tied_out s p o) (each_slot-listed (λ x. not (tied_out s p x)) numbers o ts.1.1.1.0) (ap (λ y. ties_out y o) e ∙ k);
            ins = λ o k. no_chunk_tied p d.what o name k;
            late = λ o old none. omega (arith, w.outs o, w.debts o, none, fewer (listed (slots numbers) o) (occurs out_key r.outs o));
          })
          (b.stands d e);
    }

pub step_let_go_back : (s : State) (p deal : ℕ) (name : List ℕ) (numbers : List ℕ) (body : Option (List ℕ)) → Before s p → ascend numbers ≡ true → all_of (tests s (LetGoBack (record { peer = p; deal = deal; name = name; slots = numbers; body = body }))) ≡ true → Step s (LetGoBack (record { peer = p; deal = deal; name = name; slots = numbers; body = body })) p
step_let_go_back s p deal name numbers body b asc h =
    let ts = parts (tests s (LetGoBack (record { peer = p; deal = deal; name = name; slots = numbers; body = body }))) h in
    let r = row s p in
    let m : Move = put_back_move name numbers in
    let t : IsTidy s.issued (after_move m r) = tidy_put_back s.issued numbers name r b.tidy asc (λ o. each_slot-listed (λ x. not (has in_key r.ins x)) numbers o ts.1.1.0) (eqb-true (length numbers) (units_at in_key in_size r.ins (Chunk name)) ts.1.1.1.0) in
    let w = weighs r m refl refl (omega arith) in
    record {
      weighs = w;
      tidy = t;
      stands = λ d e. stands_after s.issued s.issued p s.own r m d.what (omega arith) t w
          (record { outs = λ o k. refl; ins = λ o k. no_chunk_tied p d.what o name k; late = λ o old none. omega (arith, w.outs o, w.debts o, none) })
          (b.stands d e);
    }

pub step_loses : (s : State) (p : ℕ) (declined : Bool) (objects : List Object) → Before s p → objects_distinct objects ≡ true → ((o : Object) → listed objects o ≡ true → not (tied_out s p o) ≡ true) → (IsTidy s.issued (after_move (loses s.changes declined objects (row s p)) (row s p))) × ((d : Deal) → (row s p).pending ≡ Some d → StandsFor s.issued s.own (after_move (loses s.changes declined objects (row s p)) (row s p)) d.what) × Weighs (row s p) (loses s.changes declined objects (row s p))
step_loses s p declined objects b distinct untied =
    let r = row s p in
    let m : Move = loses s.changes declined objects r in
    let t : IsTidy s.issued (after_move m r) = tidy_loses s.issued s.changes declined objects r b.tidy distinct in
    let w = weighs r m refl distinct (omega arith) in
    let tot : (o : Object) → total (after_move m r) o ≤ total r o = λ o. lost_total _ _ _ 0 (occurs out_key r.outs o) (occurs debt_key r.debts o) _ (listed objects o) (w.outs o) (w.debts o) (units_at-lost_rows (λ _. 1) (λ _. 1) s.changes declined (λ e. refl) objects r.outs o distinct) in (
      t,
      λ d e. stands_after s.issued s.issued p s.own r m d.what (omega arith) t w
          (record {
            outs = λ o k. unless (listed objects o) (tied_out s p o) (untied o) (ap (λ y. ties_out y o) e ∙ k);
            ins = λ o k. refl;
            late = λ o old none. omega (arith, tot o, none);
          })
          (b.stands d e),
      w,
    )

pub step_gives_back : (s : State) (p : ℕ) (objects : List Object) → Before s p → (IsTidy s.issued (after_move (give_back_move objects (row s p)) (row s p))) × ((d : Deal) → (row s p).pending ≡ Some d → StandsFor s.issued s.own (after_move (give_back_move objects (row s p)) (row s p)) d.what) × Weighs (row s p) (give_back_move objects (row s p))
step_gives_back s p objects b =
    let r = row s p in
    let m : Move = give_back_move objects r in
    let t : IsTidy s.issued (after_move m r) = tidy_give_back s.issued objects r b.tidy in
    let w = weighs r m refl refl (omega arith) in (
      t,
      λ d e. stands_after s.issued s.issued p s.own r m d.what (omega arith) t w
          (record {
            outs = λ o k. refl;
            ins = λ o k. refl;
            late = λ o old none. omega (arith, w.outs o, w.debts o, units_at-map debt_key (λ _. 1) out_key (λ _. 1) out_again (λ d. refl) (λ d. refl) (filter (is_whole_listed objects) r.debts) o, none);
          })
          (b.stands d e),
      w,
    )

-- what is chosen is untied
pub in_passes : {E : Type 0} (q : E → Bool) (e : E) (l : List E) → In e (filter q l) → q e ≡ true
in_passes q e [] h = elim h [ ]
in_passes q e (x ∷ xs) h = by_cases (q x) (λ k. let h' = rw k at h in here k h' (in_passes q e xs)) (λ k. let h' = rw k at h in in_passes q e xs h')
  where
    here : q x ≡ true → In e (x ∷ filter q xs) → (In e (filter q xs) → q e ≡ true) → q e ≡ true
    here k (inl same) f = ap q same ∙ k
    here k (inr there) f = f there

listed_in : {E : Type 0} (key : E → Object) (l : List E) (o : Object) → listed (map key l) o ≡ true → (e : E) × (In e l) × (key e ≡ o)
listed_in key [] o h = absurd (false≢true h)
listed_in key (x ∷ xs) o h =
    by_cases (object_eq (key x) o)
    (λ k. (x, inl refl, object_eq-same (key x) o k))
    (λ k. let h' = rw k at h in let there = listed_in key xs o h' in (there.0, inr there.1, there.2))

pub step_discards : (s : State) (p : ℕ) (objects : List Object) → Before s p → objects_distinct objects ≡ true → all_of (tests s (Discarded (record { peer = p; objects = objects }))) ≡ true → Step s (Discarded (record { peer = p; objects = objects })) p
step_discards s p objects b distinct h =
    let ts = parts (tests s (Discarded (record { peer = p; objects = objects }))) h in
    let r = row s p in
    let q : InEntry → Bool = λ e. not (tied_in s p e.object) in
    let words = own_word (seed s.settings) s.changes in
    let is : objects ≡ map in_key (discards s p) = same_objects-same objects (map in_key (discards s p)) ts.1.0 in
    let m : Move = discard_move objects r in
    let le = picked_units words (one_in r.fails) 1048576 q r objects b.tidy.ins_once distinct is in
    let t : IsTidy s.issued (after_move m r) = tidy_discard s.issued objects r b.tidy distinct le in
    let w = weighs r m distinct refl (omega (arith, le, Rattle.psb_model.proofs.ByObject.sum_by-parts (λ (d : DebtEntry). false) debt_size r.debts, Rattle.psb_model.proofs.Tidy.none_returned debt_size r.debts)) in
    let untied : (o : Object) → listed objects o ≡ true → not (tied_in s p o) ≡ true = λ o k.
    let found = listed_in in_key (discards s p) o (ap (λ l. listed l o) (sym is) ∙ k) in
    ap (λ x. not (tied_in s p x)) (sym found.2) ∙ in_passes q found.0 r.ins (picks_in words (one_in r.fails) 0 (debt_units r) 1048576 (filter q r.ins) found.0 found.1)
    in
    record {
      weighs = w;
      tidy = t;
      stands = λ d e. stands_after s.issued s.issued p s.own r m d.what (omega arith) t w
          (record {
            outs = λ o k. refl;
            ins = λ o k. unless (listed objects o) (tied_in s p o) (untied o) (tie_shows s.rows p p d o e k);
            late = λ o old none. omega (arith, w.outs o, w.debts o, none);
          })
          (b.stands d e);
    }

-- PROPOSING

stands_fresh : (s : State) (p : ℕ) (name : List ℕ) → all_of (place_tests s p name) ≡ true → total (row s p) (Chunk name) ≡ 0
stands_fresh s p name h =
    let ts = parts (place_tests s p name) h in
    omega (arith, lacks-units_at out_key (λ _. 1) (row s p).outs (Chunk name) (not_true (has out_key (row s p).outs (Chunk name)) ts.1.1.0), lacks-units_at debt_key (λ _. 1) (row s p).debts (Chunk name) (not_true (has debt_key (row s p).debts (Chunk name)) ts.1.1.1.0))

once_here : {E : Type 0} (key : E → Object) (l : List E) (o : Object) → occurs key l o ≤ 1 → has key l o ≡ true → occurs key l o ≡ 1
once_here key l o once h = omega (arith, once, has-occurs key l o h)

-- what a proposed deal stands for holds of it
stands_proposed : (s : State) (p deal : ℕ) (what : DealWhat) → Before s p → in_grammar (Proposed (record { peer = p; deal = deal; what = what })) ≡ true → ((n : List ℕ) → is_wanted s n ≡ true → own_has s.own n ≡ true) → all_of (propose_tests s p what) ≡ true → StandsFor (issued_after s (Proposed (record { peer = p; deal = deal; what = what }))) s.own (row s p) what
stands_proposed s p deal (Fresh name) b g wanted h = stands_fresh s p name (parts (propose_tests s p (Fresh name)) h).0
stands_proposed s p deal (Swap name numbers) b g wanted h =
    let ts = parts (propose_tests s p (Swap name numbers)) h in
    let place = parts (place_tests s p name) ts.0 in
    record {
      absent = stands_fresh s p name ts.0;
      owned = wanted name place.1.0;
      long = eqb-true (length numbers) (units (own_len s.own name)) ts.1.0;
      ascends = numbers_ascend numbers g;
      here = λ o k. once_here out_key (row s p).outs o (omega (arith, b.tidy.outs_once o)) (has_so-has out_key is_own (row s p).outs o (each_slot-listed (has_so out_key is_own (row s p).outs) numbers o ts.1.1.0 k));
    }
stands_proposed s p deal (Cancel name numbers) b g wanted h =
    let ts = parts (propose_tests s p (Cancel name numbers)) h in
    record {
      present = once_here out_key (row s p).outs (Chunk name) (omega (arith, b.tidy.outs_once (Chunk name))) ts.0;
      long = eqb-true (length numbers) (units_at out_key out_size (row s p).outs (Chunk name)) ts.1.1.1.0;
      ascends = numbers_ascend numbers g;
      here = λ o k. once_here in_key (row s p).ins o (b.tidy.ins_once o) (has_so-has in_key is_direct_or_home (row s p).ins o (each_slot-listed (has_so in_key is_direct_or_home (row s p).ins) numbers o ts.1.1.1.1.0 k));
    }
stands_proposed s p deal (PutBack name first) b g wanted h =
    let ts = parts (propose_tests s p (PutBack name first)) h in
    let same : first ≡ s.issued = eqb-true first s.issued ts.1.1.1.0 in
    record {
      present = once_here out_key (row s p).outs (Chunk name) (omega (arith, b.tidy.outs_once (Chunk name))) ts.0;
      drawn = omega (arith, same);
      free = λ n low high. b.tidy.below n (omega (arith, same, low));
    }
stands_proposed s p deal (Forward slot entry) b g wanted h = tt
stands_proposed s p deal (Return slot) b g wanted h = tt

issued_grows : (s : State) (p deal : ℕ) (what : DealWhat) → s.issued ≤ issued_after s (Proposed (record { peer = p; deal = deal; what = what }))
issued_grows s p deal (Fresh name) = omega arith
issued_grows s p deal (Swap name numbers) = omega arith
issued_grows s p deal (Cancel name numbers) = omega arith
issued_grows s p deal (PutBack name first) = omega arith
issued_grows s p deal (Forward slot entry) = omega arith
issued_grows s p deal (Return slot) = omega arith

-- a new deal stands over the row as the still move leaves it
stands_over_still : (s : State) (p issued' : ℕ) (what : DealWhat) → IsTidy s.issued (row s p) → s.issued ≤ issued' → StandsFor issued' s.own (row s p) what → StandsFor issued' s.own (after_move still (row s p)) what
stands_over_still s p issued' what t le st =
    let t' = tidy_still s.issued (row s p) t in
    let w = weighs (row s p) still refl refl (omega arith) in
    stands_after issued' issued' p s.own (row s p) still what (omega arith) (tidy_later s.issued issued' _ le t') w
    (record { outs = λ o h. refl; ins = λ o h. refl; late = λ o old none. omega (arith, w.outs o, w.debts o, none) })
    st

pub some_same : (a b : Deal) → Some a ≡ Some b → a.what ≡ b.what
some_same a b h = let e : a ≡ b = cc in ap (λ (d : Deal). d.what) e

pub step_proposes : (s : State) (p deal : ℕ) (what : DealWhat) → Before s p → in_grammar (Proposed (record { peer = p; deal = deal; what = what })) ≡ true → ((n : List ℕ) → is_wanted s n ≡ true → own_has s.own n ≡ true) → all_of (tests s (Proposed (record { peer = p; deal = deal; what = what }))) ≡ true → Step s (Proposed (record { peer = p; deal = deal; what = what })) p
step_proposes s p deal what b g wanted h =
    let ts = parts (tests s (Proposed (record { peer = p; deal = deal; what = what }))) h in
    let le = issued_grows s p deal what in
    let st = stands_over_still s p (issued_after s (Proposed (record { peer = p; deal = deal; what = what }))) what b.tidy le (stands_proposed s p deal what b g wanted ts.1.1.0) in
    record {
      weighs = weighs (row s p) still refl refl (omega arith);
      tidy = tidy_later s.issued (issued_after s (Proposed (record { peer = p; deal = deal; what = what }))) _ le (tidy_still s.issued (row s p) b.tidy);
      stands = λ d e. subst (λ x. StandsFor (issued_after s (Proposed (record { peer = p; deal = deal; what = what }))) s.own (after_move still (row s p)) x) (some_same (record { number = deal; what = what }) d e) st;
    }

-- SETTLING

settled_tidy : (s : State) (p : ℕ) (what : DealWhat) (number : ℕ) (numbers : List ℕ) → Before s p → ascend numbers ≡ true → StandsFor s.issued s.own (row s p) what → may_settle s p (Some (record { number = number; what = what })) numbers ≡ true → IsTidy s.issued (after_move (settle_move s (row s p) (Some (record { number = number; what = what })) numbers) (row s p))
settled_tidy s p (Fresh name) number numbers b asc st h =
    let both = and_parts (length numbers == units (own_len s.own name)) (each_slot (λ o. not (has in_key (row s p).ins o)) numbers) h in
    tidy_settle_fresh s.issued (units (own_len s.own name)) numbers name (row s p) (omega arith) b.tidy st asc (λ o. each_slot-listed (λ x. not (has in_key (row s p).ins x)) numbers o both.1) (eqb-true (length numbers) (units (own_len s.own name)) both.0)
settled_tidy s p (Swap name mine) number numbers b asc st h = tidy_settle_swap s.issued s.own mine name (row s p) b.tidy st
settled_tidy s p (Cancel name theirs) number numbers b asc st h = tidy_settle_cancel s.issued theirs name (row s p) b.tidy st
settled_tidy s p (PutBack name first) number numbers b asc st h = tidy_settle_put_back s.issued first name (row s p) b.tidy st
settled_tidy s p (Forward slot entry) number numbers b asc st h = tidy_still s.issued (row s p) b.tidy
settled_tidy s p (Return slot) number numbers b asc st h = tidy_still s.issued (row s p) b.tidy

settled_weighs : (s : State) (p : ℕ) (what : DealWhat) (number : ℕ) (numbers : List ℕ) → StandsFor s.issued s.own (row s p) what → Weighs (row s p) (settle_move s (row s p) (Some (record { number = number; what = what })) numbers)
settled_weighs s p (Fresh name) number numbers st = weighs (row s p) (settle_fresh_move name (units (own_len s.own name)) numbers) refl refl (omega arith)
settled_weighs s p (Swap name mine) number numbers st = weighs (row s p) (settle_swap_move name (units (own_len s.own name)) mine) refl (ascend-distinct mine st.ascends) (omega arith)
settled_weighs s p (Cancel name theirs) number numbers st = weighs (row s p) (settle_cancel_move name theirs) (ascend-distinct theirs st.ascends) refl (omega arith)
settled_weighs s p (PutBack name first) number numbers st = weighs (row s p) (settle_put_back_move name first (units_at out_key out_size (row s p).outs (Chunk name))) refl refl (omega arith)
settled_weighs s p (Forward slot entry) number numbers st = weighs (row s p) still refl refl (omega arith)
settled_weighs s p (Return slot) number numbers st = weighs (row s p) still refl refl (omega arith)

pub step_settles : (s : State) (p deal : ℕ) (numbers : List ℕ) (body : Option (List ℕ)) → Before s p → ascend numbers ≡ true → all_of (tests s (Settled (record { peer = p; deal = deal; slots = numbers; body = body }))) ≡ true → Step s (Settled (record { peer = p; deal = deal; slots = numbers; body = body })) p
step_settles s p deal numbers body b asc h =
    let ts = parts (tests s (Settled (record { peer = p; deal = deal; slots = numbers; body = body }))) h in
    record {
      weighs = weigh_deal (row s p).pending refl;
      tidy = by_deal (row s p).pending refl ts.1.0;
      stands = λ d e. cc;
    }
  where
    by_deal : (o : Option Deal) → (row s p).pending ≡ o → may_settle s p o numbers ≡ true → IsTidy s.issued (after_move (settle_move s (row s p) (row s p).pending numbers) (row s p))
    by_deal None e k = absurd (false≢true k)
    by_deal (Some d) e k = subst (λ x. IsTidy s.issued (after_move (settle_move s (row s p) x numbers) (row s p))) (sym e) (settled_tidy s p d.what d.number numbers b asc (b.stands d e) k)

    weigh_deal : (o : Option Deal) → (row s p).pending ≡ o → Weighs (row s p) (settle_move s (row s p) (row s p).pending numbers)
    weigh_deal None e = subst (λ x. Weighs (row s p) (settle_move s (row s p) x numbers)) (sym e) (weighs (row s p) still refl refl (omega arith))
    weigh_deal (Some d) e = subst (λ x. Weighs (row s p) (settle_move s (row s p) x numbers)) (sym e) (settled_weighs s p d.what d.number numbers (b.stands d e))
