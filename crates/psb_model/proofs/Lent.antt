-- Which chunks a peer has of the node's, or lost, after a move of any kind.
use Rattle.std.proofs.Common.{◌≡◌, ℕ, Bool, true, false, not, ◌&&◌, ◌||◌, List, [], ◌∷◌, ◌++◌, map, filter, refl, sym, ap, ◌∙◌}
use Rattle.std.proofs.lemmas.Bool.{false≢true}
use Rattle.psb_bytes.specs.declared.ids.Object.{Object}
use Rattle.psb_model.specs.declared.entries.OutEntry.{OutEntry}
use Rattle.psb_model.specs.declared.entries.DebtEntry.{DebtEntry}
use Rattle.psb_model.specs.Words.{object_eq, listed, has, only, without, with_one, with_all}
use Rattle.psb_model.specs.State.{Row, out_key, debt_key}
use Rattle.psb_model.specs.Move.{Move, use_up, after_move}
use Rattle.psb_model.specs.Effects.{debt_row, lost_rows, out_again, is_whole_listed}
use Rattle.psb_model.proofs.ByObject.{by_cases, carry}
use Rattle.psb_model.proofs.Held.{or_true, or_none, or_last, any_more, and_none, has_less}

-- the peer has the object, or lost it
abbrev pub lent : Row → Object → Bool
lent r o = has out_key r.outs o || has debt_key r.debts o

-- ---- lists

pub has_all : {E : Type 0} (key : E → Object) (es l : List E) (o : Object) → has key (with_all key es l) o ≡ (has key l o || has key es o)
has_all key [] l o = sym (or_none (has key l o))
has_all key (e ∷ es) l o =
    has_all key es (with_one key e l) o
    ∙ ap (λ b. b || has key es o) (any_more key (λ x. object_eq (key x) o) e l)
    ∙ sym (or_last (has key l o) (object_eq (key e) o) (has key es o))

pub has_both : {E : Type 0} (key : E → Object) (xs ys : List E) (o : Object) → has key (xs ++ ys) o ≡ (has key xs o || has key ys o)
has_both key [] ys o = refl
has_both key (x ∷ xs) ys o = ap (λ b. object_eq (key x) o || b) (has_both key xs ys o) ∙ or_last (object_eq (key x) o) (has key xs o) (has key ys o)

-- the entries at listed objects
pub has_only : {E : Type 0} (key : E → Object) (objects : List Object) (l : List E) (o : Object) → has key (only key objects l) o ≡ (has key l o && listed objects o)
has_only key objects [] o = refl
has_only key objects (e ∷ es) o = by_cases (listed objects (key e))
    (λ k. rw k (by_cases (object_eq (key e) o)
    (λ j. let here : listed objects o ≡ true = sym (carry (listed objects) (key e) o j) ∙ k in rw (j, here) refl)
    (λ j. rw j (has_only key objects es o))))
    (λ k. rw k (has_only key objects es o ∙ by_cases (object_eq (key e) o)
    (λ j. let none : listed objects o ≡ false = sym (carry (listed objects) (key e) o j) ∙ k in rw (j, none) (and_none (has key es o)))
    (λ j. rw j refl)))

-- an entry passes a test or fails it
pub has_parts : {E : Type 0} (key : E → Object) (t : E → Bool) (l : List E) (o : Object) → has key l o ≡ true → (has key (filter t l) o || has key (filter (λ e. not (t e)) l) o) ≡ true
has_parts key t [] o h = absurd (false≢true h)
has_parts key t (e ∷ es) o h = by_cases (object_eq (key e) o)
    (λ k. by_cases (t e) (λ j. rw (j, k) refl) (λ j. rw (j, k) (or_true (has key (filter t es) o))))
    (λ k. let rest = rw k at h in by_cases (t e) (λ j. rw (j, k) (has_parts key t es o rest)) (λ j. rw (j, k) (has_parts key t es o rest)))

-- ---- rows of debt

pub booked_has : (n : ℕ) (declined : Bool) (l : List OutEntry) (o : Object) → has debt_key (map (debt_row n declined) l) o ≡ has out_key l o
booked_has n declined [] o = refl
booked_has n declined (e ∷ es) o = ap (λ b. object_eq e.object o || b) (booked_has n declined es o)

pub lost_has : (n : ℕ) (declined : Bool) (objects : List Object) (l : List OutEntry) (o : Object) → listed objects o ≡ true → has out_key l o ≡ true → has debt_key (lost_rows n declined objects l) o ≡ true
lost_has n declined [] l o here there = absurd (false≢true here)
lost_has n declined (x ∷ xs) l o here there =
    has_both debt_key (map (debt_row n declined) (only out_key (x ∷ []) l)) (lost_rows n declined xs l) o
    ∙ ap (λ b. b || has debt_key (lost_rows n declined xs l) o) (booked_has n declined (only out_key (x ∷ []) l) o ∙ has_only out_key (x ∷ []) l o)
    ∙ by_cases (object_eq x o)
    (λ k. rw (there, k) refl)
    (λ k. rw (there, k) (lost_has n declined xs l o (rw k at here) there))

pub again_has : (l : List DebtEntry) (o : Object) → has out_key (map out_again l) o ≡ has debt_key l o
again_has [] o = refl
again_has (d ∷ ds) o = ap (λ b. object_eq d.object o || b) (again_has ds o)

-- ---- a move

pub moved_outs : (m : Move) (r : Row) (o : Object) → has out_key (after_move m r).outs o ≡ ((has out_key r.outs o && not (listed m.out_gone o)) || has out_key m.out_new o)
moved_outs m r o = has_all out_key m.out_new (without out_key m.out_gone r.outs) o ∙ ap (λ b. b || has out_key m.out_new o) (has_less out_key m.out_gone r.outs o)

-- nothing is used up, what is gone there was booked, and what was returned is there
pub record Lends (m : Move) (r : Row) (o : Object) : Type 0 where
  pub unused : m.used_up ≡ 0
  pub gone : has out_key r.outs o ≡ true → listed m.out_gone o ≡ true → (has out_key m.out_new o || has debt_key m.booked o) ≡ true
  pub returned : has debt_key (filter m.returned r.debts) o ≡ true → has out_key m.out_new o ≡ true

-- then the object is there still, or lost
pub lends : (m : Move) (r : Row) (o : Object) → Lends m r o → lent r o ≡ true → lent (after_move m r) o ≡ true
lends m r o l h =
    ap (λ b. b || has debt_key (after_move m r).debts o) (moved_outs m r o)
    ∙ ap (λ b. ((has out_key r.outs o && not (listed m.out_gone o)) || has out_key m.out_new o) || b) debts_are
    ∙ by_cases (has out_key m.out_new o)
    (λ new. rw new (ap (λ b. b || (has debt_key (filter (λ d. not (m.returned d)) r.debts) o || has debt_key m.booked o)) (or_true (has out_key r.outs o && not (listed m.out_gone o)))))
    (λ new. by_cases (has debt_key m.booked o)
    (λ booked. rw booked (ap (λ b. ((has out_key r.outs o && not (listed m.out_gone o)) || has out_key m.out_new o) || b) (or_true (has debt_key (filter (λ d. not (m.returned d)) r.debts) o)) ∙ or_true ((has out_key r.outs o && not (listed m.out_gone o)) || has out_key m.out_new o)))
    (λ booked. by_cases (has out_key r.outs o)
    (λ out. by_cases (listed m.out_gone o)
    (λ gone. absurd (false≢true (sym (ap (λ b. b || has debt_key m.booked o) new ∙ booked) ∙ l.gone out gone)))
    (λ gone. rw (out, gone) refl))
    (λ out. let owed : has debt_key r.debts o ≡ true = rw out at h in
    let in_kept : has debt_key (filter (λ d. not (m.returned d)) r.debts) o ≡ true = left new owed in
    rw in_kept (or_true ((has out_key r.outs o && not (listed m.out_gone o)) || has out_key m.out_new o)))))
  where
    debts_are : has debt_key (use_up m.used_up (filter (λ d. not (m.returned d)) r.debts) ++ m.booked) o ≡ (has debt_key (filter (λ d. not (m.returned d)) r.debts) o || has debt_key m.booked o)
    debts_are = ap (λ k. has debt_key (use_up k (filter (λ d. not (m.returned d)) r.debts) ++ m.booked) o) l.unused ∙ has_both debt_key (filter (λ d. not (m.returned d)) r.debts) m.booked o

    left : has out_key m.out_new o ≡ false → has debt_key r.debts o ≡ true → has debt_key (filter (λ d. not (m.returned d)) r.debts) o ≡ true
    left new owed = by_cases (has debt_key (filter m.returned r.debts) o)
        (λ j. absurd (false≢true (sym new ∙ l.returned j)))
        (λ j. let both = has_parts debt_key m.returned r.debts o owed in rw j at both)

-- ---- what returns of debt

pub returns_lent : (objects : List Object) (r : Row) (o : Object) → has debt_key (filter (is_whole_listed objects) r.debts) o ≡ true → has out_key (map out_again (filter (is_whole_listed objects) r.debts)) o ≡ true
returns_lent objects r o h = again_has (filter (is_whole_listed objects) r.debts) o ∙ h
