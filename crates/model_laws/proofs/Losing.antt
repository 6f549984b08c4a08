-- What is lost becomes rows of debt, and returns from there: a row of debt has the object and the units of the entry that
-- it was, so a test of these two that each entry there passes is passed by each row of debt, and the other way round.
use Rattle.std.proofs.Common.{◌≡◌, ℕ, zero, suc, ◌-◌, Bool, true, false, not, List, [], ◌∷◌, ◌++◌, map, filter, Option, Some, None, refl, ap, ◌∙◌}
use Rattle.std.specs.Prelude.{nat_le}
use Rattle.std.specs.List.{list_all}
use Rattle.std.proofs.lemmas.Bool.{and_parts}
use Rattle.std.proofs.lemmas.List.Folds.{list_all-append}
use Rattle.psb_bytes.specs.declared.ids.Object.{Object}
use Rattle.psb_model.specs.declared.entries.OutEntry.{OutEntry}
use Rattle.psb_model.specs.declared.entries.DebtEntry.{DebtEntry}
use Rattle.psb_model.specs.declared.deals.Deal.{Deal}
use Rattle.psb_model.specs.declared.deals.DealWhat.{DealWhat}
use Rattle.psb_model.specs.declared.deals.DealWhat.TheVariants.{Fresh, Swap, Cancel, PutBack, Forward, Return}
use Rattle.psb_model.specs.declared.change.Change.{Change}
use Rattle.psb_model.specs.declared.change.Change.TheVariants.{Settled, Failed, Declined}
use Rattle.psb_model.specs.Words.{listed, only, with_one, with_all}
use Rattle.psb_model.specs.State.{Row, State, row, out_key}
use Rattle.psb_model.specs.Conditions.{declined_objects}
use Rattle.psb_model.specs.Move.{use_up, after_move}
use Rattle.psb_model.specs.Effects.{settle_move, move_of, debt_row, lost_rows, out_again, is_whole_listed}
use Rattle.psb_model.proofs.ByObject.{by_cases, all_with_one, all_kept}
use Rattle.psb_model.proofs.Rows.{note_lists}
use Rattle.psb_model.proofs.Bare.{changed}

-- a test of the object and the units of an entry, and of a row of debt
abbrev pub of_out : (Object → ℕ → Bool) → OutEntry → Bool
of_out t e = t e.object e.units

abbrev pub of_debt : (Object → ℕ → Bool) → DebtEntry → Bool
of_debt t d = t d.object d.units

-- ---- what returns

again : (t : Object → ℕ → Bool) (objects : List Object) (ds : List DebtEntry) → list_all (of_debt t) ds ≡ true → list_all (of_out t) (map out_again (filter (is_whole_listed objects) ds)) ≡ true
again t objects [] h = refl
again t objects (d ∷ ds) h =
    let two = and_parts (of_debt t d) (list_all (of_debt t) ds) h in
    by_cases (is_whole_listed objects d) (λ k. rw (k, two.0) (again t objects ds two.1)) (λ k. rw k (again t objects ds two.1))

all_with : (t : OutEntry → Bool) (es l : List OutEntry) → list_all t es ≡ true → list_all t l ≡ true → list_all t (with_all out_key es l) ≡ true
all_with t [] l a b = b
all_with t (e ∷ es) l a b = let two = and_parts (t e) (list_all t es) a in all_with t es (with_one out_key e l) two.1 (all_with_one out_key t e l two.0 b)

-- the rows of debt that were listed and are whole, among other entries
pub regained : (t : Object → ℕ → Bool) (objects : List Object) (ds : List DebtEntry) (l : List OutEntry) → list_all (of_debt t) ds ≡ true → list_all (of_out t) l ≡ true → list_all (of_out t) (with_all out_key (map out_again (filter (is_whole_listed objects) ds)) l) ≡ true
regained t objects ds l a b = all_with (of_out t) (map out_again (filter (is_whole_listed objects) ds)) l (again t objects ds a) b

-- ---- what is lost

booked : (t : Object → ℕ → Bool) (n : ℕ) (declined : Bool) (l : List OutEntry) → list_all (of_out t) l ≡ true → list_all (of_debt t) (map (debt_row n declined) l) ≡ true
booked t n declined [] h = refl
booked t n declined (e ∷ es) h = let two = and_parts (of_out t e) (list_all (of_out t) es) h in rw two.0 (booked t n declined es two.1)

both : (f : DebtEntry → Bool) (xs ys : List DebtEntry) → list_all f xs ≡ true → list_all f ys ≡ true → list_all f (xs ++ ys) ≡ true
both f xs ys a b = list_all-append f xs ys ∙ rw (a, b) refl

lost : (t : Object → ℕ → Bool) (n : ℕ) (declined : Bool) (objects : List Object) (l : List OutEntry) → list_all (of_out t) l ≡ true → list_all (of_debt t) (lost_rows n declined objects l) ≡ true
lost t n declined [] l h = refl
lost t n declined (o ∷ os) l h =
    both (of_debt t) (map (debt_row n declined) (only out_key (o ∷ []) l)) (lost_rows n declined os l)
    (booked t n declined (only out_key (o ∷ []) l) (all_kept (of_out t) (λ (e : OutEntry). listed (o ∷ []) (out_key e)) l h))
    (lost t n declined os l h)

settle_books : (f : DebtEntry → Bool) (s : State) (r : Row) (o : Option Deal) (numbers : List ℕ) → list_all f (settle_move s r o numbers).booked ≡ true
settle_books f s r None numbers = refl
settle_books f s r (Some d) numbers = by_what d.what
  where
    by_what : (what : DealWhat) → list_all f (settle_move s r (Some (record { number = d.number; what = what })) numbers).booked ≡ true
    by_what (Fresh name) = refl
    by_what (Swap name mine) = refl
    by_what (Cancel name theirs) = refl
    by_what (PutBack name first) = refl
    by_what (Forward slot entry) = refl
    by_what (Return slot) = refl

books : (t : Object → ℕ → Bool) (s : State) (c : Change) → ((q : ℕ) → list_all (of_out t) (row s q).outs ≡ true) → list_all (of_debt t) (move_of s c).booked ≡ true
books t s (Failed x) h = lost t s.changes false x.objects (row s x.peer).outs (h x.peer)
books t s (Declined x) h = lost t s.changes true (declined_objects s x.peer x.asked x.places) (row s x.peer).outs (h x.peer)
books t s (Settled x) h = settle_books (of_debt t) s (row s x.peer) (row s x.peer).pending x.slots
books t s _ h = refl

-- units are used up, of which the test knows nothing
used : (t : Object → ℕ → Bool) (n : ℕ) (ds : List DebtEntry) → list_all (of_debt t) ds ≡ true → list_all (of_debt t) (use_up n ds) ≡ true
used t zero ds h = h
used t (suc n) [] h = refl
used t (suc n) (d ∷ ds) h =
    let two = and_parts (of_debt t d) (list_all (of_debt t) ds) h in
    by_cases (nat_le d.left (suc n)) (λ k. rw k (used t (suc n - d.left) ds two.1)) (λ k. rw k h)

-- the rows of debt of a row, after a change of its peer
pub debts_pass : (t : Object → ℕ → Bool) (s : State) (c : Change) (r : Row) → ((q : ℕ) → list_all (of_out t) (row s q).outs ≡ true) → list_all (of_debt t) r.debts ≡ true → list_all (of_debt t) (changed s c r).debts ≡ true
debts_pass t s c r outs debts =
    let m = move_of s c in
    ap (list_all (of_debt t)) (note_lists s c (after_move m r)).debts
    ∙ both (of_debt t) (use_up m.used_up (filter (λ d. not (m.returned d)) r.debts)) m.booked
    (used t m.used_up (filter (λ d. not (m.returned d)) r.debts) (all_kept (of_debt t) (λ (d : DebtEntry). not (m.returned d)) r.debts debts))
    (books t s c outs)
