-- Rows of debt that are whole, where it is known whether the object is owed at all.
use Rattle.std.proofs.Common.{◌≡◌, Bool, false, ◌||◌, List, [], ◌∷◌, filter, refl, sym, ◌∙◌}
use Rattle.std.specs.List.{list_any}
use Rattle.std.proofs.lemmas.Bool.{false≢true}
use Rattle.psb_bytes.specs.declared.ids.Object.{Object}
use Rattle.psb_model.specs.declared.entries.DebtEntry.{DebtEntry}
use Rattle.psb_model.specs.Words.{object_eq, listed, has, has_so}
use Rattle.psb_model.specs.State.{debt_key}
use Rattle.psb_model.specs.Effects.{is_whole_listed}
use Rattle.psb_model.proofs.ByObject.{by_cases, has_so-has, object_eq-swap}

-- what is not owed is not owed so
pub owed_not_so : (test : DebtEntry → Bool) (rows : List DebtEntry) (o : Object) → has debt_key rows o ≡ false → has_so debt_key test rows o ≡ false
owed_not_so test rows o h = by_cases (has_so debt_key test rows o) (λ k. absurd (false≢true (sym h ∙ has_so-has debt_key test rows o k))) (λ k. k)

-- where none of the objects is owed, no row is listed
unlisted : (d : DebtEntry) (ds : List DebtEntry) (objects : List Object) → list_any (has debt_key (d ∷ ds)) objects ≡ false → (listed objects d.object ≡ false) × (list_any (has debt_key ds) objects ≡ false)
unlisted d ds [] h = (refl, refl)
unlisted d ds (o ∷ os) h = by_cases (object_eq d.object o)
    (λ k. absurd (false≢true (sym h ∙ rw k refl)))
    (λ k.
    let h' : (has debt_key ds o || list_any (has debt_key (d ∷ ds)) os) ≡ false = rw k at h in
    by_cases (has debt_key ds o)
    (λ j. absurd (false≢true (sym h' ∙ rw j refl)))
    (λ j.
    let h'' : list_any (has debt_key (d ∷ ds)) os ≡ false = rw j at h' in
    let rest = unlisted d ds os h'' in
    let other : object_eq o d.object ≡ false = object_eq-swap o d.object ∙ k in
    (rw other rest.0, rw j rest.1)))

pub none_whole : (objects : List Object) (rows : List DebtEntry) → list_any (has debt_key rows) objects ≡ false → filter (is_whole_listed objects) rows ≡ []
none_whole objects [] h = refl
none_whole objects (d ∷ ds) h =
    let two = unlisted d ds objects h in
    rw two.0 (none_whole objects ds two.1)
