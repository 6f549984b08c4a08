-- The objects that were listed so far, and the place behind them.
use Rattle.std.proofs.Common.{◌≡◌, ◌<◌, ℕ, ◌+◌, List, ◌++◌, length, take, drop, Option, None, sym, ap, ◌∙◌, subst, arith}
use Rattle.std.specs.Prelude.{◌==◌, if◌then◌else◌, slice_get, option_to_list}
use Rattle.std.proofs.lemmas.Bool.{eqb-true}
use Rattle.std.proofs.lemmas.Bool.Decides.{nat_tests}
use Rattle.psb_bytes.specs.declared.ids.Object.{Object}
use Rattle.psb_model.specs.State.{Row}
use Rattle.psb_model.proofs.ByObject.{by_cases}
use Rattle.asked_objects.specs.Places.{IsAt}
use Rattle.asked_objects.specs.declared.parts.Place.{Place}
use Rattle.asked_objects.proofs.Places.{at_start}
use Rattle.asked_objects.proofs.Turning.{wrapped, take_one, get_turned}

pub record IsListed (os : List Object) (r : Row) (chunks owed : List Object) (first n : ℕ) (objects : List Object) (place : Place) : Type 0 where
  pub objects_are : objects ≡ take n (drop first os ++ take first os)
  pub place_is : place.number ≡ wrapped (first + n) (length os)
  pub at : IsAt r chunks owed place

-- the place goes round
abbrev round : ℕ → Place → Place
round count p = if p.number == count then record { number = 0; debts = 0; passed = None } else p

round_number : (count first n : ℕ) (p : Place) → first < count → n < count → p.number ≡ wrapped (first + n) count + 1 → (round count p).number ≡ wrapped (first + (n + 1)) count
round_number count first n p few less is =
    by_cases (p.number == count)
    (λ k. rw k (by_place (eqb-true p.number count k)))
    (λ k. rw k (is ∙ other (λ same. grind (arith, nat_tests, k, same))))
  where
    by_place : p.number ≡ count → 0 ≡ wrapped (first + (n + 1)) count
    by_place same = grind (arith, nat_tests, is, same, few, less)

    other : ((p.number ≡ count) → ⊥) → wrapped (first + n) count + 1 ≡ wrapped (first + (n + 1)) count
    other no_end = grind (arith, nat_tests, is, no_end, few, less)

round_at : (r : Row) (chunks owed : List Object) (count : ℕ) (p : Place) → IsAt r chunks owed p → IsAt r chunks owed (round count p)
round_at r chunks owed count p at = by_cases (p.number == count) (λ k. rw k (at_start r chunks owed)) (λ k. rw k at)

pub one_listed : (os : List Object) (r : Row) (chunks owed : List Object) (first n count : ℕ) (objects more : List Object) (object : Option Object) (place on next : Place) → first < length os → n < length os → count ≡ length os → object ≡ slice_get os place.number → on.number ≡ place.number + 1 → IsAt r chunks owed on
    → more ≡ objects ++ option_to_list object → next ≡ round count on → IsListed os r chunks owed first n objects place → IsListed os r chunks owed first (n + 1) more next
one_listed os r chunks owed first n count objects more object place on next few less long here moved at pushed turned before =
    let all = drop first os ++ take first os in
    let is : object ≡ slice_get all n = here ∙ ap (slice_get os) before.place_is ∙ sym (get_turned os first n few less) in
    let end : next ≡ round (length os) on = turned ∙ ap (λ c. round c on) long in
    record {
      objects_are = pushed ∙ (λ i. before.objects_are i ++ option_to_list (is i)) ∙ sym (take_one n all);
      place_is = ap (λ (p : Place). p.number) end ∙ round_number (length os) first n on few less (moved ∙ ap (λ m. m + 1) before.place_is);
      at = subst (λ (p : Place). IsAt r chunks owed p) (sym end) (round_at r chunks owed (length os) on at);
    }
