-- A probe's objects: the same list, and objects at places.
use Rattle.std.proofs.Common.{◌≡◌, ℕ, ◌<◌, Bool, true, false, ◌&&◌, List, [], ◌∷◌, ◌++◌, length, get_or, Option, Some, None, refl, sym, ap, ◌∙◌, arith}
use Rattle.std.specs.Prelude.{nat_lt, slice_get, option_to_list}
use Rattle.std.specs.List.{list_all}
use Rattle.std.specs.Cmp.Lexicographic.{pointwise}
use Rattle.std.proofs.lemmas.Bool.{ltb-true}
use Rattle.std.proofs.lemmas.Bool.Decides.{nat_tests}
use Rattle.std.proofs.lemmas.Option.{slice_get_within, slice_get-get_or}
use Rattle.psb_bytes.specs.contracts.ids.ObjectPartialEq.TheImpl.{eq-value as derived_eq}
use Rattle.psb_bytes.specs.declared.ids.Object.{Object}
use Rattle.psb_bytes.specs.declared.ids.Object.TheVariants.{Chunk, Slot}
use Rattle.psb_model.specs.Words.{object_eq}
use Rattle.psb_model.specs.Conditions.{same_objects, at_places}
use Rattle.psb_model.proofs.ByObject.{by_cases}

-- the derived test of objects is the one of the definitions
derived_same : (a b : Object) → derived_eq.it a b ≡ object_eq a b
derived_same (Chunk a) (Chunk b) = refl
derived_same (Chunk a) (Slot b) = refl
derived_same (Slot a) (Chunk b) = refl
derived_same (Slot a) (Slot b) = refl

pub pointwise_same : (xs ys : List Object) → pointwise derived_eq.it xs ys ≡ same_objects xs ys
pointwise_same [] [] = refl
pointwise_same [] (y ∷ ys) = refl
pointwise_same (x ∷ xs) [] = refl
pointwise_same (x ∷ xs) (y ∷ ys) = λ i. derived_same x y i && pointwise_same xs ys i

-- each place is one of the list, and its object passes
pub all_at : (test : Object → Bool) (os : List Object) (ks : List ℕ) → list_all (λ k. elim (slice_get os k) [ None ↦ false | Some o ↦ test o ]) ks ≡ (list_all (λ k. nat_lt k (length os)) ks && list_all test (at_places os ks))
all_at test os [] = refl
all_at test os (k ∷ ks) = one (slice_get os k) refl (all_at test os ks)
  where
    swap : (a b c : Bool) → (a && (b && c)) ≡ (b && (a && c))
    swap true b c = refl
    swap false true c = refl
    swap false false c = refl

    inside : (j : ℕ) → j < length os → nat_lt j (length os) ≡ true
    inside j lt = grind (arith, nat_tests, lt)

    past : (j : ℕ) → slice_get os j ≡ None → nat_lt j (length os) ≡ false
    past j none = by_cases (nat_lt j (length os))
        (λ t. let clash : None ≡ Some (get_or os j (Slot 0)) = sym none ∙ slice_get-get_or os j (Slot 0) (ltb-true j (length os) t) in absurd (cc (clash)))
        (λ f. f)

    one : (g : Option Object) → slice_get os k ≡ g → list_all (λ j. elim (slice_get os j) [ None ↦ false | Some o ↦ test o ]) ks ≡ (list_all (λ j. nat_lt j (length os)) ks && list_all test (at_places os ks))
        → (elim g [ None ↦ false | Some o ↦ test o ] && list_all (λ j. elim (slice_get os j) [ None ↦ false | Some o ↦ test o ]) ks) ≡ (nat_lt k (length os) && list_all (λ j. nat_lt j (length os)) ks && list_all test (option_to_list g ++ at_places os ks))
    one None is ih = rw (past k is) refl
    one (Some o) is ih = rw (inside k (slice_get_within os k o is)) (ap (λ b. test o && b) ih ∙ swap (test o) (list_all (λ j. nat_lt j (length os)) ks) (list_all test (at_places os ks)))
