-- Rows of debt in object order, and how many there are of each part.
use Rattle.std.proofs.Common.{◌≡◌, ◌≤◌, ℕ, suc, ◌+◌, true, false, List, [], ◌∷◌, refl, sym, ap, ◌∙◌, subst, arith}
use Rattle.std.specs.Prelude.{slice_index_or}
use Rattle.std.specs.List.{list_all, sum_by}
use Rattle.std.specs.List.Sorted.{IsPermutation, IsSorted as AreInOrder}
use Rattle.std.specs.declared.cmp.Ordering.{Ordering}
use Rattle.std.specs.Ordering.{is_lt}
use Rattle.std.proofs.lemmas.Bool.{and_parts}
use Rattle.std.proofs.lemmas.List.Sorted.{sum_by-IsPermutation}
use Rattle.psb_bytes.specs.Objects.{object_eq, object_cmp}
use Rattle.psb_bytes.specs.declared.ids.Object.{Object}
use Rattle.psb_model.specs.Words.{in_order, occurs}
use Rattle.psb_model.specs.State.{Row}
use Rattle.psb_model.proofs.ByObject.{by_cases, object_eq-refl}
use Rattle.peer_lists.proofs.Ordered.{below_rest, one_is_first}
use Rattle.peer_lists.proofs.Trees.{IsObjectOrder}
use Rattle.asked_objects.specs.Listable.{IsListable}
use Rattle.asked_objects.specs.Parts.{debts_there, IsSorted}
use Rattle.asked_objects.proofs.Ranks.{self, count_same}
use Rattle.asked_objects.proofs.Joining.{owed_few}

-- in a list that was sorted and has no object twice each comes before those behind it
sorted_once : (cmp : Object → Object → Ordering) → IsObjectOrder cmp → (l : List Object) → AreInOrder cmp l → ((o : Object) → occurs self l o ≤ 1) → in_order self l ≡ true
sorted_once cmp law [] h once = refl
sorted_once cmp law (x ∷ []) h once = refl
sorted_once cmp law (x ∷ y ∷ ys) h once =
    let rest : in_order self (y ∷ ys) ≡ true = sorted_once cmp law (y ∷ ys) (λ k d low high. let more : suc k + 1 ≡ suc (k + 1) = omega arith in subst (λ m. is_lt (cmp (slice_index_or (x ∷ y ∷ ys) m d) (slice_index_or (y ∷ ys) k d)) ≡ false) more (h (suc k) d (omega arith) (omega (arith, high)))) (λ o. omega (arith, once o)) in
    let other : object_eq x y ≡ false = by_cases (object_eq x y) (λ k. let twice = once y in let twice' = rw (k, object_eq-refl y) at twice in absurd (omega (arith, twice'))) (λ k. k) in
    let late : is_lt (object_cmp y x) ≡ false = ap is_lt (sym (law y x)) ∙ h 0 x (omega arith) (omega arith) in
    let first = one_is_first x y other late in
    let behind = (rest_of y ys rest) in
    rw first (rw (below_rest self x y ys first behind) rest)
  where
    rest_of : (y : Object) (ys : List Object) → in_order self (y ∷ ys) ≡ true → list_all (λ z. is_lt (object_cmp y z)) ys ≡ true
    rest_of y ys h = (and_parts (list_all (λ z. is_lt (object_cmp y z)) ys) (in_order self ys) h).0

pub sorted_debts : (cmp : Object → Object → Ordering) → IsObjectOrder cmp → (r : Row) (l m : List Object) → IsListable r → l ≡ debts_there r → IsPermutation l m → AreInOrder cmp m → IsSorted (debts_there r) m
sorted_debts cmp law r l m listable is moved sorted =
    let sums : (f : Object → ℕ) → sum_by f m ≡ sum_by f (debts_there r) = λ f. sum_by-IsPermutation f l m moved ∙ ap (sum_by f) is in
    record {
      ordered = sorted_once cmp law m sorted (λ o. omega (arith, count_same (debts_there r) m o sums, owed_few r o listable, listable.once o));
      sums = sums;
    }
