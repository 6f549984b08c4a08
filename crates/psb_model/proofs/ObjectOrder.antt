-- The order of objects: chunks by the bytes of their names, then slots by number.
use Rattle.std.proofs.Common.{◌≡◌, ℕ, true, false, ◌&&◌, List, [], ◌∷◌, refl, ap, ◌∙◌, arith}
use Rattle.std.specs.Prelude.{◌==◌}
use Rattle.std.specs.declared.cmp.Ordering.{Ordering}
use Rattle.std.specs.declared.cmp.Ordering.TheVariants.{Less, Equal, Greater}
use Rattle.std.specs.Ordering.{nat_cmp, is_lt, is_eq, ordering_reverse, ordering_then}
use Rattle.std.specs.Cmp.{IsTotalOrder}
use Rattle.std.specs.Cmp.Lexicographic.{slice_cmp}
use Rattle.std.proofs.lemmas.Cmp.{nat_cmp_total, nat_list_cmp_total}
use Rattle.std.proofs.lemmas.Bool.Decides.{nat_tests}
use Rattle.psb_bytes.specs.Objects.{object_eq, object_cmp, name_eq}
use Rattle.psb_bytes.specs.declared.ids.Object.{Object}
use Rattle.psb_bytes.specs.declared.ids.Object.TheVariants.{Chunk, Slot}

pub object_total : IsTotalOrder object_cmp
object_total = record { antisymm = antisymm; trans = trans; congr = congr }
  where
    antisymm : (x y : Object) → object_cmp x y ≡ ordering_reverse (object_cmp y x)
    antisymm (Chunk a) (Chunk b) = nat_list_cmp_total.antisymm a b
    antisymm (Chunk a) (Slot b) = refl
    antisymm (Slot a) (Chunk b) = refl
    antisymm (Slot a) (Slot b) = nat_cmp_total.antisymm a b

    trans : (x y z : Object) → object_cmp x y ≡ Less → object_cmp y z ≡ Less → object_cmp x z ≡ Less
    trans (Chunk a) (Chunk b) (Chunk c) h k = nat_list_cmp_total.trans a b c h k
    trans (Chunk a) (Chunk b) (Slot c) h k = refl
    trans (Chunk a) (Slot b) (Chunk c) h k = cc
    trans (Chunk a) (Slot b) (Slot c) h k = refl
    trans (Slot a) (Chunk b) z h k = cc
    trans (Slot a) (Slot b) (Chunk c) h k = cc
    trans (Slot a) (Slot b) (Slot c) h k = nat_cmp_total.trans a b c h k

    congr : (x y z : Object) → object_cmp x y ≡ Equal → object_cmp x z ≡ object_cmp y z
    congr (Chunk a) (Chunk b) (Chunk c) h = nat_list_cmp_total.congr a b c h
    congr (Chunk a) (Chunk b) (Slot c) h = refl
    congr (Chunk a) (Slot b) z h = cc
    congr (Slot a) (Chunk b) z h = cc
    congr (Slot a) (Slot b) (Chunk c) h = refl
    congr (Slot a) (Slot b) (Slot c) h = nat_cmp_total.congr a b c h

number_eq : (a b : ℕ) → (a == b) ≡ is_eq (nat_cmp a b)
number_eq a b = grind (arith, nat_tests)

then_eq : (o p : Ordering) → (is_eq o && is_eq p) ≡ is_eq (ordering_then o p)
then_eq Less p = refl
then_eq Equal p = refl
then_eq Greater p = refl

bytes_same : (a b : List ℕ) → name_eq a b ≡ is_eq (slice_cmp nat_cmp a b)
bytes_same [] [] = refl
bytes_same [] (y ∷ ys) = refl
bytes_same (x ∷ xs) [] = refl
bytes_same (x ∷ xs) (y ∷ ys) = (λ i. number_eq x y i && bytes_same xs ys i) ∙ then_eq (nat_cmp x y) (slice_cmp nat_cmp xs ys)

-- two objects are one exactly where they compare as equal
pub same_object : (a b : Object) → object_eq a b ≡ is_eq (object_cmp a b)
same_object (Chunk a) (Chunk b) = bytes_same a b
same_object (Chunk a) (Slot b) = refl
same_object (Slot a) (Chunk b) = refl
same_object (Slot a) (Slot b) = number_eq a b

pub is_less : (o : Ordering) → is_lt o ≡ true → o ≡ Less
is_less Less h = refl
is_less Equal h = cc
is_less Greater h = cc

pub comes_first : (a b : Object) → is_lt (object_cmp a b) ≡ true → is_lt (object_cmp b a) ≡ false
comes_first a b h = ap is_lt (object_total.antisymm b a ∙ ap ordering_reverse (is_less (object_cmp a b) h))

pub less_then : (a b c : Object) → is_lt (object_cmp a b) ≡ true → is_lt (object_cmp b c) ≡ true → is_lt (object_cmp a c) ≡ true
less_then a b c h k = ap is_lt (object_total.trans a b c (is_less (object_cmp a b) h) (is_less (object_cmp b c) k))
