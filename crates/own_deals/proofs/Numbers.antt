-- Numbers that ascend, as slots in order.
use Rattle.std.proofs.Common.{◌≡◌, ℕ, true, false, ◌||◌, List, [], ◌∷◌, refl, ap, arith}
use Rattle.std.specs.Prelude.{nat_lt}
use Rattle.std.specs.List.{list_all}
use Rattle.std.specs.Ordering.{is_lt}
use Rattle.std.proofs.lemmas.Bool.{and_parts}
use Rattle.std.proofs.lemmas.Bool.Decides.{nat_tests}
use Rattle.psb_bytes.specs.Objects.{object_cmp, object_eq}
use Rattle.psb_bytes.specs.declared.ids.Object.{Object}
use Rattle.psb_bytes.specs.declared.ids.Object.TheVariants.{Chunk, Slot}
use Rattle.psb_model.specs.Words.{has, listed, slots}
use Rattle.psb_model.specs.Grammar.{ascend}
use Rattle.peer_lists.specs.Entries.{in_order}
use Rattle.peer_lists.proofs.Ordered.{below_rest}

less : (a b : ℕ) → nat_lt a b ≡ true → is_lt (object_cmp (Slot a) (Slot b)) ≡ true
less a b h = grind (arith, nat_tests)

pub slots_ordered : (ns : List ℕ) → ascend ns ≡ true → in_order Slot ns ≡ true
slots_ordered [] h = refl
slots_ordered (x ∷ []) h = refl
slots_ordered (x ∷ y ∷ ys) h =
    let a = and_parts (nat_lt x y) (ascend (y ∷ ys)) h in
    let rest = slots_ordered (y ∷ ys) a.1 in
    let b = and_parts (list_all (λ z. is_lt (object_cmp (Slot y) (Slot z))) ys) (in_order Slot ys) rest in
    let first = less x y a.0 in
    rw (first, below_rest Slot x y ys first b.0) rest

-- one of them is one of the slots
pub slots_have : (ns : List ℕ) (o : Object) → has Slot ns o ≡ listed (slots ns) o
slots_have [] o = refl
slots_have (n ∷ ns) o = ap (λ b. object_eq (Slot n) o || b) (slots_have ns o)

pub no_chunk : (ns : List ℕ) (name : List ℕ) → false ≡ listed (slots ns) (Chunk name)
no_chunk [] name = refl
no_chunk (n ∷ ns) name = no_chunk ns name
