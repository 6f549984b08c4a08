-- The order of names by their bytes, as a tree keeps them.
use Rattle.std.proofs.Common.{◌≡◌, ℕ, List, refl, ap, ◌∙◌}
use Rattle.std.specs.declared.cmp.Ordering.{Ordering}
use Rattle.std.specs.Ordering.{nat_cmp, is_eq}
use Rattle.std.specs.Cmp.Lexicographic.{slice_cmp}
use Rattle.psb_bytes.specs.declared.ids.Object.TheVariants.{Chunk}
use Rattle.psb_bytes.specs.contracts.ids.DigestOrd.TheImpl.{cmp-value as derived_cmp}
use Rattle.psb_model.specs.Words.{name_eq}
use Rattle.peer_lists.proofs.Ordered.{equal_is_one}

-- the order by which a tree keeps its names is theirs
abbrev pub IsNameOrder : (List ℕ → List ℕ → Ordering) → Type 0
IsNameOrder cmp = (a b : List ℕ) → cmp a b ≡ slice_cmp nat_cmp a b

pub by_name : (a b : List ℕ) → derived_cmp.it a b ≡ slice_cmp nat_cmp a b
by_name a b = refl

pub same_name : (cmp : List ℕ → List ℕ → Ordering) → IsNameOrder cmp → (a b : List ℕ) → is_eq (cmp a b) ≡ name_eq b a
same_name cmp law a b = ap is_eq (law a b) ∙ equal_is_one (Chunk a) (Chunk b)
