-- Numbers that ascend.
use Rattle.std.proofs.Common.{◌≡◌, ℕ, ◌<◌, true, List, [], ◌∷◌, length, refl, arith}
use Rattle.psb_model.specs.Grammar.{ascend}

pub short : (xs : List ℕ) → length xs < 2 → ascend xs ≡ true
short [] h = refl
short (x ∷ []) h = refl
short (x ∷ y ∷ xs) h = absurd (omega (arith, h))
