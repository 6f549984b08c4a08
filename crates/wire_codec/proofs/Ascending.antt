-- A list that ascends, tested pair by pair.
use Rattle.std.proofs.Common.{◌≡◌, ℕ, zero, suc, ◌-◌, ◌≤◌, true, List, [], ◌∷◌, length, drop, refl, sym, ◌∙◌, arith}
use Rattle.wire_codec.specs.Fields.{ascends}

-- the pairs before place j were in order, so the list ascends where the rest does
abbrev pub IsOrderedTo : List ℕ → ℕ → Type 0
IsOrderedTo xs j = ascends xs ≡ ascends (drop (j - 1) xs)

finish : (xs : List ℕ) (k : ℕ) → length xs ≤ suc k → ascends (drop k xs) ≡ true
finish [] zero within = refl
finish [] (suc k) within = refl
finish (a ∷ []) zero within = refl
finish (a ∷ b ∷ xs) zero within = absurd (omega (arith, within))
finish (a ∷ xs) (suc k) within = finish xs k (omega (arith, within))

pub ordered_all : (xs : List ℕ) (j : ℕ) → length xs ≤ j → IsOrderedTo xs j → true ≡ ascends xs
ordered_all xs j past before = sym (before ∙ finish xs (j - 1) (omega arith))
