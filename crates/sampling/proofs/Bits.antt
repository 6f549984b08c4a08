-- The bits of a sample, from the last name to the first.
use Rattle.std.proofs.Common.{◌≡◌, ℕ, zero, suc, ◌+◌, ◌*◌, ◌≤◌, Bool, true, false, List, [], ◌∷◌, drop, slice_get, Some, refl, ap, arith}
use mir.Val.{bool_byte}
use Rattle.psb_machine.specs.Sampling.{bit_of, bits_of}

pub bit_is : (b : Bool) → bool_byte b ≡ bit_of b
bit_is true = refl
bit_is false = refl

pub bit_small : (b : Bool) → bit_of b ≤ 1
bit_small true = omega arith
bit_small false = omega arith

-- those from a name on, where those behind it are known
pub bits_on : (test : List ℕ → Bool) (names : List (List ℕ)) (i : ℕ) (n : List ℕ) → slice_get names i ≡ Some n → bits_of test (drop i names) ≡ bit_of (test n) + 2 * bits_of test (drop (suc i) names)
bits_on test [] i n is = absurd (cc)
bits_on test (x ∷ xs) zero n is = let same : x ≡ n = cc (is) in ap (λ (y : List ℕ). bit_of (test y) + 2 * bits_of test xs) same
bits_on test (x ∷ xs) (suc i) n is = bits_on test xs i n is
