-- Fingerprints of windows of a text: a sum of powers, modulo a Mersenne prime.
use Rattle.std.specs.Prelude.{◌≡◌, ℕ, ◌+◌, ◌*◌, ◌%◌, ◌^◌, ◌≤◌, List, [], ◌∷◌, length}

-- 2^61 - 1
abbrev pub modulus : ℕ
modulus = 2305843009213693951

-- the FNV prime of 64 bits
abbrev pub base : ℕ
base = 1099511628211

-- Each byte and one, times the base to the power of how many bytes follow it: of 48 bytes, byte i
-- has the power 47 - i.
unfoldable pub power_sum : List ℕ → ℕ
power_sum [] = 0
power_sum (b ∷ window) = (b + 1) * base ^ length window + power_sum window

unfoldable pub fingerprint : List ℕ → ℕ
fingerprint window = power_sum window % modulus

-- what a rolling window keeps beside its bytes: there are 48 of them at most, and the value is their fingerprint
pub record IsRolling (bytes : List ℕ) (capacity value : ℕ) : Type 0 where
  pub room : capacity ≡ 48
  pub within : length bytes ≤ 48
  pub value_is : value ≡ fingerprint bytes
