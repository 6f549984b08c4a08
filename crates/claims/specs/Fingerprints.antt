-- Short fingerprints of claims.
use Rattle.std.specs.Prelude.{◌≡◌, ℕ, ◌<◌, List, length, get_or, take}
use Rattle.psb_bytes.specs.Numbers.{u32_of}
use Rattle.psb_digest.specs.Claims.{claim}

-- the first four bytes, as a number
abbrev pub fingerprint : List ℕ → ℕ
fingerprint body = u32_of (take 4 body)

-- the list has the fingerprint of each claim below `count`, in the order of their numbers
pub record AreFingerprints (seed fingerprints : List ℕ) (count : ℕ) : Type 0 where
  pub all : length fingerprints ≡ count
  pub right : (i : ℕ) → i < count → get_or fingerprints i 0 ≡ fingerprint (claim seed i)
