-- What the steps of a cutter are by. No public call needs it.
use Rattle.std.specs.Prelude.{◌≡◌, ℕ, ◌%◌, ◌^◌, ◌<◌, Bool, ◌&&◌, ◌||◌, ◌==◌, nat_le, List}
use Rattle.rolling_chunks.specs.Fingerprints.{modulus, fingerprint}

-- a number of which a fingerprint is the remainder, small enough to go on from
pub record StandsFor (value : ℕ) (window : List ℕ) : Type 0 where
  pub below : value < 2 ^ 63
  pub leaves : value % modulus ≡ fingerprint window

-- whether a chunk ends that has this length, by whether an anchor is there
abbrev pub ends_with : ℕ → ℕ → Bool → Bool
ends_with m len anchor = nat_le 2048 len && ((len == m) || anchor)
