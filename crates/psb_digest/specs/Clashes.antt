-- Two texts that hash alike.
use Rattle.std.specs.Prelude.{◌≡◌, ◌≢◌, ℕ, List}
use Rattle.psb_digest.specs.Hashes.{sha}

-- what a contract sees of a clash
pub record Pair : Type 0 where
  pub first : List ℕ
  pub second : List ℕ

-- the two differ, and have one SHA-256
abbrev pub Clashes : List ℕ → List ℕ → Type 0
Clashes first second = (first ≢ second) × (sha first ≡ sha second)
