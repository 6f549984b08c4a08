-- What contracts see of a source of claims, and where a body is at home in it.
use Rattle.std.specs.Prelude.{◌≡◌, ◌≢◌, ℕ, ◌<◌, ◌≤◌, List}
use Rattle.psb_digest.specs.Claims.{claim}

-- the seed of which the claims are made; how many numbers were issued, those below this one; and how many
-- of their claims were walked, again those below
pub record Source : Type 0 where
  pub seed : List ℕ
  pub issued : ℕ
  pub walked : ℕ

-- claims of a seed in turn: the number of the next one, and the first number that was not issued
pub record Run : Type 0 where
  pub seed : List ℕ
  pub number : ℕ
  pub end : ℕ

-- no number in from..end has a claim with this body
abbrev pub HasNone : List ℕ → List ℕ → ℕ → ℕ → Type 0
HasNone seed body from end = (j : ℕ) → from ≤ j → j < end → claim seed j ≢ body

-- i is the first number in from..end whose claim is the body
pub record IsHome (seed body : List ℕ) (from end i : ℕ) : Type 0 where
  pub lower : from ≤ i
  pub upper : i < end
  pub equal : claim seed i ≡ body
  pub first : HasNone seed body from i
