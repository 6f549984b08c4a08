-- What contracts see of a walk along the chain.
use Rattle.std.specs.Prelude.{ℕ, List}

-- the seed, and how many claims were walked: those below this number
pub record Walking : Type 0 where
  pub seed : List ℕ
  pub count : ℕ
