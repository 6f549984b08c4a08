-- Where claims begin on the chain.
use Rattle.std.specs.Prelude.{◌≡◌, ℕ, ◌*◌, ◌<◌, ◌≤◌, List, [], length, get_or}
use Rattle.psb_digest.specs.Claims.{claim_secret, link}

-- the link with which claim i begins
abbrev pub first_link : List ℕ → ℕ → List ℕ
first_link seed i = link (claim_secret seed) (16 * i)

-- the checkpoints are the first links of claims 0, 16, 32 and so on, and reach all claims below `count`
pub record AreCheckpoints (seed : List ℕ) (checkpoints : List (List ℕ)) (count : ℕ) : Type 0 where
  pub right : (k : ℕ) → k < length checkpoints → get_or checkpoints k [] ≡ first_link seed (16 * k)
  pub enough : count ≤ 16 * length checkpoints
