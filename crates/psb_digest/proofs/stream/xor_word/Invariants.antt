use Rattle.std.proofs.Common.{◌≡◌, List, ℕ, ◌<◌, ◌≤◌, get_or, bit_xor}
use Rattle.psb_digest.proofs.stream.xor_word.Given as goal

-- bytes before k are xored, the rest is as it was
pub record Xoring (mask old now : List ℕ) (k : ℕ) : Type 0 where
  pub done : (j : ℕ) → j < k → get_or now j 0 ≡ bit_xor (get_or old j 0) (get_or mask j 0)
  pub ahead : (j : ℕ) → k ≤ j → get_or now j 0 ≡ get_or old j 0

abbrev pub invariant-loop-k : goal.invariant-loop-k
invariant-loop-k l = Xoring l.word l.initial.bytes l.bytes l.k
