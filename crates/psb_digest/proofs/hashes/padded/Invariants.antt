use Rattle.std.proofs.Common.{◌≡◌, List, ℕ, ◌<◌, ◌≤◌, length, get_or, bit_xor}
use Rattle.psb_digest.proofs.hashes.padded.Given as goal

-- bytes before i are padded, the rest is as it was
pub record Padding (pad : ℕ) (old now : List ℕ) (i : ℕ) : Type 0 where
  pub long : length now ≡ length old
  pub done : (k : ℕ) → k < i → get_or now k 0 ≡ bit_xor (get_or old k 0) pad
  pub ahead : (k : ℕ) → i ≤ k → get_or now k 0 ≡ get_or old k 0

abbrev pub invariant-loop-byte : goal.invariant-loop-byte
invariant-loop-byte l = Padding l.pad l.initial.byte-items l.byte-items l.byte-index
