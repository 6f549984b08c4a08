use Rattle.std.proofs.Common.{◌≡◌, ℕ, ◌+◌, ◌<◌, ◌≤◌, false}
use Rattle.rolling_chunks.specs.Cuts.{window_before, is_anchor}
use Rattle.rolling_chunks.specs.Steps.{StandsFor}
use Rattle.rolling_chunks.proofs.anchors.anchor_after.Given as goal

abbrev pub invariant-loop-i : goal.invariant-loop-i
invariant-loop-i l = record { stands : StandsFor (l.moved + l.change) (window_before l.bytes l.i); none : (k : ℕ) → l.from < k → k ≤ l.i → is_anchor l.bytes k ≡ false }
