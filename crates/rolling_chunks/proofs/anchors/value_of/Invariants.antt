use Rattle.std.proofs.Common.{take}
use Rattle.rolling_chunks.specs.Steps.{StandsFor}
use Rattle.rolling_chunks.proofs.anchors.value_of.Given as goal

abbrev pub invariant-loop-byte : goal.invariant-loop-byte
invariant-loop-byte l = StandsFor l.value (take l.byte-index l.window)
