use Rattle.psb_digest.proofs.Streams.{Masking}
use Rattle.psb_digest.proofs.stream.mask.Given as goal

abbrev pub invariant-loop-i : goal.invariant-loop-i
invariant-loop-i l = Masking l.key l.stream l.initial.bytes l.bytes l.words l.i
