use Rattle.buddy_select.proofs.Distinct.{AreDistinctTo}
use Rattle.buddy_select.proofs.candidates.distinct_peers.Given as goal

abbrev pub invariant-loop-i : goal.invariant-loop-i
invariant-loop-i l = AreDistinctTo l.candidates l.i
