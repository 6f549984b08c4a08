use Rattle.own_chunks.proofs.Listed.{IsOrderedTo, name_lt}
use Rattle.own_chunks.proofs.snapshots.names_ascend.Given as goal

abbrev pub invariant-loop-i : goal.invariant-loop-i
invariant-loop-i l = IsOrderedTo name_lt l.names l.i
