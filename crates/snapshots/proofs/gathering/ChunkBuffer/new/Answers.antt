use Rattle.snapshots.proofs.Gatherings.{gathered_new}
use Rattle.snapshots.proofs.gathering.ChunkBuffer.new.Goals as goal

pub invariant_of-result : goal.invariant_of-result
invariant_of-result c = gathered_new c.in_ok-cutter.cutter c.in_ok-bytes.bytes.items _ c.in_ok-cutter.ensures c.in_ok-bytes.ensures.items c.in_ok-bytes.ensures.capacity
