use Rattle.std.proofs.Common.{arith}
use Rattle.snapshots.proofs.Gatherings.{gathered_new}
use Rattle.snapshots.proofs.gathering.ChunkBuffer.restart.Goals as goal

pub invariant_of-self : goal.invariant_of-self
invariant_of-self c = gathered_new c.finish.new.self c.clear.new.self.items _ c.finish.ensures.anew c.clear.ensures.items (omega (arith, c.clear.ensures.capacity, c.self.invariant.room))
