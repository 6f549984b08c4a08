use Rattle.std.proofs.Common.{refl}
use Rattle.snapshots.proofs.ChunkReads.{at_start}
use Rattle.snapshots.proofs.reading.ChunkReader.new.Goals as goal

pub returns-clause-behind : goal.returns-clause-behind
returns-clause-behind c = at_start _ c.in_ok-chunk.ensures c.in_ok-unread.ensures refl refl
