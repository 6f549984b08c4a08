use Rattle.std.proofs.Common.{refl}
use Rattle.snapshots.proofs.ChunkReads.{at_start}
use Rattle.snapshots.proofs.reading.ChunkReader.restart.Goals as goal

pub returns-clause-behind : goal.returns-clause-behind
returns-clause-behind c = at_start _ c.restart.ensures c.clear.ensures refl refl
