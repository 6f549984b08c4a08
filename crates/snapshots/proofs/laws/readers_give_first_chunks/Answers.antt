use Rattle.snapshots.proofs.ChunkReads.{first_given}
use Rattle.snapshots.proofs.laws.readers_give_first_chunks.Goals as goal

pub returns : goal.returns
returns c = first_given
