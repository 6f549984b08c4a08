use Rattle.placing_laws.proofs.Staying.{chunk_stays}
use Rattle.placing_laws.proofs.laws.chunks_stay.Goals as goal

pub returns : goal.returns
returns c = chunk_stays
