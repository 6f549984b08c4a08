use Rattle.rolling_chunks.proofs.Covering.{nothing_to_cut}
use Rattle.rolling_chunks.proofs.laws.nothing_to_cut.Goals as goal

pub returns : goal.returns
returns c = nothing_to_cut
