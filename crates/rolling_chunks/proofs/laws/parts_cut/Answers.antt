use Rattle.rolling_chunks.proofs.Running.{parts_cut}
use Rattle.rolling_chunks.proofs.laws.parts_cut.Goals as goal

pub returns : goal.returns
returns c = parts_cut
