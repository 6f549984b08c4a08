use Rattle.rolling_chunks.proofs.Pushing.{runs_cut}
use Rattle.rolling_chunks.proofs.laws.runs_cut.Goals as goal

pub returns : goal.returns
returns c = runs_cut
