use Rattle.rolling_chunks.proofs.Running.{pushes_run}
use Rattle.rolling_chunks.proofs.laws.pushes_run.Goals as goal

pub returns : goal.returns
returns c = pushes_run
