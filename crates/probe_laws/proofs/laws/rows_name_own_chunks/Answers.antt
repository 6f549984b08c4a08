use Rattle.probe_laws.proofs.There.{rows_name_own}
use Rattle.probe_laws.proofs.laws.rows_name_own_chunks.Goals as goal

pub returns : goal.returns
returns c = rows_name_own
