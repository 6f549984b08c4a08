use Rattle.probe_laws.proofs.Just.{outcomes_are_just}
use Rattle.probe_laws.proofs.laws.outcomes_are_just.Goals as goal

pub returns : goal.returns
returns c = outcomes_are_just
