use Rattle.probe_laws.proofs.Compared.{probes_are_compared}
use Rattle.probe_laws.proofs.laws.probes_are_compared.Goals as goal

pub returns : goal.returns
returns c = probes_are_compared
