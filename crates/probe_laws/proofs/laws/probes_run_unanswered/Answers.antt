use Rattle.probe_laws.proofs.Silence.{probes_run_unanswered as proved}
use Rattle.probe_laws.proofs.laws.probes_run_unanswered.Goals as goal

pub returns : goal.returns
returns c = proved
