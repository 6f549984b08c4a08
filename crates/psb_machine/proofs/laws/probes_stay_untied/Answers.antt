use Rattle.psb_machine.proofs.Untied.{keeps_untied}
use Rattle.psb_machine.proofs.laws.probes_stay_untied.Goals as goal

pub returns : goal.returns
returns c = keeps_untied
