use Rattle.probe_laws.proofs.Silence.{silence_is_just as proved}
use Rattle.probe_laws.proofs.laws.silence_is_just.Goals as goal

pub returns : goal.returns
returns c = proved
