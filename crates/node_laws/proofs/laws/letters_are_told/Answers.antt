use Rattle.psb_machine.proofs.Whole.{keeps_valid}
use Rattle.node_laws.proofs.Reacting.{sent_told}
use Rattle.node_laws.proofs.laws.letters_are_told.Goals as goal

pub returns : goal.returns
returns c = λ s n x ready untied. sent_told s n x ready (keeps_valid n x ready.valid untied ready.fits)
