use Rattle.placing_laws.proofs.Given.{slot_given}
use Rattle.placing_laws.proofs.laws.slots_were_given.Goals as goal

pub returns : goal.returns
returns c = λ h p s v is. slot_given h p s v is
