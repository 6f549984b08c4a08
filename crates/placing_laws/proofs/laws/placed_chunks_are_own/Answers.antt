use Rattle.placing_laws.proofs.Outs.{outs_own}
use Rattle.placing_laws.proofs.Units.{outs_units}
use Rattle.placing_laws.proofs.laws.placed_chunks_are_own.Goals as goal

pub returns : goal.returns
returns c = λ h p v. record { own = λ n is. outs_own h p n v is; units = λ n is. outs_units h p n v is }
