use Rattle.psb_model.proofs.Balance.{balances}
use Rattle.model_laws.proofs.balance_law.Goals as goal

pub returns : goal.returns
returns c = balances
