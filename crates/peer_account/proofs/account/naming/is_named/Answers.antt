use Rattle.std.proofs.Common.{◌∙◌}
use Rattle.peer_account.proofs.Accounts.{named_in}
use Rattle.peer_account.proofs.account.naming.is_named.Goals as goal

pub returns : goal.returns
returns c = c.any_names.ensures ∙ named_in c.args.accounts.now c.args.name.now
