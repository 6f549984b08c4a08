use Rattle.std.proofs.Common.{◌∙◌}
use Rattle.accounts.proofs.Places.{peers_in}
use Rattle.accounts.proofs.table.is_peer.Goals as goal

pub returns : goal.returns
returns c = c.has_account.ensures ∙ peers_in c.args.accounts.now c.args.peer
