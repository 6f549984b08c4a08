-- A name is barred where some change barred it.
use Rattle.std.proofs.Common.{◌∙◌, ap}
use Rattle.std.specs.Prelude.{is_some}
use Rattle.own_deals.proofs.BarredNumbers.{is_there}
use Rattle.peer_account.proofs.account.Account.is_barred.Goals as goal

pub returns : goal.returns
returns c = c.is_some.ensures ∙ ap is_some c.barred.ensures ∙ is_there c.args.self.now.row.barred c.args.name.now
