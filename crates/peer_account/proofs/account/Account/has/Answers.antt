use Rattle.std.proofs.Common.{◌∙◌, ap}
use Rattle.std.specs.Prelude.{is_some}
use Rattle.psb_model.specs.Words.{has}
use Rattle.psb_model.specs.State.{in_key}
use Rattle.peer_account.specs.View.{AccountView}
use Rattle.peer_lists.proofs.Found.{find_has}
use Rattle.peer_account.proofs.account.Account.has.Goals as goal

pub returns : goal.returns
returns c =
    c.is_some.ensures
    ∙ ap is_some c.get.ensures.entry
    ∙ find_has in_key c.self.inside.ins.items c.args.object.now
    ∙ ap (λ (v : AccountView). has in_key v.row.ins c.args.object.now) c.self.view_is
