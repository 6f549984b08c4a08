use Rattle.std.proofs.Common.{◌∙◌, ap}
use Rattle.psb_model.specs.Words.{has_so}
use Rattle.psb_model.specs.State.{in_key}
use Rattle.psb_model.specs.Conditions.{is_direct_or_home}
use Rattle.peer_account.specs.View.{AccountView}
use Rattle.peer_lists.proofs.Found.{found_so, none_so}
use Rattle.peer_account.proofs.account.Account.is_ready.Goals as goal

pub returns-in-None : goal.returns-in-None
returns-in-None c =
    none_so in_key is_direct_or_home c.self.inside.ins.items c.args.object.now c.in-None.ensures.entry
    ∙ ap (λ (v : AccountView). has_so in_key is_direct_or_home v.row.ins c.args.object.now) c.self.view_is

pub returns-in-Some : goal.returns-in-Some
returns-in-Some c =
    c.is_ready.ensures
    ∙ found_so in_key is_direct_or_home c.self.inside.ins.items c.args.object.now c.in-Some.entry c.in-Some.ensures.ordered c.in-Some.ensures.entry
    ∙ ap (λ (v : AccountView). has_so in_key is_direct_or_home v.row.ins c.args.object.now) c.self.view_is
