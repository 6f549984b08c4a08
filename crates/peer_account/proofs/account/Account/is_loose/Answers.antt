use Rattle.std.proofs.Common.{◌∙◌, ap}
use Rattle.psb_model.specs.Words.{has_so}
use Rattle.psb_model.specs.State.{out_key}
use Rattle.psb_model.specs.Conditions.{is_loose}
use Rattle.peer_account.specs.View.{AccountView}
use Rattle.peer_lists.proofs.Found.{found_so, none_so}
use Rattle.peer_account.proofs.account.Account.is_loose.Goals as goal

pub returns-in-None : goal.returns-in-None
returns-in-None c =
    none_so out_key is_loose c.self.inside.outs.items c.args.object.now c.in-None.ensures.entry
    ∙ ap (λ (v : AccountView). has_so out_key is_loose v.row.outs c.args.object.now) c.self.view_is

pub returns-in-Some : goal.returns-in-Some
returns-in-Some c =
    c.is_freed.ensures
    ∙ found_so out_key is_loose c.self.inside.outs.items c.args.object.now c.in-Some.entry c.in-Some.ensures.ordered c.in-Some.ensures.entry
    ∙ ap (λ (v : AccountView). has_so out_key is_loose v.row.outs c.args.object.now) c.self.view_is
