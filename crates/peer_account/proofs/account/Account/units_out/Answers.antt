use Rattle.std.proofs.Common.{◌∙◌, ap}
use Rattle.psb_model.specs.Words.{units_at}
use Rattle.psb_model.specs.State.{out_key, out_size}
use Rattle.peer_account.specs.View.{AccountView}
use Rattle.peer_lists.proofs.Found.{found_units, none_units}
use Rattle.peer_account.proofs.account.Account.units_out.Goals as goal

pub returns-in-None : goal.returns-in-None
returns-in-None c =
    none_units out_key out_size c.self.inside.outs.items c.args.object.now c.in-None.ensures.entry
    ∙ ap (λ (v : AccountView). units_at out_key out_size v.row.outs c.args.object.now) c.self.view_is

pub returns-in-Some : goal.returns-in-Some
returns-in-Some c =
    found_units out_key out_size c.self.inside.outs.items c.args.object.now c.in-Some.entry c.in-Some.ensures.ordered c.in-Some.ensures.entry
    ∙ ap (λ (v : AccountView). units_at out_key out_size v.row.outs c.args.object.now) c.self.view_is
