use Rattle.std.proofs.Common.{◌∙◌, ap}
use Rattle.psb_model.specs.Words.{units_at}
use Rattle.psb_model.specs.State.{in_key, in_size}
use Rattle.peer_account.specs.View.{AccountView}
use Rattle.peer_lists.proofs.Found.{found_units, none_units}
use Rattle.peer_account.proofs.account.Account.units_held.Goals as goal

pub returns-in-None : goal.returns-in-None
returns-in-None c =
    none_units in_key in_size c.self.inside.ins.items c.args.object.now c.in-None.ensures.entry
    ∙ ap (λ (v : AccountView). units_at in_key in_size v.row.ins c.args.object.now) c.self.view_is

pub returns-in-Some : goal.returns-in-Some
returns-in-Some c =
    found_units in_key in_size c.self.inside.ins.items c.args.object.now c.in-Some.entry c.in-Some.ensures.ordered c.in-Some.ensures.entry
    ∙ ap (λ (v : AccountView). units_at in_key in_size v.row.ins c.args.object.now) c.self.view_is
