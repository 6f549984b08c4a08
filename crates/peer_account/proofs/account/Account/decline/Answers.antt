-- Where that was not the last probe's number, nothing is lost.
use Rattle.std.proofs.Common.{◌≡◌, List, [], Option, Some, None, true, sym, ap, ◌∙◌}
use Rattle.psb_bytes.specs.declared.ids.Object.{Object}
use Rattle.psb_model.specs.Conditions.{asked_objects, at_places}
use Rattle.psb_model.specs.Effects.{failed_again}
use Rattle.peer_account.specs.declared.probes.Probes.{Probes}
use Rattle.peer_account.specs.View.{AccountView, whole_row, lost_row, declined_row}
use Rattle.peer_account.proofs.Probed.{lost_first}
use Rattle.peer_account.proofs.account.Account.decline.Goals as goal

pub returns-in_default-clause-row : goal.returns-in_default-clause-row
returns-in_default-clause-row c =
    let i = c.self.inside in
    let x = c.args.x.now in
    let r = whole_row i.ins.items i.outs.items i.debts.items i.last i.deals i.probes in
    let ended = c.end_for.ensures.ended ∙ ap (λ (p : Probes). record p { asked = None }) c.count_failure.ensures in
    let none : None ≡ asked_objects i.probes.asked x.asked = sym c.in_default.is ∙ c.end_for.ensures.asked ∙ ap (λ (p : Probes). asked_objects p.asked x.asked) c.count_failure.ensures in
    (λ j. whole_row i.ins.items i.outs.items i.debts.items i.last i.deals (ended j))
    ∙ ap failed_again (sym (lost_first c.args.change true r))
    ∙ ap (λ (a : Option (List Object)). failed_again (lost_row c.args.change true (elim a [ None ↦ [] | Some os ↦ at_places os x.places ]) r)) none
    ∙ ap (λ (v : AccountView). declined_row c.args.change x.asked x.places v.row) c.self.view_is
