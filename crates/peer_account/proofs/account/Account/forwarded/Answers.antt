-- The entry at the object is the only one there.
use Rattle.std.proofs.Common.{[], ◌∷◌, option_to_list, sym, ap, ◌∙◌, append-nil}
use Rattle.psb_model.specs.Words.{only}
use Rattle.psb_model.specs.State.{in_key}
use Rattle.peer_lists.proofs.Tables.{is_none_has}
use Rattle.peer_account.specs.View.{AccountView}
use Rattle.peer_account.specs.States.{seat_of, seats}
use Rattle.peer_account.proofs.Probed.{only_none, only_found}
use Rattle.peer_account.proofs.account.Account.forwarded.Goals as goal

pub returns-in-None : goal.returns-in-None
returns-in-None c =
    let l = c.self.inside.ins.items in
    let o = c.args.object.now in
    sym (ap seats (only_none in_key l o (is_none_has in_key l o (sym c.in-None.ensures.entry))))
    ∙ ap (λ (v : AccountView). seats (only in_key (o ∷ []) v.row.ins)) c.self.view_is

pub returns-in-Some : goal.returns-in-Some
returns-in-Some c =
    let l = c.self.inside.ins.items in
    let o = c.args.object.now in
    ap option_to_list c.seat_of.ensures
    ∙ sym (append-nil (option_to_list (seat_of c.in-Some.entry.state)))
    ∙ sym (ap seats (only_found in_key l o c.in-Some.entry c.in-Some.ensures.ordered (sym c.in-Some.ensures.entry)))
    ∙ ap (λ (v : AccountView). seats (only in_key (o ∷ []) v.row.ins)) c.self.view_is
