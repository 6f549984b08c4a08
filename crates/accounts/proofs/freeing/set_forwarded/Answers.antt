-- The account of the holder, if there is one, is the only one that changes.
use Rattle.std.proofs.Common.{sym, ap, ◌∙◌, ◌≤◌, map, subst}
use Rattle.std.specs.Prelude.{◌==◌, position}
use Rattle.psb_bytes.specs.declared.ids.Object.TheVariants.{Slot}
use Rattle.psb_model.specs.declared.entries.InState.TheVariants as at
use Rattle.psb_model.specs.Effects.{relabel_in}
use Rattle.peer_account.specs.View.{AccountView, named_row}
use Rattle.accounts.proofs.Places.{found_here, found_set, found_peer, found_account, none}
use Rattle.accounts.proofs.Loosened.{at_row_stranger}
use Rattle.accounts.proofs.freeing.set_forwarded.Goals as goal

pub set_in-requires : goal.set_in-requires
set_in-requires c =
    let vs = c.args.accounts.now.items in
    let p = c.args.holder in
    let r = c.index_mut-account.result.now in
    let place = c.in-Some.ensures ∙ ap (position (λ (v : AccountView). v.id == p)) c.as_slice.ensures.value in
    let f = found_here vs p c.in-Some.place r place c.index_mut-account.ensures.value in
    subst (λ (v : AccountView). 2 ≤ v.in_room) (found_account vs p c.in-Some.place r f) (c.requires (found_peer vs p c.in-Some.place r f))

pub returns-in-Some : goal.returns-in-Some
returns-in-Some c =
    let vs = c.args.accounts.now.items in
    let p = c.args.holder in
    let r = c.index_mut-account.result.now in
    let place = c.in-Some.ensures ∙ ap (position (λ (v : AccountView). v.id == p)) c.as_slice.ensures.value in
    let f = found_here vs p c.in-Some.place r place c.index_mut-account.ensures.value in
    found_set vs p c.in-Some.place r c.set_in.new.self (relabel_in (Slot c.args.slot) (at.Forwarded c.args.seat)) f c.set_in.ensures.id c.set_in.ensures.row

pub returns-in_default : goal.returns-in_default
returns-in_default c =
    let vs = c.args.accounts.now.items in
    let p = c.args.holder in
    let place = c.in_default.ensures ∙ ap (position (λ (v : AccountView). v.id == p)) c.as_slice.ensures.value in
    sym (at_row_stranger p (relabel_in (Slot c.args.slot) (at.Forwarded c.args.seat)) (map named_row vs) (none vs p (sym place)).1)
