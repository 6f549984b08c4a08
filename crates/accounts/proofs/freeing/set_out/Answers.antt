-- The account at the place is the only one that changes.
use Rattle.std.proofs.Common.{◌≤◌, subst}
use Rattle.psb_bytes.specs.declared.ids.Object.TheVariants.{Slot}
use Rattle.psb_model.specs.Effects.{relabel_out}
use Rattle.peer_account.specs.View.{AccountView}
use Rattle.accounts.proofs.Places.{found_here, found_set, found_account}
use Rattle.accounts.proofs.Loosened.{rooms_set}
use Rattle.accounts.proofs.freeing.set_out.Goals as goal

pub set_out-requires : goal.set_out-requires
set_out-requires c =
    let vs = c.args.accounts.now.items in
    let r = c.index_mut-account.result.now in
    let f = found_here vs c.args.peer c.args.place r c.requires.place c.index_mut-account.ensures.value in
    subst (λ (v : AccountView). 2 ≤ v.out_room) (found_account vs c.args.peer c.args.place r f) c.requires.room

pub returns-clause-rows : goal.returns-clause-rows
returns-clause-rows c =
    let vs = c.args.accounts.now.items in
    let r = c.index_mut-account.result.now in
    let f = found_here vs c.args.peer c.args.place r c.requires.place c.index_mut-account.ensures.value in
    found_set vs c.args.peer c.args.place r c.set_out.new.self (relabel_out (Slot c.args.slot) c.args.state) f c.set_out.ensures.id c.set_out.ensures.row

pub returns-clause-rooms : goal.returns-clause-rooms
returns-clause-rooms c = rooms_set c.args.accounts.now.items c.args.place c.index_mut-account.result.now c.set_out.new.self c.index_mut-account.ensures.value c.set_out.ensures.in_room
