-- The account of the seat's peer, if there is one, is the only one that changes.
use Rattle.std.proofs.Common.{sym, ap, ◌∙◌, map, arith}
use Rattle.std.specs.Prelude.{◌==◌, ◌+◌, position}
use Rattle.psb_model.specs.Effects.{loose_at}
use Rattle.peer_account.specs.View.{AccountView, named_row}
use Rattle.accounts.proofs.Places.{found_here, found_set, found_within, none}
use Rattle.accounts.proofs.Loosened.{less_room, room_at, room_left, rooms_set, at_row_stranger}
use Rattle.accounts.proofs.freeing.loosen_at.Goals as goal

pub loosen-requires : goal.loosen-requires
loosen-requires c =
    let vs = c.args.accounts.now.items in
    let p = c.args.seat.peer in
    let place = c.in-Some.ensures ∙ ap (position (λ (v : AccountView). v.id == p)) c.as_slice.ensures.value in
    let f = found_here vs p c.in-Some.place c.index_mut-account.result.now place c.index_mut-account.ensures.value in
    room_at 2 vs c.in-Some.place c.index_mut-account.result.now (found_within vs p c.in-Some.place c.index_mut-account.result.now f) c.index_mut-account.ensures.value c.requires

pub returns-in-Some-clause-rows : goal.returns-in-Some-clause-rows
returns-in-Some-clause-rows c =
    let vs = c.args.accounts.now.items in
    let p = c.args.seat.peer in
    let place = c.in-Some.ensures ∙ ap (position (λ (v : AccountView). v.id == p)) c.as_slice.ensures.value in
    let f = found_here vs p c.in-Some.place c.index_mut-account.result.now place c.index_mut-account.ensures.value in
    found_set vs p c.in-Some.place c.index_mut-account.result.now c.loosen.new.self (loose_at c.args.seat.slot) f c.loosen.ensures.id c.loosen.ensures.row

pub returns-in-Some-clause-rooms : goal.returns-in-Some-clause-rooms
returns-in-Some-clause-rooms c = rooms_set c.args.accounts.now.items c.in-Some.place c.index_mut-account.result.now c.loosen.new.self c.index_mut-account.ensures.value c.loosen.ensures.in_room

pub returns-in-Some-clause-room : goal.returns-in-Some-clause-room
returns-in-Some-clause-room c = λ n h. room_left n c.args.accounts.now.items c.in-Some.place c.index_mut-account.result.now c.loosen.new.self c.index_mut-account.ensures.value c.loosen.ensures.out_room h

pub returns-in_default-clause-rows : goal.returns-in_default-clause-rows
returns-in_default-clause-rows c =
    let vs = c.args.accounts.now.items in
    let p = c.args.seat.peer in
    let place = c.in_default.ensures ∙ ap (position (λ (v : AccountView). v.id == p)) c.as_slice.ensures.value in
    sym (at_row_stranger p (loose_at c.args.seat.slot) (map named_row vs) (none vs p (sym place)).1)

pub returns-in_default-clause-room : goal.returns-in_default-clause-room
returns-in_default-clause-room c = λ n h. less_room (n + 2) n c.args.accounts.now.items (omega arith) h
