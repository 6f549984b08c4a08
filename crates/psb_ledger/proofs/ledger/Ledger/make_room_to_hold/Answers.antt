-- One account gets more room.
use Rattle.std.proofs.Common.{◌≤◌, ◌∙◌, ap, sym, subst, arith}
use Rattle.std.specs.Prelude.{◌==◌, position}
use Rattle.peer_account.specs.View.{AccountView}
use Rattle.psb_ledger.specs.View.{LedgerView, HasListRoom}
use Rattle.psb_ledger.proofs.Rooms.{roomier, no_room, held_stay, on_ok_map}
use Rattle.psb_ledger.proofs.ledger.Ledger.make_room_to_hold.Goals as goal

pub invariant_of-self : goal.invariant_of-self
invariant_of-self c =
    let made = roomier c.self.inside c.args.holder c.in-Some.at c.index_mut-account.result.now c.reserve_ins.new.self (c.in-Some.ensures ∙ ap (position (λ (v : AccountView). v.id == c.args.holder)) c.as_slice.ensures.value) c.index_mut-account.ensures.value c.reserve_ins.ensures.id c.reserve_ins.ensures.row c.self.invariant.sound in
    record { sound = made.sound; own_part = c.self.invariant.own_part; blank_row = c.self.invariant.blank_row }

pub returns-in-None-clause-room : goal.returns-in-None-clause-room
returns-in-None-clause-room c =
    let at = c.in-None.ensures ∙ ap (position (λ (v : AccountView). v.id == c.args.holder)) c.as_slice.ensures.value in
    subst (λ (v : LedgerView). HasListRoom v c.args.holder c.args.count 0) c.self.view_is (record { in_room = no_room c.self.inside c.args.holder at; out_room = no_room c.self.inside c.args.holder at })

pub returns-in-Some-clause-state : goal.returns-in-Some-clause-state
returns-in-Some-clause-state c =
    let made = roomier c.self.inside c.args.holder c.in-Some.at c.index_mut-account.result.now c.reserve_ins.new.self (c.in-Some.ensures ∙ ap (position (λ (v : AccountView). v.id == c.args.holder)) c.as_slice.ensures.value) c.index_mut-account.ensures.value c.reserve_ins.ensures.id c.reserve_ins.ensures.row c.self.invariant.sound in
    made.state ∙ ap (λ (v : LedgerView). v.state) c.self.view_is

pub returns-in-Some-clause-lists : goal.returns-in-Some-clause-lists
returns-in-Some-clause-lists c =
    on_ok_map c.reserve_ins.result _ _ (λ le p ins outs few room.
    let both = held_stay c.self.inside c.args.self.now c.args.holder c.in-Some.at c.args.count c.index_mut-account.result.now c.reserve_ins.new.self p ins outs c.self.view_is (c.in-Some.ensures ∙ ap (position (λ (v : AccountView). v.id == c.args.holder)) c.as_slice.ensures.value) c.index_mut-account.ensures.value c.reserve_ins.ensures.id c.reserve_ins.ensures.row c.reserve_ins.ensures.out_room le few room in
    record { in_room = both.in_room; out_room = both.out_room }) c.reserve_ins.ensures.in_room

pub returns-in-Some-clause-room : goal.returns-in-Some-clause-room
returns-in-Some-clause-room c =
    let made = roomier c.self.inside c.args.holder c.in-Some.at c.index_mut-account.result.now c.reserve_ins.new.self (c.in-Some.ensures ∙ ap (position (λ (v : AccountView). v.id == c.args.holder)) c.as_slice.ensures.value) c.index_mut-account.ensures.value c.reserve_ins.ensures.id c.reserve_ins.ensures.row c.self.invariant.sound in
    on_ok_map c.reserve_ins.result _ _ (λ le. record { in_room = λ _. subst (λ (v : AccountView). c.args.count ≤ v.in_room) (sym made.account) le; out_room = λ _. omega arith }) c.reserve_ins.ensures.in_room
