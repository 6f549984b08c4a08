use Rattle.std.proofs.Common.{◌≤◌, ◌∙◌, ap, sym, subst}
use Rattle.std.specs.Prelude.{◌==◌, position}
use Rattle.peer_account.specs.View.{AccountView}
use Rattle.psb_ledger.specs.View.{LedgerView, HasTurnRoom}
use Rattle.accounts.proofs.Places.{on_ok_both}
use Rattle.psb_ledger.proofs.Rooms.{roomier, no_room}
use Rattle.psb_ledger.proofs.ledger.Ledger.make_room_to_turn.Goals as goal

pub returns-in-Some-clause-state : goal.returns-in-Some-clause-state
returns-in-Some-clause-state c =
    let made = roomier c.self.inside c.args.peer c.in-Some.at c.index_mut-account.result.now c.reserve_turn.new.self (c.in-Some.ensures ∙ ap (position (λ (v : AccountView). v.id == c.args.peer)) c.as_slice.ensures.value) c.index_mut-account.ensures.value c.reserve_turn.ensures.id c.reserve_turn.ensures.row c.self.invariant.sound in
    made.state ∙ ap (λ (v : LedgerView). v.state) c.self.view_is

pub invariant_of-self : goal.invariant_of-self
invariant_of-self c =
    let made = roomier c.self.inside c.args.peer c.in-Some.at c.index_mut-account.result.now c.reserve_turn.new.self (c.in-Some.ensures ∙ ap (position (λ (v : AccountView). v.id == c.args.peer)) c.as_slice.ensures.value) c.index_mut-account.ensures.value c.reserve_turn.ensures.id c.reserve_turn.ensures.row c.self.invariant.sound in
    record { sound = made.sound; own_part = c.self.invariant.own_part; blank_row = c.self.invariant.blank_row }

pub returns-in-Some-clause-room : goal.returns-in-Some-clause-room
returns-in-Some-clause-room c =
    let made = roomier c.self.inside c.args.peer c.in-Some.at c.index_mut-account.result.now c.reserve_turn.new.self (c.in-Some.ensures ∙ ap (position (λ (v : AccountView). v.id == c.args.peer)) c.as_slice.ensures.value) c.index_mut-account.ensures.value c.reserve_turn.ensures.id c.reserve_turn.ensures.row c.self.invariant.sound in
    on_ok_both c.reserve_turn.result _ _ _ (λ a b. record { barred = λ _. subst (λ (v : AccountView). 1 ≤ v.barred_room) (sym made.account) a; cancels = λ _. subst (λ (v : AccountView). 1 ≤ v.cancel_room) (sym made.account) b }) c.reserve_turn.ensures.barred_room c.reserve_turn.ensures.cancel_room

pub returns-in-None-clause-room : goal.returns-in-None-clause-room
returns-in-None-clause-room c =
    let at = c.in-None.ensures ∙ ap (position (λ (v : AccountView). v.id == c.args.peer)) c.as_slice.ensures.value in
    subst (λ (v : LedgerView). HasTurnRoom v c.args.peer) c.self.view_is (record { barred = no_room c.self.inside c.args.peer at; cancels = no_room c.self.inside c.args.peer at })
