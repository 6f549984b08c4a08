use Rattle.std.proofs.Common.{◌≤◌, ◌∙◌, ap, sym, subst, ◌*◌}
use Rattle.std.specs.Prelude.{◌==◌, position}
use Rattle.peer_account.specs.View.{AccountView}
use Rattle.psb_ledger.specs.View.{LedgerView, HasDebtRoom}
use Rattle.accounts.proofs.Places.{on_ok_both}
use Rattle.psb_ledger.proofs.Rooms.{roomier, no_room}
use Rattle.psb_ledger.proofs.ledger.Ledger.make_room_to_lose.Goals as goal

pub returns-in-Some-clause-state : goal.returns-in-Some-clause-state
returns-in-Some-clause-state c =
    let made = roomier c.self.inside c.args.peer c.in-Some.at c.index_mut-account.result.now c.reserve_debts.new.self (c.in-Some.ensures ∙ ap (position (λ (v : AccountView). v.id == c.args.peer)) c.as_slice.ensures.value) c.index_mut-account.ensures.value c.reserve_debts.ensures.id c.reserve_debts.ensures.row c.self.invariant.sound in
    made.state ∙ ap (λ (v : LedgerView). v.state) c.self.view_is

pub invariant_of-self : goal.invariant_of-self
invariant_of-self c =
    let made = roomier c.self.inside c.args.peer c.in-Some.at c.index_mut-account.result.now c.reserve_debts.new.self (c.in-Some.ensures ∙ ap (position (λ (v : AccountView). v.id == c.args.peer)) c.as_slice.ensures.value) c.index_mut-account.ensures.value c.reserve_debts.ensures.id c.reserve_debts.ensures.row c.self.invariant.sound in
    record { sound = made.sound; own_part = c.self.invariant.own_part; blank_row = c.self.invariant.blank_row }

pub returns-in-Some-clause-room : goal.returns-in-Some-clause-room
returns-in-Some-clause-room c =
    let made = roomier c.self.inside c.args.peer c.in-Some.at c.index_mut-account.result.now c.reserve_debts.new.self (c.in-Some.ensures ∙ ap (position (λ (v : AccountView). v.id == c.args.peer)) c.as_slice.ensures.value) c.index_mut-account.ensures.value c.reserve_debts.ensures.id c.reserve_debts.ensures.row c.self.invariant.sound in
    on_ok_both c.reserve_debts.result _ _ _ (λ a b. record { out_room = λ _. subst (λ (v : AccountView). 2 * c.args.count ≤ v.out_room) (sym made.account) a; debt_room = λ _. subst (λ (v : AccountView). c.args.count ≤ v.debt_room) (sym made.account) b }) c.reserve_debts.ensures.out_room c.reserve_debts.ensures.debt_room

pub returns-in-None-clause-room : goal.returns-in-None-clause-room
returns-in-None-clause-room c =
    let at = c.in-None.ensures ∙ ap (position (λ (v : AccountView). v.id == c.args.peer)) c.as_slice.ensures.value in
    subst (λ (v : LedgerView). HasDebtRoom v c.args.peer c.args.count) c.self.view_is (record { out_room = no_room c.self.inside c.args.peer at; debt_room = no_room c.self.inside c.args.peer at })
