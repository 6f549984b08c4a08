-- What each kind of deal needs room for.
use Rattle.std.proofs.Common.{◌≡◌, ◌+◌, ap, ◌∙◌, rules}
use Rattle.psb_model.specs.State.{Row}
use Rattle.accounts.proofs.Places.{on_ok_both}
use Rattle.psb_ledger.proofs.Rooms.{for_forward}
use Rattle.psb_ledger.proofs.ledger.Ledger.make_room_for_states.Goals as goal

pub returns-in_ok-count-in-Forward-clause-room : goal.returns-in_ok-count-in-Forward-clause-room
returns-in_ok-count-in-Forward-clause-room c =
    let pending = c.in-Some.ensures ∙ ap (λ (y : Row). y.pending) c.row-row.ensures in
    let more : c.in_ok-count-in-Forward.count ≡ c.args.ins + 2 = search rules in
    on_ok_both c.make_room_to_hold.result _ _ _ (λ lists room old. for_forward c.args.self.now c.make_room_to_hold.new.self c.args.peer c.args.ins c.in_ok-count-in-Forward.count c.in-Some.deal.now c.in-Forward.slot c.in-Forward.entry pending c.in-Forward.is c.make_room_to_hold.ensures.state more lists room old)
    c.make_room_to_hold.ensures.lists c.make_room_to_hold.ensures.room
