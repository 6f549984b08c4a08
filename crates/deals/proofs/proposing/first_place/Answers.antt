use Rattle.std.proofs.Common.{rules, ap, subst, ◌∙◌, None, Some}
use Rattle.psb_ledger.specs.View.{LedgerView, IsReached}
use Rattle.deals.proofs.Placing.{placed_by}
use Rattle.deals.proofs.proposing.first_place.Goals as goal

pub returns-in-None : goal.returns-in-None
returns-in-None c =
    placed_by c.args.planner.now.state c.args.peer c.args.probed.now c.args.capacity c.in_ok-slots.slots c.most_units-most.result None (subst (λ (v : LedgerView). IsReached v.state) c.ledger.ensures c.is_reached.ensures)
    (search rules) (search rules) (search rules)

pub returns : goal.returns
returns c =
    ap Some (search rules)
    ∙ placed_by c.args.planner.now.state c.args.peer c.args.probed.now c.args.capacity c.in_ok-slots.slots c.most_units-most.result (Some c.in-Some.chunk) (subst (λ (v : LedgerView). IsReached v.state) c.ledger.ensures c.is_reached.ensures)
    (search rules) (search rules) (search rules)
