-- As much of the debt is used up as leaves.
use Rattle.std.proofs.Common.{◌≤◌, sum_by, ap, arith}
use Rattle.psb_model.specs.State.{debt_size, debt_units}
use Rattle.psb_model.proofs.Parts.{sum-use_up}
use Rattle.peer_account.specs.View.{AccountView}
use Rattle.peer_account.proofs.account.Account.discard.Goals as goal

pub invariant_of-self : goal.invariant_of-self
invariant_of-self c =
    let debts = c.self.inside.debts.items in
    let units = c.take_out_all-units.result in
    let owed : units ≤ sum_by debt_size debts = omega (arith, c.take_out_all-units.ensures.units, c.requires.owed, ap (λ (v : AccountView). debt_units v.row) c.self.view_is, ap debt_units c.take_out_all-units.ensures.row) in
    record {
      held_is = c.self.invariant.held_is;
      back_is = c.self.invariant.back_is;
      debt_is = omega (arith, c.self.invariant.debt_is, ap (sum_by debt_size) c.use_up.ensures.items, sum-use_up units debts owed);
    }
