-- A state that a history gives balances.
use Rattle.std.proofs.Common.{ap, ◌∙◌, sym, arith}
use Rattle.psb_model.specs.State.{row, held_units, back_units, debt_units}
use Rattle.psb_ledger.specs.View.{LedgerView}
use Rattle.psb_ledger.proofs.Sound.{state_of, good_of}
use Rattle.psb_ledger.proofs.ledger.Ledger.balance.Goals as goal

pub returns-clause-law : goal.returns-clause-law
returns-clause-law c =
    let s = state_of c.self.inside in
    let same = c.row-row.ensures ∙ ap (λ (v : LedgerView). row v.state c.args.peer) (sym c.self.view_is) in
    omega (arith, ((good_of s c.self.invariant.sound.reached).rows c.args.peer).tidy.balanced, c.held.ensures, c.back.ensures, c.debt.ensures, ap held_units same, ap back_units same, ap debt_units same)
