use Rattle.std.proofs.Common.{◌≡◌, true, false, sym, ◌∙◌}
use Rattle.slot_runs.specs.Runs.{covers}
use Rattle.slot_runs.proofs.Slots.{in_tree_is}
use Rattle.slot_runs.proofs.run_tree.SlotRuns.in_tree.Goals as goal

pub returns-in_err-run-clause-run : goal.returns-in_err-run-clause-run
returns-in_err-run-clause-run g c = c.from_residual.ensures ∙ in_tree_is c.args.self.now c.args.number _ c.requires c.in_err-run.ensures.ordered c.in_err-run.ensures.run

pub returns-then-covers-clause-run : goal.returns-then-covers-clause-run
returns-then-covers-clause-run g c = let yes : covers c.in_ok-run.run' c.args.number ≡ true = sym c.covers.ensures ∙ c.if-covers.true in let e = in_tree_is c.args.self.now c.args.number _ c.requires c.in_ok-run.ensures.ordered c.in_ok-run.ensures.run in let e' = rw yes at e in e'

pub returns-else-covers-clause-run : goal.returns-else-covers-clause-run
returns-else-covers-clause-run g c = let no' : covers c.in_ok-run.run' c.args.number ≡ false = sym c.covers.ensures ∙ c.if-covers.false in let e = in_tree_is c.args.self.now c.args.number _ c.requires c.in_ok-run.ensures.ordered c.in_ok-run.ensures.run in let e' = rw no' at e in e'
