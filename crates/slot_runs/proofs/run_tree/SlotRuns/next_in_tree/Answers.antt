use Rattle.std.proofs.Common.{sym, ap, ◌∙◌}
use Rattle.slot_runs.proofs.TreeRuns.{first_run, find_between}
use Rattle.slot_runs.proofs.run_tree.SlotRuns.next_in_tree.Goals as goal

pub returns-in_err-last-clause-run : goal.returns-in_err-last-clause-run
returns-in_err-last-clause-run g c = c.from_residual.ensures ∙ ap first_run (sym c.in_err-last.ensures.steps.0 ∙ c.range.ensures.between tt) ∙ find_between c.args.number c.args.self.now.tree.entries

pub returns-clause-run : goal.returns-clause-run
returns-clause-run g c = ap first_run (sym c.in_ok-last.ensures.steps ∙ c.range.ensures.between tt) ∙ find_between c.args.number c.args.self.now.tree.entries
