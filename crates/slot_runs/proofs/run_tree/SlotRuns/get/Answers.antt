use Rattle.std.proofs.Common.{ap, ◌∙◌}
use Rattle.slot_runs.specs.Runs.{rest_in}
use Rattle.slot_runs.specs.SlotRuns.{tree_runs}
use Rattle.slot_runs.proofs.Slots.{got_some, got_none}
use Rattle.slot_runs.proofs.run_tree.SlotRuns.get.Goals as goal

pub returns-in-Some : goal.returns-in-Some
returns-in-Some g c = got_some (tree_runs c.args.self.now) c.args.self.now.latest.items c.args.number c.in-Some.run' c.in-Some.ensures.run

pub returns-in-None : goal.returns-in-None
returns-in-None g c = c.rest_in.ensures ∙ ap (λ l. rest_in l c.args.number) c.as_slice.ensures.value ∙ got_none (tree_runs c.args.self.now) c.args.self.now.latest.items c.args.number c.in-None.ensures.run
