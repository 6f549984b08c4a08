use Rattle.std.proofs.Common.{◌∙◌, ap}
use Rattle.slot_runs.specs.Runs.{from_number, nearer}
use Rattle.slot_runs.proofs.Nexts.{walk_begins, walk_goes_on, walk_ends}
use Rattle.slot_runs.proofs.run_tree.SlotRuns.next.Goals as goal

pub loop-run-init : goal.loop-run-init
loop-run-init g c = walk_begins c.args.self.now c.as_slice-run-items.result.now c.args.number c.from_number-next.result c.requires c.next_in_tree.ensures.ordered (c.from_number-next.ensures ∙ ap (from_number c.args.number) c.next_in_tree.ensures.run)

pub loop-run-preserved : goal.loop-run-preserved
loop-run-preserved g c = walk_goes_on c.args.self.now c.as_slice-run-items.result.now c.args.number c.loop-run.run-index c.loop-run.next c.nearer-next.result c.run-item.result c.requires c.as_slice-run-items.ensures.value c.loop-run-test.true c.run-item.is c.loop-run.invariant (c.nearer-next.ensures ∙ ap (nearer c.loop-run.next) c.from_number.ensures)

pub returns : goal.returns
returns g c = walk_ends c.args.self.now c.as_slice-run-items.result.now c.args.number c.loop-run.run-index c.loop-run.next c.as_slice-run-items.ensures.value c.loop-run-test.false c.loop-run.invariant
