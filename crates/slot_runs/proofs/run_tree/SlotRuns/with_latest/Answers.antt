-- The latest run leaves the list beside the tree.
use Rattle.slot_runs.specs.SlotRuns.{tree_runs}
use Rattle.slot_runs.proofs.Cuts.{latest_joined}
use Rattle.slot_runs.proofs.run_tree.SlotRuns.with_latest.Goals as goal

pub returns-then-is_followed-clause-runs : goal.returns-then-is_followed-clause-runs
returns-then-is_followed-clause-runs g c =
    let follows = c.is_followed.ensures c.if-is_followed.true in
    (latest_joined (tree_runs c.args.self.now) c.args.self.now.latest.items c.pop.new.self.items c.in-Some.latest c.args.run c.joined.result c.requires c.in-Some.ensures.items follows.0 follows.1 c.joined.ensures).are

pub returns-then-is_followed-clause-rest : goal.returns-then-is_followed-clause-rest
returns-then-is_followed-clause-rest g c =
    let follows = c.is_followed.ensures c.if-is_followed.true in
    (latest_joined (tree_runs c.args.self.now) c.args.self.now.latest.items c.pop.new.self.items c.in-Some.latest c.args.run c.joined.result c.requires c.in-Some.ensures.items follows.0 follows.1 c.joined.ensures).rest
