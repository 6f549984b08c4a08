-- The run leaves the list beside the tree, and its parts come behind the others.
use Rattle.std.proofs.Common.{sym, ◌∙◌}
use Rattle.slot_runs.specs.SlotRuns.{runs, tree_runs}
use Rattle.slot_runs.proofs.Longest.{longest_as}
use Rattle.slot_runs.proofs.Cuts.{cut_beside, none_beside}
use Rattle.slot_runs.proofs.run_tree.SlotRuns.cut_beside.Goals as goal

pub returns-in-Some-clause-kept : goal.returns-in-Some-clause-kept
returns-in-Some-clause-kept g c =
    let s = c.args.self.now in
    record {
      are = (cut_beside (tree_runs s) s.latest.items c.take_from.new.runs.items (runs c.add_some.new.self) (runs c.add_some-in-Some.new.self) _ _ c.args.number c.in-Some.run' c.requires.kept.are (sym c.requires.none) c.in-Some.ensures.run c.in-Some.ensures.left c.add_some.ensures.runs c.add_some-in-Some.ensures.runs c.in_front.ensures c.behind.ensures).are;
      longest = longest_as s c.add_some-in-Some.new.self (c.add_some-in-Some.ensures.tree ∙ c.add_some.ensures.tree) c.requires.kept.longest;
    }

pub returns-in-Some-clause-rest : goal.returns-in-Some-clause-rest
returns-in-Some-clause-rest g c =
    let s = c.args.self.now in
    (cut_beside (tree_runs s) s.latest.items c.take_from.new.runs.items (runs c.add_some.new.self) (runs c.add_some-in-Some.new.self) _ _ c.args.number c.in-Some.run' c.requires.kept.are (sym c.requires.none) c.in-Some.ensures.run c.in-Some.ensures.left c.add_some.ensures.runs c.add_some-in-Some.ensures.runs c.in_front.ensures c.behind.ensures).rest

pub returns-in_default-clause-kept : goal.returns-in_default-clause-kept
returns-in_default-clause-kept g c =
    let s = c.args.self.now in
    record {
      are = (none_beside (tree_runs s) s.latest.items c.take_from.new.runs.items c.args.number c.requires.kept.are (sym c.requires.none) c.in_default.ensures.run c.in_default.ensures.left).are;
      longest = c.requires.kept.longest;
    }

pub returns-in_default-clause-rest : goal.returns-in_default-clause-rest
returns-in_default-clause-rest g c =
    let s = c.args.self.now in
    (none_beside (tree_runs s) s.latest.items c.take_from.new.runs.items c.args.number c.requires.kept.are (sym c.requires.none) c.in_default.ensures.run c.in_default.ensures.left).rest
