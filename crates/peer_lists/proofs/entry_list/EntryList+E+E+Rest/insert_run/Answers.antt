use Rattle.std.proofs.Common.{arith}
use Rattle.peer_lists.specs.Trees.{tree_items}
use Rattle.slot_runs.specs.SlotRuns.{runs}
use Rattle.slot_runs.proofs.Longest.{longest_as}
use Rattle.peer_lists.proofs.Both.{run_in}
use Rattle.peer_lists.proofs.entry_list.EntryList+E+E+Rest.insert_run.Goals as goal

pub returns-then-count-gt0-clause-list : goal.returns-then-count-gt0-clause-list
returns-then-count-gt0-clause-list g c =
    let key = g.E.Entry.key in
    let joined = g.E.Entry.joined in
    let t = c.args.self.now in
    record {
      ordered = c.requires.list.ordered;
      chunks = c.requires.list.chunks;
      slots = record { are = (run_in key joined g.met.E.Entry.key_joined (tree_items key joined t.chunks) (runs t.slots) (runs c.add.new.self) c.args.rest c.args.first c.args.count c.requires.list.chunks c.requires.list.slots.are (omega arith) c.requires.numbers c.requires.absent c.add.ensures.runs).0; longest = longest_as t.slots c.add.new.self c.add.ensures.tree c.requires.list.slots.longest };
    }

pub returns-then-count-gt0-clause-items : goal.returns-then-count-gt0-clause-items
returns-then-count-gt0-clause-items g c =
    let key = g.E.Entry.key in
    let joined = g.E.Entry.joined in
    let t = c.args.self.now in
    (run_in key joined g.met.E.Entry.key_joined (tree_items key joined t.chunks) (runs t.slots) (runs c.add.new.self) c.args.rest c.args.first c.args.count c.requires.list.chunks c.requires.list.slots.are (omega arith) c.requires.numbers c.requires.absent c.add.ensures.runs).1
