use Rattle.peer_lists.specs.Trees.{tree_items}
use Rattle.slot_runs.specs.SlotRuns.{runs}
use Rattle.slot_runs.proofs.Longest.{longest_as}
use Rattle.peer_lists.proofs.Both.{each_in}
use Rattle.peer_lists.proofs.entry_list.EntryList+E+E+Rest.insert_slots.Goals as goal

pub returns-clause-list : goal.returns-clause-list
returns-clause-list g c =
    let key = g.E.Entry.key in
    let joined = g.E.Entry.joined in
    let t = c.args.self.now in
    record {
      ordered = c.requires.list.ordered;
      chunks = c.requires.list.chunks;
      slots = record { are = (each_in key joined g.met.E.Entry.key_joined (tree_items key joined t.chunks) (runs t.slots) (runs c.add_each.new.self) c.args.rest c.args.numbers.now c.requires.list.chunks c.requires.list.slots.are c.requires.ascend c.add_each.ensures.small c.requires.absent c.add_each.ensures.runs).0; longest = longest_as t.slots c.add_each.new.self c.add_each.ensures.tree c.requires.list.slots.longest };
    }

pub returns-clause-items : goal.returns-clause-items
returns-clause-items g c =
    let key = g.E.Entry.key in
    let joined = g.E.Entry.joined in
    let t = c.args.self.now in
    (each_in key joined g.met.E.Entry.key_joined (tree_items key joined t.chunks) (runs t.slots) (runs c.add_each.new.self) c.args.rest c.args.numbers.now c.requires.list.chunks c.requires.list.slots.are c.requires.ascend c.add_each.ensures.small c.requires.absent c.add_each.ensures.runs).1
