use Rattle.peer_lists.specs.Trees.{tree_items}
use Rattle.slot_runs.specs.SlotRuns.{runs}
use Rattle.peer_lists.proofs.States.{slot_set}
use Rattle.peer_lists.proofs.entry_list.EntryList+E+E+Rest.set_slot.Goals as goal

pub returns-clause-items : goal.returns-clause-items
returns-clause-items g c =
    let t = c.args.self.now in
    slot_set g.E.Entry.key g.E.Entry.joined g.met.E.Entry.key_joined (tree_items g.E.Entry.key g.E.Entry.joined t.chunks) (runs t.slots) (runs c.put.new.self) c.args.number c.args.rest c.requires.list.chunks c.requires.list.slots.are c.put.ensures.kept.are c.put.ensures.rest c.requires.there
