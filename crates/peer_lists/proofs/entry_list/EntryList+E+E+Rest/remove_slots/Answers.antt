use Rattle.psb_model.specs.Words.{slots}
use Rattle.peer_lists.specs.Trees.{tree_items}
use Rattle.slot_runs.specs.SlotRuns.{runs}
use Rattle.peer_lists.specs.Slots.{slot_items}
use Rattle.peer_lists.proofs.Tables.{gone_slots}
use Rattle.peer_lists.proofs.Both.{slots_out}
use Rattle.peer_lists.proofs.entry_list.EntryList+E+E+Rest.remove_slots.Goals as goal

pub returns-clause-items : goal.returns-clause-items
returns-clause-items g c =
    let key = g.E.Entry.key in
    let joined = g.E.Entry.joined in
    let t = c.args.self.now in
    let ns = c.args.numbers.now in
    slots_out key ns (tree_items key joined t.chunks) (slot_items key joined (runs t.slots)) (slot_items key joined (runs c.remove_each.new.self)) c.requires.list.chunks
    (gone_slots key joined g.met.E.Entry.key_joined (runs t.slots) (runs c.remove_each.new.self) (slots ns) c.requires.list.slots.are c.remove_each.ensures.kept.are c.remove_each.ensures.rest)
