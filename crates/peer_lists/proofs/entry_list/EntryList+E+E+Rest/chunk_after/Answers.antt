use Rattle.std.proofs.Common.{◌∙◌}
use Rattle.peer_lists.specs.Trees.{tree_items}
use Rattle.slot_runs.specs.SlotRuns.{runs}
use Rattle.peer_lists.specs.Slots.{slot_items}
use Rattle.peer_lists.proofs.Tables.{table_of}
use Rattle.peer_lists.proofs.Walks.{chunks_first}
use Rattle.peer_lists.proofs.entry_list.EntryList+E+E+Rest.chunk_after.Goals as goal

pub returns : goal.returns
returns g c =
    let key = g.E.Entry.key in
    let joined = g.E.Entry.joined in
    let t = c.args.self.now in
    c.next_after.ensures ∙ chunks_first key c.args.place.now (tree_items key joined t.chunks) (slot_items key joined (runs t.slots)) c.requires.chunks (table_of key joined g.met.E.Entry.key_joined (runs t.slots) c.requires.slots.are).slots
