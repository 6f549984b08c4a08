use Rattle.std.proofs.Common.{Some, sym, ap, ◌∙◌}
use Rattle.std.specs.Prelude.{option_map}
use Rattle.psb_bytes.specs.declared.ids.Object.TheVariants.{Slot}
use Rattle.peer_lists.specs.Entries.{find_at}
use Rattle.peer_lists.specs.Trees.{tree_items}
use Rattle.slot_runs.specs.SlotRuns.{runs}
use Rattle.peer_lists.specs.Slots.{slot_items}
use Rattle.peer_lists.specs.EntryLists.{items}
use Rattle.peer_lists.proofs.Tables.{table_of}
use Rattle.peer_lists.proofs.Both.{chunk_found, slot_found}
use Rattle.peer_lists.proofs.entry_list.EntryList+E+E+Rest.get.Goals as goal

pub returns-in-Chunk : goal.returns-in-Chunk
returns-in-Chunk g c =
    let key = g.E.Entry.key in
    let joined = g.E.Entry.joined in
    let t = c.args.self.now in
    let table = table_of key joined g.met.E.Entry.key_joined (runs t.slots) c.requires.slots.are in
    c.get.ensures ∙ ap (find_at key (tree_items key joined t.chunks)) c.in-Chunk.is
    ∙ chunk_found key (tree_items key joined t.chunks) (slot_items key joined (runs t.slots)) c.in-Chunk.field-0 table.slots
    ∙ ap (find_at key (items key joined t)) (sym c.in-Chunk.is)

pub returns-in-None : goal.returns-in-None
returns-in-None g c =
    let key = g.E.Entry.key in
    let joined = g.E.Entry.joined in
    let t = c.args.self.now in
    let n = c.in-Slot.number in
    let table = table_of key joined g.met.E.Entry.key_joined (runs t.slots) c.requires.slots.are in
    ap (option_map (joined (Slot n))) c.in-None.ensures ∙ sym (table.at n)
    ∙ slot_found key (tree_items key joined t.chunks) (slot_items key joined (runs t.slots)) n c.requires.chunks
    ∙ ap (find_at key (items key joined t)) (sym c.in-Slot.is)

pub returns-in-Some : goal.returns-in-Some
returns-in-Some g c =
    let key = g.E.Entry.key in
    let joined = g.E.Entry.joined in
    let t = c.args.self.now in
    let n = c.in-Slot.number in
    let table = table_of key joined g.met.E.Entry.key_joined (runs t.slots) c.requires.slots.are in
    ap (λ e. Some e) c.join.ensures ∙ ap (λ o. Some (joined o c.in-Some.rest)) c.in-Slot.is
    ∙ ap (option_map (joined (Slot n))) c.in-Some.ensures ∙ sym (table.at n)
    ∙ slot_found key (tree_items key joined t.chunks) (slot_items key joined (runs t.slots)) n c.requires.chunks
    ∙ ap (find_at key (items key joined t)) (sym c.in-Slot.is)
