use Rattle.std.proofs.Common.{◌++◌, ap, ◌∙◌}
use Rattle.peer_lists.specs.Entries.{in_order}
use Rattle.peer_lists.specs.Trees.{tree_items}
use Rattle.slot_runs.specs.SlotRuns.{runs}
use Rattle.peer_lists.specs.Slots.{slot_items}
use Rattle.peer_lists.specs.Chunks.{is_chunk}
use Rattle.psb_model.proofs.ByObject.{all_with_one}
use Rattle.peer_lists.proofs.Ordered.{in_order_with}
use Rattle.peer_lists.proofs.Tables.{table_of}
use Rattle.peer_lists.proofs.Both.{chunks, lacks_front, chunk_in}
use Rattle.peer_lists.proofs.entry_list.EntryList+E+E+Rest.insert_chunk.Goals as goal

pub returns-clause-list : goal.returns-clause-list
returns-clause-list g c =
    let key = g.E.Entry.key in
    let joined = g.E.Entry.joined in
    let t = c.args.self.now in
    let l = tree_items key joined t.chunks in
    let e = c.args.entry in
    record {
      ordered = ap (in_order key) c.insert.ensures.items ∙ in_order_with key e l c.requires.list.ordered (lacks_front key l (slot_items key joined (runs t.slots)) (key e) c.requires.absent);
      chunks = ap (chunks key) c.insert.ensures.items ∙ all_with_one key (λ x. is_chunk (key x)) e l c.requires.chunk c.requires.list.chunks;
      slots = c.requires.list.slots;
    }

pub returns-clause-items : goal.returns-clause-items
returns-clause-items g c =
    let key = g.E.Entry.key in
    let joined = g.E.Entry.joined in
    let t = c.args.self.now in
    let s = slot_items key joined (runs t.slots) in
    ap (λ l. l ++ s) c.insert.ensures.items ∙ chunk_in key c.args.entry (tree_items key joined t.chunks) s c.requires.chunk (table_of key joined g.met.E.Entry.key_joined (runs t.slots) c.requires.list.slots.are).slots
