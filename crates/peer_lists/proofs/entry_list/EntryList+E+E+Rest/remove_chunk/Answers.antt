use Rattle.std.proofs.Common.{◌∷◌, [], ◌++◌, not, ap, ◌∙◌}
use Rattle.psb_model.specs.Words.{listed}
use Rattle.peer_lists.specs.Entries.{in_order}
use Rattle.peer_lists.specs.Trees.{tree_items}
use Rattle.slot_runs.specs.SlotRuns.{runs}
use Rattle.peer_lists.specs.Slots.{slot_items}
use Rattle.peer_lists.specs.Chunks.{is_chunk}
use Rattle.psb_model.proofs.ByObject.{all_kept}
use Rattle.peer_lists.proofs.Ordered.{in_order_kept}
use Rattle.peer_lists.proofs.Tables.{table_of}
use Rattle.peer_lists.proofs.Both.{chunks, chunk_out}
use Rattle.peer_lists.proofs.entry_list.EntryList+E+E+Rest.remove_chunk.Goals as goal

pub returns-clause-list : goal.returns-clause-list
returns-clause-list g c =
    let key = g.E.Entry.key in
    let joined = g.E.Entry.joined in
    let l = tree_items key joined c.args.self.now.chunks in
    let o = c.args.chunk.now in
    record {
      ordered = ap (in_order key) c.remove.ensures.items ∙ in_order_kept key (λ e. not (listed (o ∷ []) (key e))) l c.requires.list.ordered;
      chunks = ap (chunks key) c.remove.ensures.items ∙ all_kept (λ x. is_chunk (key x)) (λ e. not (listed (o ∷ []) (key e))) l c.requires.list.chunks;
      slots = c.requires.list.slots;
    }

pub returns-clause-items : goal.returns-clause-items
returns-clause-items g c =
    let key = g.E.Entry.key in
    let joined = g.E.Entry.joined in
    let t = c.args.self.now in
    let s = slot_items key joined (runs t.slots) in
    ap (λ l. l ++ s) c.remove.ensures.items ∙ chunk_out key c.args.chunk.now (tree_items key joined t.chunks) s c.requires.chunk (table_of key joined g.met.E.Entry.key_joined (runs t.slots) c.requires.list.slots.are).slots
