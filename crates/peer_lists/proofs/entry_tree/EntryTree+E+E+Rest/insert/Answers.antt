-- The entry waits behind the latest.
use Rattle.std.proofs.Common.{◌∷◌, [], ◌∙◌, ap}
use Rattle.peer_lists.specs.Trees.{items_of}
use Rattle.peer_lists.proofs.Trees.{with_more, joins}
use Rattle.peer_lists.proofs.entry_tree.EntryTree+E+E+Rest.insert.Goals as goal

pub returns-clause-items : goal.returns-clause-items
returns-clause-items g c =
    let key = g.E.Entry.key in
    let joined = g.E.Entry.joined in
    let t = c.args.self.now in
    let put = rw c.unwrap.ensures at c.push.ensures.items in
    ap (items_of key joined t.tree.entries) put ∙ with_more key t.latest.items (c.args.entry ∷ []) (joins joined t.tree.entries)
