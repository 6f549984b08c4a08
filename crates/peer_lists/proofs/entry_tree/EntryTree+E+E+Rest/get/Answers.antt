-- The entry is in the tree, or it is one of the latest.
use Rattle.std.proofs.Common.{◌≡◌, Some, None, ◌∙◌, sym, ap}
use Rattle.std.specs.Option.{option_map}
use Rattle.peer_lists.specs.Entries.{find_at}
use Rattle.peer_lists.proofs.Found.{found_below, found_beside}
use Rattle.peer_lists.proofs.Trees.{by_object, looked_up, joins}
use Rattle.peer_lists.proofs.entry_tree.EntryTree+E+E+Rest.get.Goals as goal

pub returns-in-Some : goal.returns-in-Some
returns-in-Some g c =
    let key = g.E.Entry.key in
    let joined = g.E.Entry.joined in
    let t = c.args.self.now in
    let o = c.args.object.now in
    let entry = joined o c.in-Some.rest.now in
    let found : find_at key (joins joined t.tree.entries) o ≡ Some entry = looked_up key joined g.met.E.Entry.key_joined _ by_object t.tree.entries o ∙ ap (option_map (joined o)) (sym c.in-Some.ensures.value) in
    ap (λ e. Some e) c.join.ensures ∙ found_below key t.latest.items (joins joined t.tree.entries) o entry c.requires found

pub returns-in-None : goal.returns-in-None
returns-in-None g c =
    let key = g.E.Entry.key in
    let joined = g.E.Entry.joined in
    let t = c.args.self.now in
    let o = c.args.object.now in
    let none : find_at key (joins joined t.tree.entries) o ≡ None = looked_up key joined g.met.E.Entry.key_joined _ by_object t.tree.entries o ∙ ap (option_map (joined o)) (sym c.in-None.ensures.value) in
    c.copied.ensures ∙ c.waiting.ensures ∙ ap (λ l. find_at key l o) c.as_slice.ensures.value ∙ found_beside key t.latest.items (joins joined t.tree.entries) o c.requires none
