-- The entry leaves the tree and the latest.
use Rattle.std.proofs.Common.{◌≡◌, not, ◌∷◌, [], ◌∙◌, ap, filter, rules}
use Rattle.std.proofs.lemmas.Fn.{filter_same}
use Rattle.psb_model.specs.Words.{object_eq, without}
use Rattle.peer_lists.proofs.Ordered.{in_order_but_all}
use Rattle.peer_lists.proofs.Trees.{by_object, out_of_tree, out_of_both, others_stay, joins}
use Rattle.peer_lists.proofs.entry_tree.EntryTree+E+E+Rest.remove.Goals as goal

pub returns-clause-items : goal.returns-clause-items
returns-clause-items g c =
    let key = g.E.Entry.key in
    let joined = g.E.Entry.joined in
    let t = c.args.self.now in
    let o = c.args.object.now in
    let l = joins joined t.tree.entries in
    let tree : joins joined c.remove.new.self.entries ≡ without key (o ∷ []) l = ap (joins joined) c.remove.ensures.entries ∙ out_of_tree key joined g.met.E.Entry.key_joined _ by_object t.tree.entries o (in_order_but_all key t.latest.items l c.requires) in
    let kept : c.retain.new.self.items ≡ filter (λ e. not (object_eq (key e) o)) t.latest.items = filter_same _ (λ e. not (object_eq (key e) o)) _ (λ x b f' k. search rules) t.latest.items c.retain.new.self.items c.retain.ensures.filtered in
    out_of_both key (o ∷ []) l (joins joined c.remove.new.self.entries) t.latest.items c.retain.new.self.items c.requires tree (kept ∙ others_stay key o t.latest.items)
