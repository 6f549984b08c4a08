-- The tree has the length, or the newest has it.
use Rattle.std.proofs.Common.{◌∙◌, rules, ap}
use Rattle.own_deals.proofs.NameOrder.{by_name}
use Rattle.own_chunks.proofs.OwnTrees.{len_in_tree, len_of_newest}
use Rattle.own_chunks.specs.OwnTree.{OwnView}
use Rattle.peer_lists.specs.Entries.{in_order}
use Rattle.own_chunks.specs.OwnList.{own_key, known_len}
use Rattle.own_chunks.proofs.own.Own.len_of.Goals as goal

pub returns-in-Some : goal.returns-in-Some
returns-in-Some c =
    let t = c.self.inside in
    let ordered = ap (λ (v : OwnView). in_order own_key v.items) c.self.view_is ∙ c.requires in
    len_in_tree _ by_name t.latest t.tree.entries c.args.name.now c.in-Some.chunk.now (search rules) ordered ∙ ap (λ (v : OwnView). known_len v.items c.args.name.now) c.self.view_is

pub returns-in-None : goal.returns-in-None
returns-in-None c =
    let t = c.self.inside in
    let ordered = ap (λ (v : OwnView). in_order own_key v.items) c.self.view_is ∙ c.requires in
    c.newest_len.ensures ∙ len_of_newest _ by_name t.latest t.tree.entries c.args.name.now (search rules) ordered ∙ ap (λ (v : OwnView). known_len v.items c.args.name.now) c.self.view_is
