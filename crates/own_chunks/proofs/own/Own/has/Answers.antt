-- The name is in the tree, or it is that of the newest.
use Rattle.std.proofs.Common.{◌∙◌, ◌||◌, sym, ap}
use Rattle.own_chunks.specs.OwnList.{is_newest}
use Rattle.own_deals.proofs.NameOrder.{by_name}
use Rattle.own_chunks.proofs.OwnTrees.{tree_has_own}
use Rattle.own_chunks.specs.OwnTree.{OwnView}
use Rattle.psb_model.specs.State.{own_has}
use Rattle.own_chunks.proofs.own.Own.has.Goals as goal

pub returns-then-in_tree : goal.returns-then-in_tree
returns-then-in_tree c =
    let t = c.self.inside in
    let k = c.if-in_tree.true in
    k ∙ ap (λ b. b || is_newest t.latest c.args.name.now) (sym k ∙ c.contains_key-in_tree.ensures) ∙ tree_has_own _ by_name t.latest t.tree.entries c.args.name.now ∙ ap (λ (v : OwnView). own_has v.items c.args.name.now) c.self.view_is

pub returns-else-in_tree : goal.returns-else-in_tree
returns-else-in_tree c =
    let t = c.self.inside in
    let k = c.if-in_tree.false in
    c.is_newest.ensures ∙ ap (λ b. b || is_newest t.latest c.args.name.now) (sym k ∙ c.contains_key-in_tree.ensures) ∙ tree_has_own _ by_name t.latest t.tree.entries c.args.name.now ∙ ap (λ (v : OwnView). own_has v.items c.args.name.now) c.self.view_is
