-- The name leaves the tree, or it is that of the newest.
use Rattle.std.proofs.Common.{◌∙◌, ap}
use Rattle.own_deals.proofs.NameOrder.{by_name}
use Rattle.own_chunks.proofs.OwnTrees.{out_of_own}
use Rattle.own_chunks.specs.OwnTree.{OwnView}
use Rattle.peer_lists.specs.Entries.{in_order}
use Rattle.own_chunks.specs.OwnList.{own_key, without_name}
use Rattle.own_chunks.proofs.own.Own.remove.Goals as goal

pub returns : goal.returns
returns c =
    let t = c.self.inside in
    let ordered = ap (λ (v : OwnView). in_order own_key v.items) c.self.view_is ∙ c.requires in
    out_of_own _ by_name c.args.name.now t.tree.entries c.remove.new.self.entries t.latest c.if_other-self-inside.result ordered c.remove.ensures.entries c.if_other-self-inside.ensures
    ∙ ap (λ (v : OwnView). without_name c.args.name.now v.items) c.self.view_is
