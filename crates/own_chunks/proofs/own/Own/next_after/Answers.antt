use Rattle.std.proofs.Common.{map, ◌∙◌, ap}
use Rattle.std.specs.Option.{option_map}
use Rattle.own_chunks.specs.OwnList.{own_entry, nearer, next_own}
use Rattle.own_chunks.proofs.OwnTrees.{nearer_first}
use Rattle.own_chunks.specs.OwnTree.{OwnView}
use Rattle.own_chunks.proofs.own.Own.next_after.Goals as goal

pub returns : goal.returns
returns c =
    let t = c.self.inside in
    c.nearer.ensures ∙ (λ i. nearer (c.next_in_tree.ensures i) (c.if_behind.ensures i)) ∙ nearer_first (option_map (λ n. n.now) c.args.name) t.latest (map own_entry t.tree.entries)
    ∙ ap (λ (v : OwnView). next_own (option_map (λ n. n.now) c.args.name) v.items) c.self.view_is
