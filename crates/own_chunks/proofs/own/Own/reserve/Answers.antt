-- The newest goes to its place in the order.
use Rattle.std.proofs.Common.{◌∙◌, ap}
use Rattle.own_deals.proofs.NameOrder.{by_name}
use Rattle.own_chunks.proofs.OwnTrees.{newest_put}
use Rattle.own_chunks.specs.OwnTree.{OwnView}
use Rattle.peer_lists.specs.Entries.{in_order}
use Rattle.own_chunks.specs.OwnList.{own_key}
use Rattle.own_chunks.proofs.own.Own.reserve.Goals as goal

pub returns-in_ok-insert-clause-items : goal.returns-in_ok-insert-clause-items
returns-in_ok-insert-clause-items c =
    let t = c.self.inside in
    let ordered = ap (λ (v : OwnView). in_order own_key v.items) c.self.view_is ∙ c.requires in
    newest_put _ by_name t.tree.entries c.insert.new.self.entries t.latest c.in-Some.chunk c.in-Some.is ordered c.in_ok-insert.ensures.entries
    ∙ ap (λ (v : OwnView). v.items) c.self.view_is
