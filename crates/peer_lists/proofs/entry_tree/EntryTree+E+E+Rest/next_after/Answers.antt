use Rattle.peer_lists.proofs.Walks.{latest_more}
use Rattle.peer_lists.proofs.entry_tree.EntryTree+E+E+Rest.next_after.Goals as goal

pub loop-entry-preserved : goal.loop-entry-preserved
loop-entry-preserved g c = latest_more g.E.Entry.key g.E.Entry.joined c.args.place.now c.args.self.now.tree.entries c.args.self.now.latest.items c.as_slice-entry-items.result.now c.loop-entry.entry-index c.loop-entry.next c.nearer-next.result c.if_past.result c.entry-item.result c.as_slice-entry-items.ensures.value c.loop-entry-test.true c.entry-item.is c.loop-entry.invariant c.if_past.ensures c.nearer-next.ensures
