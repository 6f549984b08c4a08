-- The first of the latest goes to its place in the order.
use Rattle.std.proofs.Common.{◌∙◌, ap, arith}
use Rattle.peer_lists.specs.Entries.{in_order}
use Rattle.peer_lists.proofs.Trees.{by_object, settled_first}
use Rattle.peer_lists.proofs.entry_tree.settle.Goals as goal

pub loop-preserved : goal.loop-preserved
loop-preserved g c =
    let before = c.loop in
    let ordered = ap (in_order g.E.Entry.key) before.invariant.items ∙ c.requires in record {
      items = settled_first g.E.Entry.key g.E.Entry.joined g.met.E.Entry.key_joined _ by_object before.tree.entries c.insert.new.self.entries before.latest.items c.remove.new.self.items c.index.result.now c.object.result.now c.rest.result (omega (arith, c.loop-test.true, before.invariant.left)) c.index.ensures c.object.ensures c.rest.ensures ordered c.in_ok-insert.ensures.entries c.remove.ensures.items ∙ before.invariant.items;
      left = omega (arith, c.remove.ensures.len, before.invariant.left);
    }
