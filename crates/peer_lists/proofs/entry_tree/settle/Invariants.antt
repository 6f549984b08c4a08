use Rattle.std.proofs.Common.{◌≡◌, ◌+◌, length}
use Rattle.peer_lists.specs.Trees.{items_of}
use Rattle.peer_lists.proofs.entry_tree.settle.Given as goal

abbrev pub invariant-loop : goal.invariant-loop
invariant-loop g l = record {
  items : items_of g.E.Entry.key g.E.Entry.joined l.tree.entries l.latest.items ≡ items_of g.E.Entry.key g.E.Entry.joined l.fn.tree.entries l.fn.latest.items;
  left : length l.latest.items + l.counter ≡ l.end;
}
