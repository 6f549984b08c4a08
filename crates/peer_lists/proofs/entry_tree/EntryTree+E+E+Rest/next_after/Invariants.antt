use Rattle.std.proofs.Common.{◌≡◌, take}
use Rattle.std.specs.Prelude.{find}
use Rattle.peer_lists.specs.Walks.{is_past}
use Rattle.peer_lists.specs.Trees.{items_of}
use Rattle.peer_lists.proofs.entry_tree.EntryTree+E+E+Rest.next_after.Given as goal

abbrev pub invariant-loop-entry : goal.invariant-loop-entry
invariant-loop-entry g l = l.next ≡ find (λ x. is_past l.place (g.E.Entry.key x)) (items_of g.E.Entry.key g.E.Entry.joined l.self.tree.entries (take l.entry-index l.entry-items))
