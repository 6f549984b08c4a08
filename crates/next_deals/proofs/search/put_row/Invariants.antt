use Rattle.std.proofs.Common.{◌≡◌, ◌++◌, map, take, drop}
use Rattle.next_deals.specs.Searches.{with_row}
use Rattle.next_deals.proofs.search.put_row.Given as goal

abbrev pub invariant-loop-i : goal.invariant-loop-i
invariant-loop-i l = l.searches ≡ map (with_row l.row) (take l.i l.fn.searches) ++ drop l.i l.fn.searches
