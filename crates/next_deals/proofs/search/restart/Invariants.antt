use Rattle.std.proofs.Common.{◌≡◌, ◌++◌, take, drop}
use Rattle.next_deals.specs.Searches.{all_restarted}
use Rattle.next_deals.proofs.search.restart.Given as goal

abbrev pub invariant-loop-i : goal.invariant-loop-i
invariant-loop-i l = l.searches ≡ all_restarted l.what (take l.i l.fn.searches) ++ drop l.i l.fn.searches
