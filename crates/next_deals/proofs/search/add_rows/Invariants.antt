use Rattle.std.proofs.Common.{◌≡◌, ℕ}
use Rattle.next_deals.specs.Searches.{search_in}
use Rattle.next_deals.proofs.search.add_rows.Given as goal

abbrev pub invariant-loop-i : goal.invariant-loop-i
invariant-loop-i l = (q : ℕ) → search_in l.searches.items q ≡ search_in l.fn.searches.items q
