-- Rows that were added are at their start, where nothing was passed.
use Rattle.std.proofs.Common.{sym, subst}
use Rattle.next_deals.specs.Searches.{IsSearched}
use Rattle.next_deals.proofs.Searched.{none_searched, passed_same}
use Rattle.next_deals.proofs.planner.Planner.of.Goals as goal

pub invariant_of-result : goal.invariant_of-result
invariant_of-result c =
    let s = c.args.ledger.state in
    passed_same s c.new-searches.result.items c.add_rows.new.searches.items c.add_rows.ensures (subst (IsSearched s) (sym c.new-searches.ensures.items) (none_searched s))
