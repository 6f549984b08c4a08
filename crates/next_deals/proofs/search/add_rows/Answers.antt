-- One row more, at its start.
use Rattle.std.proofs.Common.{◌≡◌, ◌++◌, ◌∷◌, [], ◌∙◌, List, ap, rules}
use Rattle.next_deals.specs.declared.search.Search.{Search}
use Rattle.next_deals.specs.Searches.{at_start, search_in}
use Rattle.next_deals.proofs.Searched.{row_added}
use Rattle.next_deals.proofs.search.add_rows.Goals as goal

pub loop-i-preserved : goal.loop-i-preserved
loop-i-preserved c = λ q.
    let grown : c.push.new.self.items ≡ c.loop-i.searches.items ++ at_start c.index-peers-i.result.id ∷ [] = search rules in
    ap (λ (l : List Search). search_in l q) grown ∙ row_added c.loop-i.searches.items c.index-peers-i.result.id q ∙ c.loop-i.invariant q
