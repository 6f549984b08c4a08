-- Behind the place to which the search came stands what is looked for.
use Rattle.std.proofs.Common.{◌≡◌, ◌∙◌, rules}
use Rattle.own_chunks.specs.OwnList.{next_own}
use Rattle.next_deals.proofs.Reaching.{found_own}
use Rattle.next_deals.proofs.seeking.to_place.Goals as goal

pub returns : goal.returns
returns c =
    let s = c.args.ledger.now.state in
    let at : c.own_after.result ≡ next_own c.seek_missing-place.result s.own = search rules in
    at ∙ found_own s c.args.peer c.args.most c.seek_missing-place.result c.seek_missing-place.ensures.past c.seek_missing-place.ensures.next
