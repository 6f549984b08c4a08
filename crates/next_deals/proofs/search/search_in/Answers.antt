-- The first row of the peer, if there is one.
use Rattle.std.proofs.Common.{◌≡◌, ◌==◌, ◌∙◌, Some, None, sym, ap, rules}
use Rattle.std.specs.Prelude.{find}
use Rattle.next_deals.proofs.Searched.{row_or, row_found}
use Rattle.next_deals.proofs.search.search_in.Goals as goal

pub returns-in-None : goal.returns-in-None
returns-in-None c =
    let none : find (λ x. x.peer == c.args.peer) c.args.searches.now ≡ None = search rules in
    c.at_start.ensures ∙ sym (ap (λ o. row_or o c.args.peer) none) ∙ row_found c.args.searches.now c.args.peer

pub returns-in-Some : goal.returns-in-Some
returns-in-Some c =
    let some : find (λ x. x.peer == c.args.peer) c.args.searches.now ≡ Some c.in-Some.x.now = search rules in
    sym (ap (λ o. row_or o c.args.peer) some) ∙ row_found c.args.searches.now c.args.peer
