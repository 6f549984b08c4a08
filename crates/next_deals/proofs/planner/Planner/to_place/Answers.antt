-- A missing chunk is looked for from a place up to which none was found.
use Rattle.std.proofs.Common.{◌≡◌, ◌∙◌, true, ℕ, List, Option, ap, subst, sym}
use Rattle.psb_model.specs.Proposing.{none_missing}
use Rattle.next_deals.specs.declared.search.Search.{Search}
use Rattle.next_deals.specs.Searches.{is_past_own, missing_from, search_in}
use Rattle.next_deals.proofs.Searched.{passed_from}
use Rattle.next_deals.proofs.planner.Planner.to_place.Goals as goal

pub to_place-requires : goal.to_place-requires
to_place-requires c =
    let s = c.self.inside.ledger.state in
    let p = c.args.peer in
    let at = c.search_in-x.ensures ∙ ap (λ (l : List Search). search_in l p) c.as_slice.ensures.value in
    let from = c.missing_from-from.ensures ∙ ap (λ (y : Search). missing_from y c.args.most) at in
    subst (λ (place : Option (List ℕ)). none_missing (is_past_own place c.args.most) s p ≡ true) (sym from) (passed_from s c.self.inside.searches.items p c.args.most c.self.invariant)
