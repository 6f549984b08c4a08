-- Nothing that was passed over is marked.
use Rattle.std.proofs.Common.{◌≡◌, ◌∙◌, true, List, ap, subst, sym}
use Rattle.psb_model.specs.State.{row}
use Rattle.psb_model.specs.Proposing.{none_marked}
use Rattle.next_deals.specs.declared.search.Search.{Search}
use Rattle.next_deals.specs.Searches.{is_past, search_in}
use Rattle.next_deals.proofs.planner.Planner.to_release.Goals as goal

pub to_release-requires : goal.to_release-requires
to_release-requires c =
    let s = c.self.inside.ledger.state in
    let p = c.args.peer in
    let at = c.search_in-from.ensures ∙ ap (λ (l : List Search). search_in l p) c.as_slice.ensures.value in
    subst (λ (y : Search). none_marked (is_past y.marked) s.own (row s p).outs ≡ true) (sym at) (c.self.invariant.marked p)
