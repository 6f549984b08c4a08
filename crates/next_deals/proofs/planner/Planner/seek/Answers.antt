-- The search goes on from where it stood.
use Rattle.std.proofs.Common.{◌≡◌, ◌∙◌, true, ℕ, List, Option, length, map, ap, subst, sym, rules}
use Rattle.psb_model.specs.State.{row}
use Rattle.psb_model.specs.Proposing.{none_marked, none_missing}
use Rattle.next_deals.specs.declared.search.Search.{Search}
use Rattle.next_deals.specs.Searches.{IsSearched, is_past, is_past_own, missing_from, search_in, with_row}
use Rattle.next_deals.proofs.Searched.{passed_from, passed_put, written_back}
use Rattle.next_deals.proofs.planner.Planner.seek.Goals as goal

pub seek_marked-requires : goal.seek_marked-requires
seek_marked-requires c =
    let s = c.self.inside.ledger.state in
    let p = c.args.peer in
    let at = c.search_in-x.ensures ∙ ap (λ (l : List Search). search_in l p) c.as_slice.ensures.value in
    subst (λ (y : Search). none_marked (is_past y.marked) s.own (row s p).outs ≡ true) (sym at) (c.self.invariant.marked p)

pub seek_missing-requires : goal.seek_missing-requires
seek_missing-requires c =
    let s = c.self.inside.ledger.state in
    let p = c.args.peer in
    let at = c.search_in-x.ensures ∙ ap (λ (l : List Search). search_in l p) c.as_slice.ensures.value in
    let from = c.missing_from-from.ensures ∙ ap (λ (y : Search). missing_from y c.args.most) at in
    subst (λ (place : Option (List ℕ)). none_missing (is_past_own place c.args.most) s p ≡ true) (sym from) (passed_from s c.self.inside.searches.items p c.args.most c.self.invariant)

pub invariant_of-self : goal.invariant_of-self
invariant_of-self c =
    let s = c.self.inside.ledger.state in
    let l = c.self.inside.searches in
    let x : Search = record { peer = c.args.peer; marked = c.seek_marked.result; missing = c.seek_missing.result; most = c.args.most } in
    let long : length l.items ≡ l.len = search rules in
    let made : c.put_row.new.searches ≡ map (with_row x) l.items = search rules in
    subst (IsSearched s) (sym (written_back (with_row x) l.items c.put_row.new.searches l.len long made)) (passed_put s l.items x c.self.invariant c.seek_marked.ensures c.seek_missing.ensures.past)
