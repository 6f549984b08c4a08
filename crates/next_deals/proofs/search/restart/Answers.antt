-- One row more is changed.
use Rattle.std.proofs.Common.{◌<◌, ◌∙◌, List, length, get_or, slice_set, ap, rules}
use Rattle.next_deals.specs.declared.search.Search.{Search}
use Rattle.next_deals.specs.Searches.{restarted}
use Rattle.next_deals.proofs.Searched.{map_on}
use Rattle.next_deals.proofs.search.restart.Goals as goal

pub loop-i-preserved : goal.loop-i-preserved
loop-i-preserved c =
    let old = c.args.searches.now in
    let f : Search → Search = (λ (x : Search). restarted c.args.what.now x.peer x) in
    let i = c.loop-i.i in
    let x = c.restarted.result in
    let within : i < length old = search rules in
    ap (λ (l : List Search). slice_set l i x) c.loop-i.invariant
    ∙ map_on f old i c.index-searches-i.result x within (c.restarted.ensures ∙ ap (λ (l : List Search). f (get_or l i c.index-searches-i.result)) c.loop-i.invariant)
