use Rattle.std.proofs.Common.{slice_set, sym, ap, ◌∙◌}
use Rattle.std.proofs.lemmas.List.Edits.{map_over_more}
use Rattle.psb_station.specs.Plan.{nearer}
use Rattle.psb_station.proofs.plan.is_planned.Goals as goal

pub loop-planned-preserved : goal.loop-planned-preserved
loop-planned-preserved g c =
    let i = c.loop-planned.planned-index in
    let near = nearer g.K.PartialEq.eq c.args.kind in
    ap (slice_set c.loop-planned.plan i) (c.count.ensures ∙ ap near (sym c.planned-item.is))
    ∙ map_over_more near c.args.plan.now c.loop-planned.plan i c.planned-item.result c.loop-planned-test.true c.loop-planned.invariant c.planned-item.is
