use Rattle.std.proofs.Common.{◌++◌, ◌∙◌, ap}
use Rattle.deals.proofs.Claims.{joined_more}
use Rattle.deals.proofs.taking.joined.Goals as goal

pub loop-j-preserved : goal.loop-j-preserved
loop-j-preserved c =
    c.in_ok-extend_from_slice.ensures.items
    ∙ ap (λ l. l ++ c.at.result.1.now) c.loop-j.invariant
    ∙ joined_more c.args.claims.now c.loop-j.j _ c.at.ensures.value
