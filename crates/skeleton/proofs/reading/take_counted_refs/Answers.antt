use Rattle.std.proofs.Common.{◌∙◌}
use Rattle.skeleton.specs.Reading.{ref_behind}
use Rattle.skeleton.proofs.StepLemmas.{run_step}
use Rattle.skeleton.proofs.reading.take_counted_refs.Goals as goal

pub loop-preserved : goal.loop-preserved
loop-preserved c =
    let step = run_step ref_behind c.args.count c.loop.counter c.loop.refs.items c.loop.reader c.in_ok-take_ref.field-0 c.take_ref.new.self c.loop-test.true c.in_ok-take_ref.ensures in
    rw c.in_ok-push.ensures.items (c.loop.invariant ∙ step)
