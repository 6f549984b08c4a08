use Rattle.std.proofs.Common.{◌∙◌}
use Rattle.skeleton.specs.Reading.{entry_at}
use Rattle.skeleton.proofs.EntryLaws.{entry_field}
use Rattle.skeleton.proofs.StepLemmas.{run_step}
use Rattle.skeleton.proofs.reading.take_counted_entries.Goals as goal

pub keep-requires : goal.keep-requires
keep-requires c = (entry_field c.loop.skeleton).fits c.loop.reader c.in_ok-entry.entry c.take_entry.new.reader c.in_ok-entry.ensures

pub loop-preserved : goal.loop-preserved
loop-preserved c =
    let step = run_step entry_at c.args.count c.loop.counter c.loop.skeleton c.loop.reader c.in_ok-entry.entry c.take_entry.new.reader c.loop-test.true c.in_ok-entry.ensures in
    rw c.in_ok-keep.ensures.ok (c.loop.invariant ∙ step)
