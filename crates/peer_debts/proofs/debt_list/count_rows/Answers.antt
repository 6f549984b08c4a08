use Rattle.std.proofs.Common.{slice_index_or, refl, subst, arith}
use Rattle.peer_debts.specs.Debts.{KnowsCounts}
use Rattle.peer_debts.proofs.Counts.{few_counted, knows_more}
use Rattle.peer_debts.proofs.debt_list.count_rows.Goals as goal

pub add_count-requires : goal.add_count-requires
add_count-requires c = omega (arith, c.loop-place.auto.place-end, few_counted c.args.rows.now c.loop-place.counts.entries c.loop-place.counted (slice_index_or c.args.rows.now c.loop-place.place c.index-rows-place.result).object c.loop-place.invariant.knows)

pub loop-place-preserved : goal.loop-place-preserved
loop-place-preserved c = record {
  knows = knows_more c.args.rows.now c.loop-place.counts.entries c.add_count.new.counts.entries c.loop-place.place c.index-rows-place.result c.loop-place-test.true (subst (KnowsCounts c.args.rows.now c.loop-place.counts.entries) c.loop-place.invariant.here c.loop-place.invariant.knows) c.in_ok-add_count.ensures.added;
  here = refl;
  end = refl;
}
