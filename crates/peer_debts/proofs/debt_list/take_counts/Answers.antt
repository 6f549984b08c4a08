use Rattle.peer_debts.proofs.Counts.{less_more}
use Rattle.peer_debts.proofs.debt_list.take_counts.Goals as goal

pub loop-row-preserved : goal.loop-row-preserved
loop-row-preserved c = less_more c.args.rows.now c.args.counts.now.entries c.loop-row.counts.entries c.take_count.new.counts.entries c.loop-row.row-index c.row-item.result c.loop-row-test.true c.row-item.is c.loop-row.invariant c.take_count.ensures
