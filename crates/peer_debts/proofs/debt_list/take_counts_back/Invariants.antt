use Rattle.psb_model.specs.Effects.{is_whole_listed}
use Rattle.peer_debts.proofs.Counts.{TakesBack}
use Rattle.peer_debts.proofs.debt_list.take_counts_back.Given as goal

abbrev pub invariant-loop-row : goal.invariant-loop-row
invariant-loop-row l = TakesBack (is_whole_listed l.objects) l.rows l.fn.counts.entries l.counts.entries l.left l.row-index
