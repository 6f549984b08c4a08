use Rattle.std.proofs.Common.{◌≡◌, length}
use Rattle.peer_debts.specs.Debts.{KnowsCounts}
use Rattle.peer_debts.proofs.debt_list.count_rows.Given as goal

abbrev pub invariant-loop-place : goal.invariant-loop-place
invariant-loop-place l = record {
  knows : KnowsCounts l.rows l.counts.entries l.counted;
  here : l.counted ≡ l.place;
  end : l.place-end ≡ length l.rows;
}
