use Rattle.std.proofs.Common.{◌≡◌, ◌++◌, length, take, drop, map, vec_capacity}
use Rattle.peer_debts.proofs.Counts.{with_state}
use Rattle.peer_debts.proofs.debt_list.set_states.Given as goal

abbrev pub invariant-loop-place : goal.invariant-loop-place
invariant-loop-place l = record {
  items : l.rows.items ≡ map (with_state l.slot l.state) (take l.place l.fn.rows.items) ++ drop l.place l.fn.rows.items;
  end : l.place-end ≡ length l.fn.rows.items;
  capacity : vec_capacity l.rows ≡ vec_capacity l.fn.rows;
}
