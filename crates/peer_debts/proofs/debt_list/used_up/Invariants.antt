use Rattle.std.proofs.Common.{◌≡◌, length, drop}
use Rattle.psb_model.specs.Move.{use_up}
use Rattle.peer_debts.proofs.debt_list.used_up.Given as goal

abbrev pub invariant-loop-place : goal.invariant-loop-place
invariant-loop-place l = record {
  left : use_up l.units l.rows ≡ use_up l.left (drop l.place l.rows);
  end : l.place-end ≡ length l.rows;
}
