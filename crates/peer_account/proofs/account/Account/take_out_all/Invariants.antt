use Rattle.std.proofs.Common.{◌≡◌, ◌+◌, ◌*◌, ◌≤◌, take}
use Rattle.peer_account.specs.View.{left_row}
use Rattle.peer_account.proofs.account.Account.take_out_all.Given as goal

abbrev pub invariant-loop-object : goal.invariant-loop-object
invariant-loop-object l = record {
  id : l.self.id ≡ l.fn.self.id;
  row : l.self.row ≡ left_row (take l.object-index l.objects) l.fn.self.row;
  in_room : l.fn.self.in_room ≤ l.self.in_room + 2 * l.object-index;
}
