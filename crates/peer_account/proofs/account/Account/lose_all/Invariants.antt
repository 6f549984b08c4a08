use Rattle.std.proofs.Common.{◌≡◌, ◌+◌, ◌*◌, ◌≤◌, ◌<◌, ◌^◌, false, take}
use Rattle.psb_model.specs.State.{back_units, debt_units}
use Rattle.peer_account.specs.View.{lost_row}
use Rattle.peer_account.proofs.account.Account.lose_all.Given as goal

abbrev pub invariant-loop-object : goal.invariant-loop-object
invariant-loop-object l = record {
  id : l.self.id ≡ l.fn.self.id;
  row : l.self.row ≡ lost_row l.change false (take l.object-index l.objects) l.fn.self.row;
  out_room : l.fn.self.out_room ≤ l.self.out_room + 2 * l.object-index;
  debt_room : l.fn.self.debt_room ≤ l.self.debt_room + l.object-index;
  small : back_units l.self.row + debt_units l.self.row < 2 ^ 32;
}
