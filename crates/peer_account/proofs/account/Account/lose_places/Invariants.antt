use Rattle.std.proofs.Common.{◌≡◌, ◌+◌, ◌*◌, ◌≤◌, ◌<◌, ◌^◌, true, length, take}
use Rattle.psb_model.specs.State.{back_units, debt_units}
use Rattle.psb_model.specs.Conditions.{at_places}
use Rattle.peer_account.specs.View.{lost_row}
use Rattle.peer_account.proofs.account.Account.lose_places.Given as goal

abbrev pub invariant-loop-place : goal.invariant-loop-place
invariant-loop-place l = record {
  id : l.self.id ≡ l.fn.self.id;
  row : l.self.row ≡ lost_row l.change true (at_places l.objects (take l.place-index l.places)) l.fn.self.row;
  out_room : l.fn.self.out_room ≤ l.self.out_room + 2 * length (at_places l.objects (take l.place-index l.places));
  debt_room : l.fn.self.debt_room ≤ l.self.debt_room + length (at_places l.objects (take l.place-index l.places));
  small : back_units l.self.row + debt_units l.self.row < 2 ^ 32;
}
