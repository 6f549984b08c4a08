-- What an account needs for a discard: room, and as much debt as is discarded.
use Rattle.std.specs.Prelude.{◌*◌, ◌≤◌, List, length, sum_by}
use Rattle.psb_bytes.specs.declared.ids.Object.{Object}
use Rattle.psb_model.specs.Words.{only}
use Rattle.psb_model.specs.State.{in_key, in_size, debt_units}
use Rattle.peer_account.specs.View.{AccountView}

pub record Discards (v : AccountView) (objects : List Object) : Type 0 where
  pub in_room : 2 * length objects ≤ v.in_room
  pub owed : sum_by in_size (only in_key objects v.row.ins) ≤ debt_units v.row
