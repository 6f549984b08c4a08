-- What an account needs for the outcome of a probe: room, and sums that fit.
use Rattle.std.specs.Prelude.{◌≡◌, ◌+◌, ◌*◌, ◌<◌, ◌≤◌, ◌^◌, true, List, length, filter}
use Rattle.psb_bytes.specs.declared.ids.Object.{Object}
use Rattle.psb_model.specs.declared.entries.DebtEntry.{DebtEntry}
use Rattle.psb_model.specs.declared.entries.OutEntry.{OutEntry}
use Rattle.psb_model.specs.Words.{objects_distinct, occurs}
use Rattle.psb_model.specs.State.{out_key, debt_key, back_units, debt_units}
use Rattle.psb_model.specs.Effects.{is_whole_listed}
use Rattle.peer_account.specs.View.{AccountView}

-- no object stands there twice, or is owed twice, or both
abbrev pub StandOnce : List OutEntry → List DebtEntry → Type 0
StandOnce outs debts = (o : Object) → occurs out_key outs o + occurs debt_key debts o ≤ 1

-- objects that were lost stand there again
pub record Regains (v : AccountView) (objects : List Object) : Type 0 where
  pub out_room : length (filter (is_whole_listed objects) v.row.debts) ≤ v.out_room
  pub once : StandOnce v.row.outs v.row.debts
  pub small : back_units v.row + debt_units v.row < 2 ^ 32

-- objects are lost
pub record Loses (v : AccountView) (objects : List Object) : Type 0 where
  pub out_room : 2 * length objects ≤ v.out_room
  pub debt_room : length objects ≤ v.debt_room
  pub distinct : objects_distinct objects ≡ true
  pub small : back_units v.row + debt_units v.row < 2 ^ 32
