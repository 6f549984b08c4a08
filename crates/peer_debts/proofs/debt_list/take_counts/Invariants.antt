use Rattle.std.proofs.Common.{◌≡◌, ◌-◌, take}
use Rattle.psb_bytes.specs.declared.ids.Object.{Object}
use Rattle.psb_model.specs.Words.{occurs}
use Rattle.psb_model.specs.State.{debt_key}
use Rattle.peer_debts.specs.Debts.{count_at}
use Rattle.peer_debts.proofs.debt_list.take_counts.Given as goal

abbrev pub invariant-loop-row : goal.invariant-loop-row
invariant-loop-row l = (o : Object) → count_at l.counts.entries o ≡ count_at l.fn.counts.entries o - occurs debt_key (take l.row-index l.rows) o
