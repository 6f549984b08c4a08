use Rattle.std.proofs.Common.{◌≡◌, map, filter, take}
use Rattle.psb_model.specs.State.{debt_key}
use Rattle.asked_objects.specs.Parts.{is_listed_debt}
use Rattle.asked_objects.proofs.listing.debts_booked.Given as goal

abbrev pub invariant-loop-row : goal.invariant-loop-row
invariant-loop-row l = l.debts.items ≡ map debt_key (filter (is_listed_debt l.account.row) (take l.row-index l.account.row.debts))
