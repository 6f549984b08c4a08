use Rattle.std.proofs.Common.{◌∙◌}
use Rattle.peer_account.specs.States.{is_forwarded}
use Rattle.accounts.proofs.Loosened.{any_slots}
use Rattle.accounts.proofs.freeing.any_slot.Goals as goal

pub returns : goal.returns
returns c = c.any_number.ensures ∙ any_slots (is_forwarded c.args.account.now.row.ins) c.args.numbers.now
