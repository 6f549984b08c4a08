use Rattle.std.proofs.Common.{◌≡◌, map, take}
use Rattle.psb_model.specs.Effects.{blank_rows}
use Rattle.peer_account.specs.View.{named_row}
use Rattle.accounts.proofs.table.empty_accounts.Given as goal

abbrev pub invariant-loop-peer : goal.invariant-loop-peer
invariant-loop-peer l = map named_row l.accounts.items ≡ blank_rows (take l.peer-index l.peers)
