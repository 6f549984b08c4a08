use Rattle.std.proofs.Common.{◌≡◌, None, take}
use Rattle.backup_cli.specs.RestoredTo.{kept_ticket}
use Rattle.backup_cli.proofs.restoring.kept_ticket.Given as goal

abbrev pub invariant-loop-snapshot : goal.invariant-loop-snapshot
invariant-loop-snapshot l = kept_ticket (take l.snapshot-index l.kept) l.number ≡ None
