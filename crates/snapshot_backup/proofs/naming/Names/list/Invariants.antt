use Rattle.std.proofs.Common.{◌≡◌, ◌++◌}
use Rattle.snapshot_backup.proofs.naming.Names.list.Given as goal

abbrev pub invariant-loop-name : goal.invariant-loop-name
invariant-loop-name l = l.names.items ++ l.name-iterator ≡ l.self.names.keys
