-- The faults of a backup.
use Rattle.std.specs.Prelude.{◌≡◌, ◌⊎◌, ℕ, List, Result, Err}
use Rattle.psb_digest.specs.Clashes.{Pair}
use Rattle.node_core.specs.declared.fault.Fault.{Fault}
use Rattle.node_core.specs.declared.fault.Fault.TheVariants as fault
use Rattle.snapshots.specs.declared.walking.WalkFault.{WalkFault}
use Rattle.snapshots.specs.declared.walking.WalkFault.TheVariants as walk_fault
use Rattle.snapshot_backup.specs.Runs.{RefusesPiece}
use Rattle.snapshot_backup.specs.declared.fault.BackupFault.{BackupFault}
use Rattle.snapshot_backup.specs.declared.fault.BackupFault.TheVariants as backup_fault

-- a fault of the walk as one of a backup
abbrev pub walked_as : WalkFault → BackupFault
walked_as walk_fault.Folder = backup_fault.Folder
walked_as walk_fault.TooLarge = backup_fault.TooLarge
walked_as walk_fault.Memory = backup_fault.Memory

-- a fault of the node is that its disk failed, or that a piece is refused
abbrev pub FailsOfPiece : {R : Type 0} → Result R BackupFault → Type 0
FailsOfPiece result = (f : Fault) → result ≡ Err (backup_fault.Node f) → (f ≡ fault.DiskFault) ⊎ RefusesPiece {R = Unit {0}} (Err f)

-- so it is one of these: the disk failed, other bytes are held under a piece's name, or what stands there was altered
abbrev pub IsOfPieces : Fault → Type 0
IsOfPieces f = (f ≡ fault.DiskFault) ⊎ ((c : Pair) × (f ≡ fault.Clash c)) ⊎ ((name : List ℕ) × (f ≡ fault.Altered name))
