-- The faults of a restore.
use Rattle.std.specs.Prelude.{◌≡◌, ℕ, Result, Ok, Err}
use Rattle.psb_station.specs.View.{View}
use Rattle.psb_station.specs.Calls.{Rose}
use Rattle.node_core.specs.declared.fault.Fault.{Fault}
use Rattle.node_core.specs.declared.fault.Fault.TheVariants as fault
use Rattle.node_serve.specs.declared.serving.ServeFault.{ServeFault}
use Rattle.node_serve.specs.declared.serving.ServeFault.TheVariants as serve_fault
use Rattle.snapshots.specs.declared.writing.WriteFault.{WriteFault}
use Rattle.snapshots.specs.declared.writing.WriteFault.TheVariants as write_fault
use Rattle.snapshot_restore.specs.declared.fault.RestoreFault.{RestoreFault}
use Rattle.snapshot_restore.specs.declared.fault.RestoreFault.TheVariants as restore_fault

-- a fault of a node, of a turn, and of a folder, as one of a restore
abbrev pub of_node : Fault → RestoreFault
of_node fault.Memory = restore_fault.Memory
of_node f = restore_fault.Node f

abbrev pub of_serving : ServeFault → RestoreFault
of_serving (serve_fault.Node f) = restore_fault.Node f
of_serving serve_fault.Link = restore_fault.Link
of_serving serve_fault.Memory = restore_fault.Memory

abbrev pub of_writing : WriteFault → RestoreFault
of_writing write_fault.Folder = restore_fault.Folder
of_writing write_fault.Memory = restore_fault.Memory

-- which device failed, if one did
pub data Device : Type 0 where
  Neither : Device
  TheDisk : Device
  TheLink : Device
  TheFolder : Device

abbrev pub failed_in : RestoreFault → Device
failed_in (restore_fault.Node f) = TheDisk
failed_in restore_fault.Link = TheLink
failed_in restore_fault.Folder = TheFolder
failed_in restore_fault.NotEmpty = Neither
failed_in (restore_fault.Missing name) = Neither
failed_in (restore_fault.Altered name got) = Neither
failed_in (restore_fault.BadSkeleton f place) = Neither
failed_in restore_fault.Memory = Neither

abbrev pub failed : {A : Type 0} → Result A RestoreFault → Device
failed (Ok x) = Neither
failed (Err e) = failed_in e

-- a count of faults rose exactly where its device failed, as far as the count goes
abbrev pub DiskCounts : Device → ℕ → ℕ → Type 0
DiskCounts Neither old new = new ≡ old
DiskCounts TheDisk old new = Rose old new
DiskCounts TheLink old new = new ≡ old
DiskCounts TheFolder old new = new ≡ old

abbrev pub LinkCounts : Device → ℕ → ℕ → Type 0
LinkCounts Neither old new = new ≡ old
LinkCounts TheDisk old new = new ≡ old
LinkCounts TheLink old new = Rose old new
LinkCounts TheFolder old new = new ≡ old

abbrev pub FolderCounts : Device → ℕ → ℕ → Type 0
FolderCounts Neither old new = new ≡ old
FolderCounts TheDisk old new = new ≡ old
FolderCounts TheLink old new = new ≡ old
FolderCounts TheFolder old new = Rose old new

pub record Faults (device : Device) (old new : View) : Type 0 where
  pub disk : DiskCounts device old.disk_faults new.disk_faults
  pub link : LinkCounts device old.outside.link_faults new.outside.link_faults
  pub said : new.outside.say_faults ≡ old.outside.say_faults

-- ---- which faults may come

-- where the node's own body is read
abbrev pub IsOfRead : RestoreFault → Type 0
IsOfRead (restore_fault.Node f) = f ≡ fault.DiskFault
IsOfRead restore_fault.Memory = Unit {0}
IsOfRead e = ⊥

-- in a turn
abbrev pub IsOfTurn : RestoreFault → Type 0
IsOfTurn (restore_fault.Node f) = f ≡ fault.DiskFault
IsOfTurn restore_fault.Link = Unit {0}
IsOfTurn restore_fault.Memory = Unit {0}
IsOfTurn e = ⊥

-- at a place
abbrev pub IsOfPlace : RestoreFault → Type 0
IsOfPlace (restore_fault.Missing name) = Unit {0}
IsOfPlace (restore_fault.Altered name got) = Unit {0}
IsOfPlace e = IsOfTurn e

-- in a text
abbrev pub IsOfText : RestoreFault → Type 0
IsOfText (restore_fault.BadSkeleton f place) = Unit {0}
IsOfText e = IsOfPlace e

-- in the tree
abbrev pub IsOfTree : RestoreFault → Type 0
IsOfTree restore_fault.Folder = Unit {0}
IsOfTree e = IsOfPlace e

-- in both
abbrev pub IsOfBelow : RestoreFault → Type 0
IsOfBelow restore_fault.Folder = Unit {0}
IsOfBelow e = IsOfText e

-- in all
abbrev pub IsOfRestore : RestoreFault → Type 0
IsOfRestore restore_fault.NotEmpty = Unit {0}
IsOfRestore e = IsOfBelow e
