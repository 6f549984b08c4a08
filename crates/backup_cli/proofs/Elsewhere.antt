-- The answers of the other commands are none of a restore alone.
use Rattle.std.proofs.Common.{◌≡◌, inl, inr, ℕ, sym, subst}
use Rattle.backup_cli.specs.Begun.{IsEnd}
use Rattle.backup_cli.specs.Forgotten.{StopsForget}
use Rattle.said_lines.specs.Says.{IsUnopened}
use Rattle.backup_cli.specs.Served.{Stops}
use Rattle.said_lines.specs.Status.{IsElsewhere}
use Rattle.said_lines.specs.declared.status.Status.{Status}
use Rattle.said_lines.specs.declared.status.Status.TheVariants.{Done, DiskFault, LinkFault, FolderFault, SayFault, NotNode, Already, BadSettings, NoSnapshot, Memory}
use Rattle.backup_cli.specs.BackedUp.{status_of_node, status_of}
use Rattle.node_core.specs.declared.fault.Fault.{Fault}
use Rattle.node_core.specs.declared.fault.Fault.TheVariants as fault
use Rattle.snapshot_backup.specs.declared.fault.BackupFault.{BackupFault}
use Rattle.snapshot_backup.specs.declared.fault.BackupFault.TheVariants as backup_fault

pub elsewhere_as : (status s : Status) → status ≡ s → IsElsewhere s → IsElsewhere status
elsewhere_as status s is e = subst (λ (x : Status). IsElsewhere x) (sym is) e

pub unopened_elsewhere : (status : Status) → IsUnopened status → IsElsewhere status
unopened_elsewhere status (inl is) = elsewhere_as status NotNode is tt
unopened_elsewhere status (inr (inl is)) = elsewhere_as status DiskFault is tt
unopened_elsewhere status (inr (inr is)) = elsewhere_as status Memory is tt

pub serving_elsewhere : (status : Status) → Stops status → IsElsewhere status
serving_elsewhere status (inl is) = elsewhere_as status DiskFault is tt
serving_elsewhere status (inr (inl is)) = elsewhere_as status LinkFault is tt
serving_elsewhere status (inr (inr is)) = elsewhere_as status Memory is tt

pub forgetting_elsewhere : (number : ℕ) (status : Status) → StopsForget number status → IsElsewhere status
forgetting_elsewhere number status (inl is) = elsewhere_as status DiskFault is tt
forgetting_elsewhere number status (inr (inl is)) = elsewhere_as status Memory is tt
forgetting_elsewhere number status (inr (inr is)) = elsewhere_as status (NoSnapshot number) is tt

pub beginning_elsewhere : (status : Status) → IsEnd status → IsElsewhere status
beginning_elsewhere status (inl is) = elsewhere_as status Done is tt
beginning_elsewhere status (inr (inl is)) = elsewhere_as status DiskFault is tt
beginning_elsewhere status (inr (inr (inl is))) = elsewhere_as status FolderFault is tt
beginning_elsewhere status (inr (inr (inr (inl is)))) = elsewhere_as status SayFault is tt
beginning_elsewhere status (inr (inr (inr (inr (inl is))))) = elsewhere_as status Already is tt
beginning_elsewhere status (inr (inr (inr (inr (inr (inl is)))))) = elsewhere_as status BadSettings is tt
beginning_elsewhere status (inr (inr (inr (inr (inr (inr is)))))) = elsewhere_as status Memory is tt

node_fault_elsewhere : (f : Fault) → IsElsewhere (status_of_node f)
node_fault_elsewhere fault.NotNode = tt
node_fault_elsewhere fault.DiskFault = tt
node_fault_elsewhere fault.Broken = tt
node_fault_elsewhere fault.BadSettings = tt
node_fault_elsewhere (fault.Clash c) = tt
node_fault_elsewhere (fault.Altered name) = tt
node_fault_elsewhere (fault.NoSnapshot number) = tt
node_fault_elsewhere fault.Memory = tt

pub backup_elsewhere : (f : BackupFault) → IsElsewhere (status_of f)
backup_elsewhere (backup_fault.Node f) = node_fault_elsewhere f
backup_elsewhere backup_fault.Folder = tt
backup_elsewhere backup_fault.TooLarge = tt
backup_elsewhere backup_fault.Memory = tt
