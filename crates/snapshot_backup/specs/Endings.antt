-- How the keeping of pieces ends, and what a fault says of those that were tried.
use Rattle.std.specs.Prelude.{◌≡◌, ℕ, Bool, true, false, List, [], ◌∷◌, ◌++◌, Result, Ok, Err}
use Rattle.psb_digest.specs.Clashes.{Pair}
use Rattle.convergent_seal.specs.Sealing.{sealed, sealed_ref}
use Rattle.psb_machine.specs.Machine.{Situation, Keep}
use Rattle.psb_machine.specs.Course.{after_all}
use Rattle.node_core.specs.Refusing.{IsHeldAs}
use Rattle.node_core.specs.declared.fault.Fault.{Fault}
use Rattle.node_core.specs.declared.fault.Fault.TheVariants as fault
use Rattle.snapshot_backup.specs.Course.{keep_steps}
use Rattle.snapshot_backup.specs.declared.fault.BackupFault.{BackupFault}
use Rattle.snapshot_backup.specs.declared.fault.BackupFault.TheVariants as backup_fault

-- a fault of the node as one of a backup
abbrev pub backup_fault_of : Fault → BackupFault
backup_fault_of fault.Memory = backup_fault.Memory
backup_fault_of f = backup_fault.Node f

-- all were kept, or it stopped for a fault
pub data Ending : Type 0 where
  AllKept : Ending
  StoppedFor : BackupFault → Ending

abbrev pub end_of : {R : Type 0} → Result R Fault → Ending
end_of (Ok x) = AllKept
end_of (Err f) = StoppedFor (backup_fault_of f)

-- The last piece that was tried meets other bytes, which are held under its name in the situation before it: the first of
-- the two are those that are held, and the second its own.
pub record MeetsOther (n : Situation) (tried : List (List ℕ)) (c : Pair) : Type 0 where
  pub before : List (List ℕ)
  pub piece : List ℕ
  pub tried_are : tried ≡ before ++ piece ∷ []
  pub first : IsHeldAs (after_all n (keep_steps before)) (Keep (sealed_ref piece).name (sealed piece)) c.first
  pub second : c.second ≡ sealed piece

-- whether each piece that was tried was kept: a fault of the node came of the last one, and one of the folder of none
abbrev pub EndsFor : BackupFault → Situation → List (List ℕ) → Bool → Type 0
EndsFor (backup_fault.Node (fault.Clash c)) n tried all = (all ≡ false) × MeetsOther n tried c
EndsFor (backup_fault.Node f) n tried all = all ≡ false
EndsFor backup_fault.Folder n tried all = all ≡ true
EndsFor backup_fault.TooLarge n tried all = all ≡ true
EndsFor backup_fault.Memory n tried all = Unit {0}

-- the same by the ending, with those that were not tried
abbrev pub Ends : Ending → Situation → List (List ℕ) → List (List ℕ) → Bool → Type 0
Ends AllKept n tried rest all = (rest ≡ []) × (all ≡ true)
Ends (StoppedFor e) n tried rest all = EndsFor e n tried all
