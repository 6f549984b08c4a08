-- A fault of the node as one of a backup.
use Rattle.std.proofs.Common.{◌≡◌, ◌⊎◌, inl, inr, ⊎_elim, ℕ, List, Result, Err, refl, sym, ◌∙◌, ap, subst}
use Rattle.psb_digest.specs.Clashes.{Pair}
use Rattle.psb_machine.specs.Machine.{Keep}
use Rattle.node_core.specs.Refusing.{Refuses}
use Rattle.node_core.specs.declared.fault.Fault.{Fault}
use Rattle.node_core.specs.declared.fault.Fault.TheVariants as fault
use Rattle.node_history.proofs.Presence.{err_is, err_as}
use Rattle.convergent_seal.specs.Sealing.{sealed_ref}
use Rattle.snapshot_backup.specs.Endings.{backup_fault_of}
use Rattle.snapshot_backup.specs.Faults.{walked_as, FailsOfPiece, IsOfPieces}
use Rattle.snapshots.specs.declared.walking.WalkFault.{WalkFault}
use Rattle.snapshots.specs.declared.walking.WalkFault.TheVariants as walk_fault
use Rattle.snapshot_backup.specs.Runs.{RefusesPiece}
use Rattle.snapshot_backup.specs.declared.fault.BackupFault.{BackupFault}
use Rattle.snapshot_backup.specs.declared.fault.BackupFault.TheVariants as backup_fault
use Rattle.snapshot_backup.proofs.Fronts.{IsLeft}

-- what the node said, or another fault where it said nothing
abbrev node_fault : BackupFault → Fault → Fault
node_fault (backup_fault.Node f) other = f
node_fault backup_fault.Folder other = other
node_fault backup_fault.TooLarge other = other
node_fault backup_fault.Memory other = other

-- a backup says of the node what the node said
pub node_is : (f g : Fault) → backup_fault_of f ≡ backup_fault.Node g → f ≡ g
node_is fault.NotNode g is = ap (λ (e : BackupFault). node_fault e g) is
node_is fault.DiskFault g is = ap (λ (e : BackupFault). node_fault e g) is
node_is fault.Broken g is = ap (λ (e : BackupFault). node_fault e g) is
node_is fault.BadSettings g is = ap (λ (e : BackupFault). node_fault e g) is
node_is (fault.Clash clash) g is = ap (λ (e : BackupFault). node_fault e g) is
node_is (fault.Altered name) g is = ap (λ (e : BackupFault). node_fault e g) is
node_is (fault.NoSnapshot number) g is = ap (λ (e : BackupFault). node_fault e g) is
node_is fault.Memory g is = absurd (cc)

-- the same of results
pub fails_as_node : {R S : Type 0} (f g : Fault) (e : BackupFault) → e ≡ backup_fault_of f → ◌≡◌ {A = Result R BackupFault} (Err e) (Err (backup_fault.Node g)) → ◌≡◌ {A = Result S Fault} (Err f) (Err g)
fails_as_node f g e of is = ap (λ (x : Fault). Err x) (node_is f g (sym of ∙ err_is e (backup_fault.Node g) is))

-- what a piece fails of is what a backup fails of
pub fails_of_piece : {R S : Type 0} (f : Fault) (e : BackupFault) → e ≡ backup_fault_of f
    → (◌≡◌ {A = Result R Fault} (Err f) (Err fault.DiskFault)) ⊎ (◌≡◌ {A = Result R Fault} (Err f) (Err fault.Memory)) ⊎ RefusesPiece {R = R} (Err f) → FailsOfPiece {R = S} (Err e)
fails_of_piece f e of only g is =
    let as_one : e ≡ backup_fault.Node g = err_is e (backup_fault.Node g) is in
    subst (λ (x : Fault). (x ≡ fault.DiskFault) ⊎ RefusesPiece {R = Unit {0}} (Err x)) (node_is f g (sym of ∙ as_one))
    (⊎_elim (λ disk. inl (err_is f fault.DiskFault disk))
    (λ rest. ⊎_elim (λ memory. let clash : backup_fault.Memory ≡ backup_fault.Node g = ap backup_fault_of (sym (err_is f fault.Memory memory)) ∙ sym of ∙ as_one in absurd (cc))
    (λ refuses. inr (refuses.0, ⊎_elim (λ altered. inl (err_as f _ altered)) (λ clash. inr (clash.0, err_as f _ clash.1, clash.2)) refuses.1)) rest)
    only)

-- and it is one of three
pub of_pieces : {R S : Type 0} (e : BackupFault) → FailsOfPiece {R = R} (Err e) → (f : Fault) → ◌≡◌ {A = Result S BackupFault} (Err e) (Err (backup_fault.Node f)) → IsOfPieces f
of_pieces e fails f is =
    ⊎_elim (λ disk. inl disk)
    (λ refuses. let name = (sealed_ref refuses.0).name in ⊎_elim (λ altered. inr (inr (name, err_is f (fault.Altered name) altered))) (λ clash. inr (inl (clash.0, err_is f (fault.Clash clash.0) clash.1))) refuses.1)
    (fails f (err_as e (backup_fault.Node f) is))

-- the second text of a clash is what was to be kept
pub clash_second : {R : Type 0} (name bytes : List ℕ) (c : Pair) (f : Fault) → f ≡ fault.Clash c → (◌≡◌ {A = Result R Fault} (Err f) (Err fault.DiskFault)) ⊎ (◌≡◌ {A = Result R Fault} (Err f) (Err fault.Memory)) ⊎ Refuses {R = R} (Keep name bytes) (Err f) → c.second ≡ bytes
clash_second name bytes c f is only =
    ⊎_elim (λ disk. let clash : fault.Clash c ≡ fault.DiskFault = sym is ∙ err_is f fault.DiskFault disk in absurd (cc))
    (λ rest. ⊎_elim (λ memory. let clash : fault.Clash c ≡ fault.Memory = sym is ∙ err_is f fault.Memory memory in absurd (cc))
    (λ refuses. ⊎_elim (λ altered. let clash : fault.Clash c ≡ fault.Altered name = sym is ∙ err_is f (fault.Altered name) altered in absurd (cc))
    (λ clash. let same : fault.Clash c ≡ fault.Clash clash.0 = sym is ∙ err_is f (fault.Clash clash.0) clash.1 in ap (λ (p : Pair). p.second) (pair_is c clash.0 same) ∙ clash.2) refuses) rest)
    only
  where
    pair_is : (a b : Pair) → fault.Clash a ≡ fault.Clash b → a ≡ b
    pair_is a b e = cc

-- a fault of the walk is none of the node's
pub walk_left : (f : WalkFault) → IsLeft (walked_as f)
walk_left walk_fault.Folder = tt
walk_left walk_fault.TooLarge = tt
walk_left walk_fault.Memory = tt

pub walk_large : (f : WalkFault) → walked_as f ≡ backup_fault.TooLarge → f ≡ walk_fault.TooLarge
walk_large walk_fault.Folder is = absurd (cc)
walk_large walk_fault.TooLarge is = refl
walk_large walk_fault.Memory is = absurd (cc)
