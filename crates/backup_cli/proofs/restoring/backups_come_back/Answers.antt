use Rattle.std.proofs.Common.{inl, inr, ⊎_elim}
use Rattle.psb_station.specs.Folder.{Content}
use Rattle.snapshots.specs.Trees.{IsTree}
use Rattle.snapshot_backup.specs.Backed.{IsSnapOf}
use Rattle.backup_cli.proofs.FileReads.{if_one}
use Rattle.backup_cli.proofs.restoring.backups_come_back.Goals as goal

pub returns : goal.returns
returns c = λ h root folder steps made was is target d ts tree exact.
    let stood = if_one folder.content (λ (x : Content). IsSnapOf x root made.places made.note.left) (λ (x : Content). IsTree x root made.places) (λ x snap. snap.tree) made.of in
    ⊎_elim (λ again. inl (record { stood = stood; again = again })) (λ met. inr met) (exact.exact _ made.places made.means_it)
