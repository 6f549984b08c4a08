use Rattle.std.proofs.Common.{◌≡◌, ◌≤◌, take}
use Rattle.snapshot_backup.specs.Files.{ReadsFiles}
use Rattle.node_serve.specs.Spans.{IsUp}
use Rattle.snapshot_backup.proofs.PlaceRuns.{KeepsPlaces}
use Rattle.snapshot_backup.proofs.places.keep_places.Given as goal

abbrev pub invariant-loop-place : goal.invariant-loop-place
invariant-loop-place g l = record {
  so_far : KeepsPlaces g.L.Log.holds g.L.Log.stands g.L.Log.size g.L.Log.keeps_body g.L.Log.is_broken l.fn.node l.node (g.D.Disk.view l.fn.disk) (g.D.Disk.view l.disk) l.root (take l.place-index l.found) (g.F.Folder.view l.folder) l.skeleton l.fn.room l.left;
  up : IsUp g.L.Log.holds g.L.Log.size g.L.Log.keeps_body g.L.Log.is_broken l.node (g.D.Disk.view l.disk);
  few : l.left ≤ l.fn.room;
  reads : ReadsFiles l.root (take l.place-index l.found) (g.F.Folder.view l.fn.folder) (g.F.Folder.view l.folder);
  steady : (g.F.Folder.view l.folder).folder_faults ≡ (g.F.Folder.view l.fn.folder).folder_faults;
  same : (g.D.Disk.view l.disk).disk_faults ≡ (g.D.Disk.view l.fn.disk).disk_faults;
}
