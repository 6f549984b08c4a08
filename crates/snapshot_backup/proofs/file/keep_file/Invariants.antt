use Rattle.std.proofs.Common.{◌≡◌, ◌≤◌, ◌+◌, ◌*◌}
use Rattle.snapshots.specs.Reading.{Reads}
use Rattle.node_serve.specs.Spans.{IsUp}
use Rattle.snapshot_backup.proofs.FileRuns.{KeepsFile}
use Rattle.snapshot_backup.proofs.file.keep_file.Given as goal

abbrev pub invariant-loop-refs : goal.invariant-loop-refs
invariant-loop-refs g l = record {
  so_far : KeepsFile g.L.Log.holds g.L.Log.stands g.L.Log.size g.L.Log.keeps_body g.L.Log.is_broken l.fn.node l.node (g.D.Disk.view l.fn.disk) (g.D.Disk.view l.disk) l.path (g.F.Folder.view l.folder) l.reader l.refs.items l.fn.room l.room;
  up : IsUp g.L.Log.holds g.L.Log.size g.L.Log.keeps_body g.L.Log.is_broken l.node (g.D.Disk.view l.disk);
  near : l.reader.at + 98304 * l.room ≤ 98304 * l.fn.room;
  reads : Reads l.path (g.F.Folder.view l.fn.folder) (g.F.Folder.view l.folder);
  steady : (g.F.Folder.view l.folder).folder_faults ≡ (g.F.Folder.view l.fn.folder).folder_faults;
  same : (g.D.Disk.view l.disk).disk_faults ≡ (g.D.Disk.view l.fn.disk).disk_faults;
}

abbrev pub decreases-loop-refs : goal.decreases-loop-refs
decreases-loop-refs g l = l.room
