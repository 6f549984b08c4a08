use Rattle.std.proofs.Common.{take}
use Rattle.node_serve.specs.Spans.{IsUp}
use Rattle.snapshot_restore.specs.Faults.{Neither, Faults, FolderCounts}
use Rattle.snapshot_restore.specs.Written.{AppendsAll}
use Rattle.snapshot_restore.proofs.tree.append_all.Given as goal

abbrev pub invariant-loop-reference : goal.invariant-loop-reference
invariant-loop-reference g l = record {
  so_far : AppendsAll g.L.Log.holds g.L.Log.stands g.L.Log.is_broken l.fn.waiting l.waiting l.fn.node l.node (g.S.Disk.view l.fn.station) (g.S.Disk.view l.station) (g.F.Folder.view l.fn.folder) (g.F.Folder.view l.folder) l.at (take l.reference-index l.refs);
  up : IsUp g.L.Log.holds g.L.Log.size g.L.Log.keeps_body g.L.Log.is_broken l.node (g.S.Disk.view l.station);
  faults : Faults Neither (g.S.Disk.view l.fn.station) (g.S.Disk.view l.station);
  folder_faults : FolderCounts Neither (g.F.Folder.view l.fn.folder).folder_faults (g.F.Folder.view l.folder).folder_faults;
}
