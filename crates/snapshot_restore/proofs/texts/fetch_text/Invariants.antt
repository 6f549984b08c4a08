use Rattle.std.proofs.Common.{take}
use Rattle.node_serve.specs.Spans.{IsUp}
use Rattle.snapshot_restore.specs.Faults.{Neither, Faults}
use Rattle.snapshot_restore.proofs.TextRuns.{ReadsText}
use Rattle.snapshot_restore.proofs.texts.fetch_text.Given as goal

abbrev pub invariant-loop-reference : goal.invariant-loop-reference
invariant-loop-reference g l = record {
  so_far : ReadsText g.L.Log.holds g.L.Log.stands g.L.Log.is_broken l.fn.waiting l.waiting l.fn.node l.node (g.S.Disk.view l.fn.station) (g.S.Disk.view l.station) (take l.reference-index l.refs) l.text.items;
  up : IsUp g.L.Log.holds g.L.Log.size g.L.Log.keeps_body g.L.Log.is_broken l.node (g.S.Disk.view l.station);
  faults : Faults Neither (g.S.Disk.view l.fn.station) (g.S.Disk.view l.station);
}
