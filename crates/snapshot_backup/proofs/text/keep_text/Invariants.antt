use Rattle.std.proofs.Common.{◌≡◌, map, take}
use Rattle.convergent_seal.specs.Sealing.{sealed_ref}
use Rattle.rolling_chunks.specs.Laws.{part}
use Rattle.snapshot_backup.specs.Endings.{AllKept}
use Rattle.snapshot_backup.specs.Runs.{KeepsSo}
use Rattle.snapshot_backup.proofs.text.keep_text.Given as goal

abbrev pub invariant-loop-span : goal.invariant-loop-span
invariant-loop-span g l = record {
  refs : l.refs.items ≡ map sealed_ref (map (part l.text) (take l.span-index l.span-items));
  keeps : KeepsSo g.L.Log.holds g.L.Log.stands g.L.Log.size g.L.Log.keeps_body g.L.Log.is_broken l.fn.node l.node (g.D.Disk.view l.fn.disk) (g.D.Disk.view l.disk) (map (part l.text) (take l.span-index l.span-items)) AllKept;
  same : (g.D.Disk.view l.disk).disk_faults ≡ (g.D.Disk.view l.fn.disk).disk_faults;
}
