use Rattle.std.proofs.Common.{◌≡◌, ◌≤◌}
use Rattle.node_serve.specs.Spans.{IsUp}
use Rattle.snapshot_restore.specs.Faults.{Neither, Faults}
use Rattle.snapshot_restore.proofs.Awaiting.{Listens}
use Rattle.snapshot_restore.proofs.fetching.await_plain.Given as goal

abbrev pub invariant-loop-made : goal.invariant-loop-made
invariant-loop-made g l = record {
  so_far : Listens g.L.Log.holds g.L.Log.stands g.L.Log.is_broken l.fn.waiting l.waiting l.fn.node l.node (g.S.Disk.view l.fn.station) (g.S.Disk.view l.station) l.reference l.made l.last;
  up : IsUp g.L.Log.holds g.L.Log.size g.L.Log.keeps_body g.L.Log.is_broken l.node (g.S.Disk.view l.station);
  faults : Faults Neither (g.S.Disk.view l.fn.station) (g.S.Disk.view l.station);
  within : l.made ≤ l.made-end;
  end : l.made-end ≡ l.fn.waiting.turns;
}
