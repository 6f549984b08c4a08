use Rattle.std.proofs.Common.{◌≡◌}
use Rattle.psb_station.specs.Span.{Keeps}
use Rattle.node_history.specs.Reading.{Reading}
use Rattle.node_history.proofs.history.Reader.read_all.Given as goal

abbrev pub invariant-loop-number : goal.invariant-loop-number
invariant-loop-number g l = record {
  log : l.log ≡ l.fn.log;
  keeps : Keeps (g.D.Disk.view l.fn.disk) (g.D.Disk.view l.disk);
  steady : (g.D.Disk.view l.disk).disk_faults ≡ (g.D.Disk.view l.fn.disk).disk_faults;
  reading : Reading (g.L.Log.holds l.fn.log) (g.L.Log.keeps_body l.fn.log) l.number l.self.tables l.self.lacking (g.D.Disk.view l.fn.disk) (g.D.Disk.view l.disk);
}
