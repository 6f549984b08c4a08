use Rattle.std.proofs.Common.{◌≡◌}
use Rattle.said_lines.specs.Lines.{snapshot_line}
use Rattle.said_lines.proofs.LinesSaid.{Saying}
use Rattle.said_lines.proofs.saying.say_snapshots.Given as goal

abbrev pub invariant-loop-snapshot : goal.invariant-loop-snapshot
invariant-loop-snapshot g l = record {
  said : Saying snapshot_line l.kept (g.S.Disk.view l.fn.station) (g.S.Disk.view l.station) l.snapshot-index;
  steady : (g.S.Disk.view l.station).outside.say_faults ≡ (g.S.Disk.view l.fn.station).outside.say_faults;
}
