use Rattle.std.proofs.Common.{◌≡◌}
use Rattle.said_lines.specs.Says.{line_of_row}
use Rattle.said_lines.proofs.LinesSaid.{Saying}
use Rattle.said_lines.proofs.saying.say_peers.Given as goal

abbrev pub invariant-loop-peer : goal.invariant-loop-peer
invariant-loop-peer g l = record {
  said : Saying (line_of_row l.ledger.state) l.peer-items (g.S.Disk.view l.fn.station) (g.S.Disk.view l.station) l.peer-index;
  steady : (g.S.Disk.view l.station).outside.say_faults ≡ (g.S.Disk.view l.fn.station).outside.say_faults;
}
