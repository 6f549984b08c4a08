use Rattle.std.proofs.Common.{◌≡◌}
use Rattle.said_lines.specs.Says.{lines_of_row}
use Rattle.said_lines.proofs.LinesSaid.{SayingAll}
use Rattle.said_lines.proofs.saying.say_ledger.Given as goal

abbrev pub invariant-loop-peer : goal.invariant-loop-peer
invariant-loop-peer g l = record {
  said : SayingAll (lines_of_row l.ledger.state) l.peer-items (g.S.Disk.view l.fn.station) (g.S.Disk.view l.station) l.peer-index;
  steady : (g.S.Disk.view l.station).outside.say_faults ≡ (g.S.Disk.view l.fn.station).outside.say_faults;
}
