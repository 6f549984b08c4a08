use Rattle.std.proofs.Common.{◌≡◌}
use Rattle.said_lines.specs.Lines.{debt_line}
use Rattle.said_lines.proofs.LinesSaid.{Saying}
use Rattle.said_lines.proofs.saying.say_debts.Given as goal

abbrev pub invariant-loop-debt : goal.invariant-loop-debt
invariant-loop-debt g l = record {
  said : Saying debt_line l.debts (g.S.Disk.view l.fn.station) (g.S.Disk.view l.station) l.debt-index;
  steady : (g.S.Disk.view l.station).outside.say_faults ≡ (g.S.Disk.view l.fn.station).outside.say_faults;
}
