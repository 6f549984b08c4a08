use Rattle.std.proofs.Common.{sym, subst}
use Rattle.said_lines.specs.Says.{NotOpened}
use Rattle.said_lines.specs.declared.status.Status.{Status}
use Rattle.backup_cli.proofs.Ends.{not_opened}
use Rattle.backup_cli.proofs.opening.open_or_refuse.Goals as goal

pub returns-in-Err-clause-refused : goal.returns-in-Err-clause-refused
returns-in-Err-clause-refused g c =
    let v0 = g.S.Disk.view c.args.station.now in
    let v3 = g.S.Disk.view c.refuse.new.station in
    let s = c.refuse.ensures.said in
    subst (λ (status : Status). NotOpened status v0 v3) (sym c.refuse.ensures.same)
    (not_opened c.in-Err.status v0 (g.S.Disk.view c.open_node.new.station) v3 s.0 (λ i k left. g.met.S.Disk.only_now c.args.station.now i k left) c.open_node.ensures.keeps s.1 s.2)
