use Rattle.std.proofs.Common.{◌≡◌, ◌==◌, true, false, rules}
use Rattle.backup_cli.proofs.Tickets.{found_at, none_further}
use Rattle.backup_cli.proofs.restoring.kept_ticket.Goals as goal

pub returns-then-snapshot-number : goal.returns-then-snapshot-number
returns-then-snapshot-number c =
    let s = c.snapshot-item.result in
    let yes : (s.number == c.args.number) ≡ true = search rules in
    found_at c.args.kept.now c.loop-snapshot.snapshot-index s c.args.number c.loop-snapshot-test.true c.snapshot-item.is c.loop-snapshot.invariant yes

pub loop-snapshot-preserved : goal.loop-snapshot-preserved
loop-snapshot-preserved c =
    let s = c.snapshot-item.result in
    let other : (s.number == c.args.number) ≡ false = search rules in
    none_further c.args.kept.now c.loop-snapshot.snapshot-index s c.args.number c.loop-snapshot-test.true c.snapshot-item.is c.loop-snapshot.invariant other
