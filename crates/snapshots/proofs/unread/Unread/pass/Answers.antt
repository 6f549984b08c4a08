use Rattle.std.proofs.Common.{ap, ◌∙◌, arith, length-take}
use Rattle.std.proofs.Common.{◌≤◌, ◌+◌, ◌-◌, length, drop}
use Rattle.snapshots.proofs.PieceReads.{passed}
use Rattle.snapshots.proofs.unread.Unread.pass.Goals as goal

pub returns : goal.returns
returns c =
    let u = c.self.inside in
    let within : u.begin + c.args.count ≤ u.end = omega (arith, c.requires, ap length c.self.view_is, length-take (u.end - u.begin) (drop u.begin u.bytes.items), c.self.invariant.order) in
    passed u.bytes.items u.begin u.end c.args.count within ∙ ap (drop c.args.count) c.self.view_is
