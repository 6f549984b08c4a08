use Rattle.std.proofs.Common.{rules}
use Rattle.psb_ledger.proofs.Keeping.{allowed_snapped}
use Rattle.psb_ledger.proofs.ledger.Ledger.may_snap.Goals as goal

pub returns-then-self-ne0 : goal.returns-then-self-ne0
returns-then-self-ne0 c = allowed_snapped c.self.inside c.args.self.now c.args.x.now c.allows_snapshot.result c.self.view_is c.if-self-ne0.true (search rules)
