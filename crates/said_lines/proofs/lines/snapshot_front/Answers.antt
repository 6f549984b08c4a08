use Rattle.std.proofs.Common.{rules}
use Rattle.said_lines.proofs.LineLemmas.{snapshot_front-pieces}
use Rattle.said_lines.proofs.lines.snapshot_front.Goals as goal

pub returns : goal.returns
returns c = rw (snapshot_front-pieces c.args.snapshot.now) (search rules)
