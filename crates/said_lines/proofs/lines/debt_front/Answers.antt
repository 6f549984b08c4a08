use Rattle.std.proofs.Common.{rules}
use Rattle.said_lines.proofs.LineLemmas.{debt_front-pieces}
use Rattle.said_lines.proofs.lines.debt_front.Goals as goal

pub returns : goal.returns
returns c = rw (debt_front-pieces c.args.debt.now) (search rules)
