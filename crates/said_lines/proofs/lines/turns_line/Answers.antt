use Rattle.std.proofs.Common.{rules}
use Rattle.said_lines.proofs.LineLemmas.{turns_line-pieces}
use Rattle.said_lines.proofs.lines.turns_line.Goals as goal

pub returns : goal.returns
returns c = rw (turns_line-pieces c.args.turns c.args.taken c.args.dropped c.args.lost) (search rules)
