use Rattle.std.proofs.Common.{rules}
use Rattle.said_lines.proofs.LineLemmas.{peer_line-pieces}
use Rattle.said_lines.proofs.lines.peer_line.Goals as goal

pub returns : goal.returns
returns c = rw (peer_line-pieces c.args.id c.args.held c.args.back c.args.debt) (search rules)
