use Rattle.std.proofs.Common.{rules}
use Rattle.said_lines.proofs.LineLemmas.{node_line-pieces}
use Rattle.said_lines.proofs.lines.node_line.Goals as goal

pub returns : goal.returns
returns c = rw (node_line-pieces c.args.id c.args.peers) (search rules)
