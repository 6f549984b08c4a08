use Rattle.std.proofs.Common.{rules}
use Rattle.said_lines.proofs.LineLemmas.{restored_line-pieces}
use Rattle.said_lines.proofs.lines.restored_line.Goals as goal

pub returns : goal.returns
returns c = rw (restored_line-pieces c.args.files c.args.folders c.args.bytes) (search rules)
