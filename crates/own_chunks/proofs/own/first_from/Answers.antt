use Rattle.std.proofs.Common.{◌∙◌, rules}
use Rattle.own_deals.proofs.NameOrder.{by_name}
use Rattle.own_chunks.proofs.OwnTrees.{first_none, first_some}
use Rattle.own_chunks.proofs.own.first_from.Goals as goal

pub returns-in_err-name : goal.returns-in_err-name
returns-in_err-name c = c.from_residual.ensures ∙ first_none _ by_name c.args.start c.args.tree.now.entries c.range.result (c.range.ensures.between tt) (search rules)

pub returns : goal.returns
returns c = first_some _ by_name c.args.start c.args.tree.now.entries c.range.result c.next.new.self c.in_ok-name.name.now c.in_ok-name.chunk.now (c.range.ensures.between tt) (search rules)
