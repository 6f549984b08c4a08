use Rattle.std.proofs.Common.{◌+◌, ap}
use Rattle.peer_lists.proofs.Trees.{by_object}
use Rattle.peer_debts.proofs.Counts.{count_more}
use Rattle.peer_debts.proofs.debt_list.add_count.Goals as goal

pub returns-in-Ok-clause-added : goal.returns-in-Ok-clause-added
returns-in-Ok-clause-added c = count_more _ by_object c.args.counts.now c.insert.new.self c.args.object.now (c.count_of-count.result + 1) c.in-Ok.ensures.updates.0 (ap (λ n. n + 1) c.count_of-count.ensures)
