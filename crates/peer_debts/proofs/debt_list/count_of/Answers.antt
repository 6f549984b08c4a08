use Rattle.std.proofs.Common.{ap, ◌∙◌}
use Rattle.peer_debts.specs.Debts.{or_zero}
use Rattle.peer_lists.proofs.Trees.{by_object}
use Rattle.peer_debts.proofs.Counts.{found_count}
use Rattle.peer_debts.proofs.debt_list.count_of.Goals as goal

pub returns-in-Some : goal.returns-in-Some
returns-in-Some c = ap or_zero c.in-Some.ensures.value ∙ found_count _ by_object c.args.counts.now.entries c.args.object.now

pub returns-in-None : goal.returns-in-None
returns-in-None c = ap or_zero c.in-None.ensures.value ∙ found_count _ by_object c.args.counts.now.entries c.args.object.now
