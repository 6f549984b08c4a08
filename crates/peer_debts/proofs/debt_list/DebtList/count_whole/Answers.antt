use Rattle.std.proofs.Common.{length, sym, ap, ◌∙◌}
use Rattle.peer_debts.proofs.Owed.{none_whole}
use Rattle.peer_debts.proofs.debt_list.DebtList.count_whole.Goals as goal

pub returns-then-not-has_any : goal.returns-then-not-has_any
returns-then-not-has_any c = sym (ap length (none_whole c.args.objects.now c.args.self.now.items (sym c.has_any.ensures ∙ c.if-not-has_any.true)))
