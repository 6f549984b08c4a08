use Rattle.std.proofs.Common.{sym, ◌∙◌}
use Rattle.psb_model.specs.Conditions.{is_whole}
use Rattle.peer_debts.proofs.Owed.{owed_not_so}
use Rattle.peer_debts.proofs.debt_list.DebtList.has_whole.Goals as goal

pub returns-else-has : goal.returns-else-has
returns-else-has c = c.if-has.false ∙ sym (owed_not_so is_whole c.args.self.now.items c.args.object.now (sym c.has.ensures ∙ c.if-has.false))
