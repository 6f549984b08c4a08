-- The counted rows that are left stand in front.
use Rattle.std.proofs.Common.{◌-◌, List, length, take, refl, ap, ◌∙◌, arith}
use Rattle.psb_model.specs.declared.entries.DebtEntry.{DebtEntry}
use Rattle.psb_model.specs.Words.{occurs}
use Rattle.psb_model.specs.State.{debt_key}
use Rattle.peer_debts.specs.Debts.{count_at, first_less}
use Rattle.peer_debts.proofs.Counts.{knows_used}
use Rattle.peer_debts.proofs.debt_list.DebtList.use_up.Goals as goal

pub invariant_of-self : goal.invariant_of-self
invariant_of-self c =
    let l = c.self.inside in
    let u = c.used_up-used.result in
    knows_used l.rows.items c.use_first.new.rows.items l.counts.entries c.take_counts.new.counts.entries l.counted u.rows c.min-gone.result u.units _ c.self.invariant (omega (arith, c.used_up-used.ensures.rows, ap length c.as_slice.ensures.value)) c.min-gone.ensures refl (c.use_first.ensures.items ∙ ap (first_less u.units) c.drop_first.ensures.items)
    (λ o. c.take_counts.ensures o ∙ ap (λ (x : List DebtEntry). count_at l.counts.entries o - occurs debt_key (take c.min-gone.result x) o) c.deref.ensures.value)
