-- The tree has a count, or one of the rows behind the counted ones has the object.
use Rattle.std.proofs.Common.{◌≡◌, ◌-◌, List, length, take, drop, ap, ◌∙◌, arith}
use Rattle.std.proofs.lemmas.List.{take_all, length-drop}
use Rattle.psb_model.specs.Words.{has}
use Rattle.psb_model.specs.State.{debt_key}
use Rattle.psb_model.specs.declared.entries.DebtEntry.{DebtEntry}
use Rattle.peer_lists.specs.ListViews.{ListView}
use Rattle.peer_debts.proofs.Counts.{known_first, known_later}
use Rattle.peer_debts.proofs.debt_list.DebtList.has.Goals as goal

pub returns-then-count_of-gt0 : goal.returns-then-count_of-gt0
returns-then-count_of-gt0 c =
    let l = c.self.inside in
    known_first l.rows.items l.counts.entries l.counted c.args.object.now c.count_of.result c.self.invariant c.count_of.ensures c.if-count_of-gt0.true
    ∙ ap (λ (v : ListView DebtEntry). has debt_key v.items c.args.object.now) c.self.view_is

pub returns-else-count_of-gt0 : goal.returns-else-count_of-gt0
returns-else-count_of-gt0 c =
    let l = c.self.inside in
    let d = c.deref.result.now in
    let rest : take (length d - l.counted) (drop l.counted d) ≡ drop l.counted l.rows.items = take_all (length d - l.counted) (drop l.counted d) (omega (arith, length-drop l.counted d)) ∙ ap (drop l.counted) c.deref.ensures.value in
    known_later l.rows.items l.counts.entries l.counted c.args.object.now c.count_of.result c.is_among.result c.self.invariant c.count_of.ensures c.if-count_of-gt0.false (c.is_among.ensures ∙ ap (λ (x : List DebtEntry). has debt_key x c.args.object.now) rest)
    ∙ ap (λ (v : ListView DebtEntry). has debt_key v.items c.args.object.now) c.self.view_is
