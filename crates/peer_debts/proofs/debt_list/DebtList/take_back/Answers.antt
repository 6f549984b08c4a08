-- The rows that are left of the counted ones are the first of those that are left.
use Rattle.std.proofs.Common.{◌≡◌, ◌-◌, List, not, length, filter, take, ap, ◌∙◌, rules}
use Rattle.std.proofs.lemmas.Fn.{filter_same}
use Rattle.psb_model.specs.Effects.{is_whole_listed}
use Rattle.psb_model.specs.declared.entries.DebtEntry.{DebtEntry}
use Rattle.psb_model.specs.Words.{occurs}
use Rattle.psb_model.specs.State.{debt_key}
use Rattle.peer_debts.specs.Debts.{count_at}
use Rattle.peer_lists.specs.ListViews.{ListView}
use Rattle.peer_debts.proofs.Counts.{knows_back}
use Rattle.peer_debts.proofs.debt_list.DebtList.take_back.Goals as goal

pub invariant_of-self : goal.invariant_of-self
invariant_of-self c =
    let l = c.self.inside in
    let p = is_whole_listed c.args.objects.now in
    let kept : c.retain.new.self.items ≡ filter (λ d. not (p d)) l.rows.items = filter_same _ (λ d. not (p d)) _ (λ x b f' k. search rules) l.rows.items c.retain.new.self.items c.retain.ensures.filtered in
    knows_back p l.rows.items c.retain.new.self.items l.counts.entries c.take_counts_back-counted.new.counts.entries l.counted c.take_counts_back-counted.result c.self.invariant kept
    (c.take_counts_back-counted.ensures.left ∙ ap (λ (x : List DebtEntry). length (filter (λ d. not (p d)) (take l.counted x))) c.deref.ensures.value)
    (λ o. c.take_counts_back-counted.ensures.counts o ∙ ap (λ (x : List DebtEntry). count_at l.counts.entries o - occurs debt_key (filter p (take l.counted x)) o) c.deref.ensures.value)

pub returns-clause-items : goal.returns-clause-items
returns-clause-items c =
    let l = c.self.inside in
    let p = is_whole_listed c.args.objects.now in
    filter_same _ (λ d. not (p d)) _ (λ x b f' k. search rules) l.rows.items c.retain.new.self.items c.retain.ensures.filtered
    ∙ ap (λ (v : ListView DebtEntry). filter (λ d. not (p d)) v.items) c.self.view_is
