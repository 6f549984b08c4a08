-- What the tree keeps after the walk, and the newest where it is kept.
use Rattle.std.proofs.Common.{map, filter, not, ◌||◌, rules, ◌∙◌, ap}
use Rattle.psb_model.specs.declared.entries.OwnEntry.{OwnEntry}
use Rattle.psb_model.specs.Effects.{is_named, given_up}
use Rattle.peer_account.specs.View.{named_row}
use Rattle.own_chunks.specs.OwnList.{own_key, own_entry}
use Rattle.own_chunks.proofs.OwnTrees.{marked_pairs, marks_same, left_named}
use Rattle.own_chunks.specs.OwnTree.{OwnView}
use Rattle.peer_lists.specs.Entries.{in_order}
use Rattle.own_chunks.proofs.own.Own.give_up.Goals as goal

pub returns : goal.returns
returns c =
    let t = c.self.inside in
    let rows = map named_row c.args.accounts.now in
    let q : OwnEntry → _ = λ e. not e.marked || is_named rows e.name in
    let ordered = ap (λ (v : OwnView). in_order own_key v.items) c.self.view_is ∙ c.requires in
    left_named rows t.tree.entries c.retain.new.self.entries t.latest c.if_named-self-inside.result ordered
    (marked_pairs _ q (λ e. e.marked) _ (λ k v b w f' called. search rules) t.tree.entries c.retain.new.self.entries c.retain.ensures.filtered ∙ ap (filter q) (marks_same (map own_entry t.tree.entries)))
    c.if_named-self-inside.ensures
    ∙ ap (λ (v : OwnView). given_up rows v.items) c.self.view_is
