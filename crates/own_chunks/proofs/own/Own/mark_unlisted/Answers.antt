-- What the tree keeps after the walk, and the newest where it is left.
use Rattle.std.proofs.Common.{map, not, ◌||◌, rules, ◌∙◌, ap}
use Rattle.psb_model.specs.Effects.{is_named, given_up, set_marks}
use Rattle.peer_account.specs.View.{named_row}
use Rattle.own_chunks.specs.OwnList.{marks, own_key}
use Rattle.own_chunks.proofs.OwnTrees.{marked_pairs, left_marked}
use Rattle.own_chunks.specs.OwnTree.{OwnView}
use Rattle.peer_lists.specs.Entries.{in_order}
use Rattle.own_chunks.proofs.own.Own.mark_unlisted.Goals as goal

pub returns : goal.returns
returns c =
    let t = c.self.inside in
    let rows = map named_row c.args.accounts.now in
    let ordered = ap (λ (v : OwnView). in_order own_key v.items) c.self.view_is ∙ c.requires.ordered in
    left_marked c.args.kept.now rows t.tree.entries c.retain.new.self.entries t.latest c.if_left-self-inside.result ordered (marked_pairs _ (λ e. not e.marked || is_named rows e.name) (marks c.args.kept.now) _ (λ k v b w f' called. search rules) _ _ c.retain.ensures.filtered) c.if_left-self-inside.ensures
    ∙ ap (λ (v : OwnView). given_up rows (set_marks (marks c.args.kept.now) v.items)) c.self.view_is
