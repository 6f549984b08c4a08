-- What the tree has after the walk, and the newest.
use Rattle.std.proofs.Common.{true, rules, ◌∙◌, ap}
use Rattle.own_chunks.specs.OwnList.{lifts}
use Rattle.own_chunks.proofs.OwnTrees.{marked_pairs, lifted_marks}
use Rattle.own_chunks.specs.OwnTree.{OwnView}
use Rattle.psb_model.specs.Effects.{set_marks}
use Rattle.own_chunks.proofs.own.Own.lift.Goals as goal

pub returns : goal.returns
returns c =
    let t = c.self.inside in
    lifted_marks c.args.names.now t.tree.entries c.retain.new.self.entries t.latest c.if_lifted-self-inside.result (marked_pairs _ (λ e. true) (lifts c.args.names.now) _ (λ k v b w f' called. search rules) _ _ c.retain.ensures.filtered) c.if_lifted-self-inside.ensures
    ∙ ap (λ (v : OwnView). set_marks (lifts c.args.names.now) v.items) c.self.view_is
