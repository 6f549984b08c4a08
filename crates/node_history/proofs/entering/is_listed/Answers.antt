use Rattle.std.proofs.Common.{◌-◌, sym, ◌∙◌, ap, arith}
use Rattle.std.proofs.lemmas.Bool.{ne_eqb}
use Rattle.psb_model.specs.declared.snapshots.Snapshot.{Snapshot}
use Rattle.psb_model.specs.Words.{name_listed}
use Rattle.node_history.proofs.Walking.{one_lists}
use Rattle.node_history.proofs.entering.is_listed.Goals as goal

pub returns-then-lists : goal.returns-then-lists
returns-then-lists c =
    sym (one_lists c.args.number c.args.kept.now (c.loop-i.i - 1) c.index-kept-i.result c.index-kept-i-then-kept-i.result c.args.name.now (omega arith) (ne_eqb _ _ c.if-kept-i.true) (ap (λ (k : Snapshot). name_listed k.names c.args.name.now) (sym c.index-kept-i-then-kept-i.is) ∙ sym c.lists.ensures ∙ c.if-lists.true))
