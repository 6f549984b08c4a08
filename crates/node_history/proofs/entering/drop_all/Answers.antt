use Rattle.std.proofs.Common.{[], refl, take}
use Rattle.psb_model.specs.Words.{name_eq, name_listed}
use Rattle.node_history.proofs.Dropping.{drop_start, drops_then, drop_next}
use Rattle.node_history.proofs.entering.drop_all.Goals as goal

pub loop-name-init : goal.loop-name-init
loop-name-init c = drop_start c.args.names.now c.args.owner.now (name_listed []) (λ q. refl)

pub loop-name-preserved : goal.loop-name-preserved
loop-name-preserved c =
    drop_next c.args.names.now c.drop_owner.new.names c.args.owner.now c.args.dropped.now c.loop-name.name-index c.name-item.result c.loop-name-test.true c.name-item.is
    (drops_then c.args.names.now c.loop-name.names c.drop_owner.new.names c.args.owner.now (name_listed (take c.loop-name.name-index c.args.dropped.now)) (name_eq c.name-item.result) c.loop-name.invariant c.drop_owner.ensures)
