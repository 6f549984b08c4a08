use Rattle.std.proofs.Common.{refl}
use Rattle.chunk_store.specs.declared.owner.Owner.TheVariants.{Own}
use Rattle.node_history.proofs.Dropping.{drop_start, drop_lost_next}
use Rattle.node_history.proofs.entering.drop_own.Goals as goal

pub loop-name-init : goal.loop-name-init
loop-name-init c = drop_start c.args.names.now Own _ (λ q. refl)

pub loop-name-preserved : goal.loop-name-preserved
loop-name-preserved c =
    drop_lost_next c.args.names.now c.loop-name.names c.drop_lost.new.names c.args.left.now.state.own c.args.dropped.now c.loop-name.name-index c.name-item.result c.loop-name-test.true c.name-item.is c.loop-name.invariant c.drop_lost.ensures
