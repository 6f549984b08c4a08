use Rattle.std.proofs.Common.{false, refl}
use Rattle.node_history.proofs.Dropping.{drop_start, drop_step}
use Rattle.node_history.proofs.entering.drop_owner.Goals as goal

pub returns : goal.returns
returns c = drop_step c.args.names.now c.args.names.now c.remove.new.self c.args.owner (λ q. false) c.args.name.now c.remove.result (drop_start c.args.names.now c.args.owner (λ q. false) (λ q. refl)) c.remove.ensures.owners c.remove.ensures.last c.remove.ensures.records c.remove.ensures.not_there c.remove.ensures.same
