use Rattle.std.proofs.Common.{take, not, ◌&&◌}
use Rattle.chunk_store.specs.declared.owner.Owner.TheVariants.{Own}
use Rattle.psb_model.specs.Words.{name_listed}
use Rattle.psb_model.specs.State.{own_has}
use Rattle.node_history.specs.Names.{Drops}
use Rattle.node_history.proofs.entering.drop_own.Given as goal

abbrev pub invariant-loop-name : goal.invariant-loop-name
invariant-loop-name l = Drops l.fn.names l.names Own (λ q. name_listed (take l.name-index l.fn.dropped) q && not (own_has l.left.state.own q))
