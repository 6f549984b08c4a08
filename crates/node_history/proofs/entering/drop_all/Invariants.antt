use Rattle.std.proofs.Common.{take}
use Rattle.psb_model.specs.Words.{name_listed}
use Rattle.node_history.specs.Names.{Drops}
use Rattle.node_history.proofs.entering.drop_all.Given as goal

abbrev pub invariant-loop-name : goal.invariant-loop-name
invariant-loop-name l = Drops l.fn.names l.names l.owner (name_listed (take l.name-index l.dropped))
