use Rattle.node_core.proofs.Ticking.{ticked_reacts, ticked_reacts_so}
use Rattle.node_core.proofs.node.Node.on_tick.Goals as goal

pub returns-in-Ok-clause-exact : goal.returns-in-Ok-clause-exact
returns-in-Ok-clause-exact g c = λ tells n k s. ticked_reacts c.in-Ok.reaction c.ticked.result n c.args.peer (c.in-Ok.ensures.exact tells n k s) c.ticked.ensures.change c.ticked.ensures.note c.ticked.ensures.dropped c.ticked.ensures.out

pub returns-in-Ok-clause-unread : goal.returns-in-Ok-clause-unread
returns-in-Ok-clause-unread g c = λ n k bare. ticked_reacts c.in-Ok.reaction c.ticked.result n c.args.peer (c.in-Ok.ensures.unread n k bare) c.ticked.ensures.change c.ticked.ensures.note c.ticked.ensures.dropped c.ticked.ensures.out

pub returns-in-Ok-clause-so : goal.returns-in-Ok-clause-so
returns-in-Ok-clause-so g c = λ n k. ticked_reacts_so c.in-Ok.reaction c.ticked.result n c.args.peer (c.in-Ok.ensures.so n k) c.ticked.ensures.change c.ticked.ensures.dropped
