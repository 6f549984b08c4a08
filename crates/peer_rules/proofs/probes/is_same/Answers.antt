use Rattle.std.proofs.Common.{◌∙◌}
use Rattle.peer_rules.proofs.Asked.{pointwise_same}
use Rattle.peer_rules.proofs.probes.is_same.Goals as goal

pub returns : goal.returns
returns c = c.eq.ensures ∙ pointwise_same c.args.a.now c.args.b.now
