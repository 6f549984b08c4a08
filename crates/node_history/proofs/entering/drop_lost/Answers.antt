use Rattle.std.proofs.Common.{sym, ◌∙◌}
use Rattle.node_history.proofs.Dropping.{lost_none, lost_one}
use Rattle.node_history.proofs.entering.drop_lost.Goals as goal

pub returns-then-not-has_own : goal.returns-then-not-has_own
returns-then-not-has_own c =
    lost_one c.args.names.now c.drop_owner.new.names c.args.left.now.state.own c.args.name.now (sym c.has_own.ensures ∙ c.if-not-has_own.true) c.drop_owner.ensures

pub returns-else-not-has_own : goal.returns-else-not-has_own
returns-else-not-has_own c =
    lost_none c.args.names.now c.args.left.now.state.own c.args.name.now (sym c.has_own.ensures ∙ c.if-not-has_own.false)
