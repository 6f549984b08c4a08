use Rattle.std.proofs.Common.{◌≡◌, sym, ◌∙◌, subst}
use Rattle.psb_model.specs.History.{state}
use Rattle.node_history.proofs.Ordering.{IsOrdered, ordered_state}
use Rattle.node_history.proofs.history.Reader.prepare.Goals as goal

pub of-requires-clause-own : goal.of-requires-clause-own
of-requires-clause-own c =
    let a = c.requires.known in
    let is : c.make_room-2.new.self.state ≡ state a.history = c.make_room-2.ensures.state ∙ a.state_is in
    (subst IsOrdered (sym is) (ordered_state a.history a.lawful)).own

pub of-requires-clause-kept : goal.of-requires-clause-kept
of-requires-clause-kept c =
    let a = c.requires.known in
    let is : c.make_room-2.new.self.state ≡ state a.history = c.make_room-2.ensures.state ∙ a.state_is in
    (subst IsOrdered (sym is) (ordered_state a.history a.lawful)).kept
