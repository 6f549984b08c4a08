use Rattle.own_chunks.proofs.Walks.{own_left}
use Rattle.node_history.proofs.Walking.{WalkedTo}
use Rattle.psb_model.specs.Effects.{kept_lists, kept_without}
use Rattle.node_history.proofs.entering.unlisted_names.Given as goal

abbrev pub invariant-loop-next : goal.invariant-loop-next
invariant-loop-next l = WalkedTo l.past.state.own (kept_lists (kept_without l.number l.past.state.kept)) l.next l.names.items

abbrev pub decreases-loop-next : goal.decreases-loop-next
decreases-loop-next l = own_left l.next l.past.state.own
