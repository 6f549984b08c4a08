use Rattle.psb_model.specs.Effects.{kept_lists}
use Rattle.own_chunks.proofs.Walks.{own_left}
use Rattle.sampling.proofs.Walking.{ListsTo}
use Rattle.sampling.proofs.wanted.wanted_names.Given as goal

abbrev pub invariant-loop-next : goal.invariant-loop-next
invariant-loop-next l = ListsTo l.ledger.state.own (kept_lists l.ledger.state.kept) l.next l.names.items

abbrev pub decreases-loop-next : goal.decreases-loop-next
decreases-loop-next l = own_left l.next l.ledger.state.own
