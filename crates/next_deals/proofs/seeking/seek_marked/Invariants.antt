use Rattle.std.proofs.Common.{◌≡◌, true}
use Rattle.psb_model.specs.State.{row}
use Rattle.psb_model.specs.Proposing.{none_marked}
use Rattle.next_deals.specs.Searches.{is_past, outs_behind}
use Rattle.next_deals.proofs.seeking.seek_marked.Given as goal

abbrev pub invariant-loop-name : goal.invariant-loop-name
invariant-loop-name l = none_marked (is_past l.reached) l.ledger.state.own (row l.ledger.state l.peer).outs ≡ true

abbrev pub decreases-loop-name : goal.decreases-loop-name
decreases-loop-name l = outs_behind l.reached (row l.ledger.state l.peer).outs
