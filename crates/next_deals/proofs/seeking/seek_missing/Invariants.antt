use Rattle.std.proofs.Common.{◌≡◌, true}
use Rattle.psb_model.specs.Proposing.{none_missing}
use Rattle.next_deals.specs.Searches.{is_past_own, own_behind}
use Rattle.next_deals.proofs.seeking.seek_missing.Given as goal

abbrev pub invariant-loop-name : goal.invariant-loop-name
invariant-loop-name l = none_missing (is_past_own l.reached l.most) l.ledger.state l.peer ≡ true

abbrev pub decreases-loop-name : goal.decreases-loop-name
decreases-loop-name l = own_behind l.reached l.ledger.state.own
