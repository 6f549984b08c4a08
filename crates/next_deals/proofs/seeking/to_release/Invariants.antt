use Rattle.std.proofs.Common.{◌≡◌, true}
use Rattle.psb_model.specs.State.{row}
use Rattle.psb_model.specs.Proposing.{may_release}
use Rattle.next_deals.specs.Searches.{outs_behind}
use Rattle.next_deals.proofs.Reaching.{skipped}
use Rattle.next_deals.proofs.seeking.to_release.Given as goal

abbrev pub invariant-loop-entry : goal.invariant-loop-entry
invariant-loop-entry l = skipped (may_release l.ledger.state l.peer l.probed) l.passed (row l.ledger.state l.peer).outs ≡ true

abbrev pub decreases-loop-entry : goal.decreases-loop-entry
decreases-loop-entry l = outs_behind l.passed (row l.ledger.state l.peer).outs
