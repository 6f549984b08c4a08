use Rattle.std.proofs.Common.{◌-◌, ◌^◌}
use Rattle.psb_model.specs.State.{row, in_key}
use Rattle.psb_model.specs.Proposing.{gives}
use Rattle.next_deals.proofs.Reaching.{Gathers}
use Rattle.next_deals.proofs.slots.slots_to_give.Given as goal

abbrev pub invariant-loop-entry : goal.invariant-loop-entry
invariant-loop-entry l = Gathers in_key (gives l.ledger.state l.peer) (row l.ledger.state l.peer).ins l.from l.most l.numbers.items

abbrev pub decreases-loop-entry : goal.decreases-loop-entry
decreases-loop-entry l = 2 ^ 32 - l.from
