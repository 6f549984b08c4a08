use Rattle.std.proofs.Common.{◌-◌, ◌^◌}
use Rattle.psb_model.specs.State.{row, out_key}
use Rattle.psb_model.specs.Proposing.{fills}
use Rattle.next_deals.proofs.Reaching.{Gathers}
use Rattle.next_deals.proofs.slots.slots_to_fill.Given as goal

abbrev pub invariant-loop-entry : goal.invariant-loop-entry
invariant-loop-entry l = Gathers out_key (fills l.ledger.state l.peer l.probed) (row l.ledger.state l.peer).outs l.from l.most l.numbers.items

abbrev pub decreases-loop-entry : goal.decreases-loop-entry
decreases-loop-entry l = 2 ^ 32 - l.from
