use Rattle.std.proofs.Common.{◌≡◌, drop}
use Rattle.psb_machine.specs.Deals.{first_slot}
use Rattle.deals.specs.Sought.{is_sought}
use Rattle.deals.proofs.slots.first_slot.Given as goal

abbrev pub invariant-loop-j : goal.invariant-loop-j
invariant-loop-j l = first_slot (is_sought l.sought l.ledger.state l.peer) l.slots ≡ first_slot (is_sought l.sought l.ledger.state l.peer) (drop l.j l.slots)
