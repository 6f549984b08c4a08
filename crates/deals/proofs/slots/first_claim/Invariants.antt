use Rattle.std.proofs.Common.{◌≡◌, drop}
use Rattle.psb_machine.specs.Deals.{first_slot, slots_of}
use Rattle.deals.specs.Sought.{is_sought}
use Rattle.deals.proofs.slots.first_claim.Given as goal

abbrev pub invariant-loop-j : goal.invariant-loop-j
invariant-loop-j l = first_slot (is_sought l.sought l.ledger.state l.peer) (slots_of l.claims) ≡ first_slot (is_sought l.sought l.ledger.state l.peer) (drop l.j (slots_of l.claims))
