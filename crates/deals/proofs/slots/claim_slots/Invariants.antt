use Rattle.std.proofs.Common.{◌≡◌, take}
use Rattle.psb_machine.specs.Deals.{slots_of}
use Rattle.deals.proofs.slots.claim_slots.Given as goal

abbrev pub invariant-loop-j : goal.invariant-loop-j
invariant-loop-j l = l.slots.items ≡ take l.j (slots_of l.claims)
