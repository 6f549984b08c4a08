use Rattle.std.proofs.Common.{◌≡◌, take}
use Rattle.psb_machine.specs.Deals.{claims_joined}
use Rattle.deals.proofs.taking.joined.Given as goal

abbrev pub invariant-loop-j : goal.invariant-loop-j
invariant-loop-j l = l.all.items ≡ claims_joined (take l.j l.claims)
