use Rattle.std.proofs.Common.{map}
use Rattle.wire_codec.proofs.Ascending.{IsOrderedTo}
use Rattle.wire_codec.proofs.views.claims_ascend.Given as goal

abbrev pub invariant-loop-j : goal.invariant-loop-j
invariant-loop-j l = IsOrderedTo (map (λ c. c.slot) l.claims) l.j
