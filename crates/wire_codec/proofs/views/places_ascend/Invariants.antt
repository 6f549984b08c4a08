use Rattle.wire_codec.proofs.Ascending.{IsOrderedTo}
use Rattle.wire_codec.proofs.views.places_ascend.Given as goal

abbrev pub invariant-loop-j : goal.invariant-loop-j
invariant-loop-j l = IsOrderedTo l.places l.j
