use Rattle.std.proofs.Common.{◌≡◌, nat_lt, drop}
use Rattle.std.specs.List.{list_all}
use Rattle.wire_codec.specs.declared.limits.TheConstants.{MOST_OBJECTS}
use Rattle.wire_codec.proofs.views.places_fit.Given as goal

abbrev pub invariant-loop-j : goal.invariant-loop-j
invariant-loop-j l = list_all (λ place. nat_lt place MOST_OBJECTS) l.places ≡ list_all (λ place. nat_lt place MOST_OBJECTS) (drop l.j l.places)
