use Rattle.std.proofs.Common.{◌≡◌}
use Rattle.claims.specs.Chain.{first_link}
use Rattle.claims.specs.Source.{HasNone}
use Rattle.claims.proofs.walk.Walk.home_ahead.Given as goal

abbrev pub invariant-loop-i : goal.invariant-loop-i
invariant-loop-i l = record { at : l.begins ≡ first_link l.self.seed l.i; none : HasNone l.self.seed l.body l.self.count l.i }
