use Rattle.claims.specs.Source.{HasNone}
use Rattle.claims.proofs.walk.Walk.home_of.Given as goal

abbrev pub invariant-loop-i : goal.invariant-loop-i
invariant-loop-i l = HasNone l.self.seed l.body 0 l.i
