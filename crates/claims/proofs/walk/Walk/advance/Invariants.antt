use Rattle.std.proofs.Common.{◌≡◌, ◌+◌}
use Rattle.claims.proofs.walk.Walk.advance.Given as goal

abbrev pub invariant-loop-step : goal.invariant-loop-step
invariant-loop-step l = record { seed : l.self.seed ≡ l.fn.self.seed; count : l.self.count ≡ l.fn.self.count + l._step }
