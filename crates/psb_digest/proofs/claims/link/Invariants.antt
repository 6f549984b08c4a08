use Rattle.std.proofs.Common.{◌≡◌}
use Rattle.psb_digest.specs.Claims.{link}
use Rattle.psb_digest.proofs.claims.link.Given as goal

abbrev pub invariant-loop-step : goal.invariant-loop-step
invariant-loop-step l = l.last ≡ link l.secret l._step
