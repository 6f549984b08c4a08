use Rattle.std.proofs.Common.{◌≡◌, ℕ, ◌+◌}
use Rattle.psb_digest.specs.Claims.{link}
use Rattle.claims.proofs.chain.link_further.Given as goal

abbrev pub invariant-loop-step : goal.invariant-loop-step
invariant-loop-step l = (k : ℕ) → l.fn.begins ≡ link l.secret k → l.last ≡ link l.secret (k + l._step)
