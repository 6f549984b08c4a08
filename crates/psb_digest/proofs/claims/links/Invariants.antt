use Rattle.std.proofs.Common.{◌≡◌, ◌+◌, ◌-◌, ◌*◌, List, ℕ, length, take}
use Rattle.psb_digest.specs.Claims.{link, links}
use Rattle.psb_digest.proofs.claims.links.Given as goal

-- the links before j are written, and the last of them is at hand
pub record Written (secret : List ℕ) (k : ℕ) (bytes last : List ℕ) (j : ℕ) : Type 0 where
  pub written : take (32 * j) bytes ≡ links secret k j
  pub long : length bytes ≡ 512
  pub at_hand : last ≡ link secret (k + (j - 1))

abbrev pub invariant-loop-j : goal.invariant-loop-j
invariant-loop-j l = Written l.secret l.k l.bytes l.next l.j
