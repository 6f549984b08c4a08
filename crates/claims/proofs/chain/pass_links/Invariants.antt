use Rattle.std.proofs.Common.{◌≡◌, ◌+◌, ◌*◌, List, ℕ, length, take}
use Rattle.psb_digest.specs.Claims.{link, links}
use Rattle.claims.proofs.chain.pass_links.Given as goal

-- the j links from the first on are written, and the next is at hand
pub record Passed (secret first bytes next : List ℕ) (j : ℕ) : Type 0 where
  pub written : (k : ℕ) → first ≡ link secret k → take (32 * j) bytes ≡ links secret k j
  pub long : length bytes ≡ 512
  pub at_hand : (k : ℕ) → first ≡ link secret k → next ≡ link secret (k + j)

abbrev pub invariant-loop-j : goal.invariant-loop-j
invariant-loop-j l = Passed l.secret l.fn.next l.bytes l.next l.j
