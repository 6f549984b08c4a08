-- Claims (after Samsara, SOSP 2003): bytes that a node can make again from its seed. That nobody without the seed can make
-- them rests on the hash and the cipher, and is no statement here.
use Rattle.std.specs.Prelude.{ℕ, zero, suc, ◌+◌, ◌*◌, List, [], ◌++◌, codes}
use Rattle.psb_digest.specs.Hashes.{sha}
use Rattle.psb_digest.specs.Words.{masked}

-- what a node's claims are made from, and what masks them
unfoldable pub claim_secret : List ℕ → List ℕ
claim_secret seed = sha (codes "psb claim secret" ++ seed)

unfoldable pub claim_mask : List ℕ → List ℕ
claim_mask seed = sha (codes "psb claim mask" ++ seed)

-- link k of the chain of a secret: each is the hash of the secret and the link before it
unfoldable pub link : List ℕ → ℕ → List ℕ
link secret zero = sha secret
link secret (suc k) = sha (secret ++ link secret k)

-- n links from link k on, joined
unfoldable pub links : List ℕ → ℕ → ℕ → List ℕ
links secret k zero = []
links secret k (suc n) = links secret k n ++ link secret (k + n)

-- the 512 bytes of claim i: sixteen links, masked
unfoldable pub claim : List ℕ → ℕ → List ℕ
claim seed i = masked (claim_mask seed) i (links (claim_secret seed) (16 * i) 16)
