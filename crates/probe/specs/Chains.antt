-- The chained hash of a probe (Samsara, SOSP 2003; the hash and the order are this project's own): it starts with the
-- nonce, and each object's bytes are hashed onto what stands before them.
use Rattle.std.specs.Prelude.{◌≡◌, ℕ, List, [], ◌∷◌, ◌++◌}
use Rattle.psb_digest.specs.Hashes.{sha}

-- the value that the chain has with one object more
abbrev pub link_on : List ℕ → List ℕ → List ℕ
link_on value object = sha (value ++ object)

-- the value of a chain over the objects in their order, from this value on
unfoldable pub chain : List ℕ → List (List ℕ) → List ℕ
chain value [] = value
chain value (o ∷ os) = chain (link_on value o) os

-- A chain that goes on from the value of another one is the chain over the objects of both, so that who holds only some
-- of them can hand the value on to who holds the next.
abbrev pub ChainsGoOn : Type 0
ChainsGoOn = (nonce : List ℕ) (os ps : List (List ℕ)) → chain (chain nonce os) ps ≡ chain nonce (os ++ ps)
