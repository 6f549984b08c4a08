-- The laws of sealing, for each plain text and each body.
use Rattle.std.specs.Prelude.{◌≡◌, ℕ, ◌⊎◌, List}
use Rattle.psb_digest.specs.Clashes.{Clashes}
use Rattle.convergent_seal.specs.Sealing.{sealed_ref, sealed, Opens, opened}

-- equal plain texts have one ref and one body
abbrev pub EqualsSealAlike : Type 0
EqualsSealAlike = (p q : List ℕ) → p ≡ q → (sealed_ref p ≡ sealed_ref q) × (sealed p ≡ sealed q)

-- the sealed bytes open under the ref, and give the plain ones back
abbrev pub SealedOpens : Type 0
SealedOpens = (plain : List ℕ) → Opens (sealed_ref plain) (sealed plain) × (opened (sealed_ref plain) (sealed plain) ≡ plain)

-- a body that opens under the ref of a plain text is its sealed bytes, or hashes as they do
abbrev pub OpensOrClashes : Type 0
OpensOrClashes = (plain body : List ℕ) → Opens (sealed_ref plain) body → (body ≡ sealed plain) ⊎ Clashes body (sealed plain)
