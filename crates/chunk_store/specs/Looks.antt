-- What the answer of a comparison says of the body that is held and of the one that is offered.
use Rattle.std.specs.Prelude.{◌≡◌, ◌≢◌, ℕ, Bool, true, false, List, Result, Ok, Err}
use Rattle.psb_digest.specs.Hashes.{sha}
use Rattle.psb_digest.specs.Clashes.{Clashes}
use Rattle.chunk_store.specs.declared.reading.Fit.{Fit}
use Rattle.chunk_store.specs.declared.reading.Fit.TheVariants.{New, Shared}
use Rattle.chunk_store.specs.declared.error.StoreError.{StoreError}
use Rattle.chunk_store.specs.declared.error.StoreError.TheVariants.{Already, Clash, Altered, DiskFault, Memory}

-- Shared says that they are one; a clash is the two, which differ and hash alike; Altered says that they
-- differ and hash apart. The other answers say nothing of them.
abbrev pub Compares : List ℕ → List ℕ → Result Fit StoreError → Type 0
Compares held body (Ok New) = Unit {0}
Compares held body (Ok Shared) = held ≡ body
Compares held body (Err Already) = Unit {0}
Compares held body (Err (Clash c)) = (c ≡ record { first = held; second = body }) × Clashes held body
Compares held body (Err Altered) = (held ≢ body) × (sha held ≢ sha body)
Compares held body (Err DiskFault) = Unit {0}
Compares held body (Err Memory) = Unit {0}

-- whether the two were compared, or there was no memory for it
abbrev pub was_compared : Result Fit StoreError → Bool
was_compared (Ok New) = false
was_compared (Ok Shared) = true
was_compared (Err Already) = false
was_compared (Err (Clash c)) = true
was_compared (Err Altered) = true
was_compared (Err DiskFault) = false
was_compared (Err Memory) = true
