-- Convergent sealing: a piece is sealed with a key that is made of its own hash, so that equal pieces
-- seal to equal bytes wherever they are met, and is named by the hash of its sealed bytes.
use Rattle.std.specs.Prelude.{◌≡◌, ℕ, List, ◌++◌, length, codes}
use Rattle.psb_bytes.specs.declared.ids.Ref.{Ref}
use Rattle.psb_digest.specs.Hashes.{sha}
use Rattle.psb_digest.specs.Words.{masked}

-- the handle of a plain text
abbrev pub handle_of : List ℕ → List ℕ
handle_of plain = sha plain

-- the key of a handle
abbrev pub seal_key : List ℕ → List ℕ
seal_key handle = sha (codes "psb key" ++ handle)

-- the sealed bytes: the plain ones xored with the keystream of the handle's key, stream 0, from place 0
abbrev pub sealed : List ℕ → List ℕ
sealed plain = masked (seal_key (handle_of plain)) 0 plain

-- the ref of a plain text
abbrev pub sealed_ref : List ℕ → Ref
sealed_ref plain = record { name = sha (sealed plain); handle = handle_of plain; len = length plain }

-- the body is the one that the ref names, as far as a hash can tell
pub record Opens (r : Ref) (body : List ℕ) : Type 0 where
  pub named : sha body ≡ r.name
  pub long : length body ≡ r.len

-- what the body opens to under the ref: its bytes xored with the keystream of the handle's key
abbrev pub opened : Ref → List ℕ → List ℕ
opened r body = masked (seal_key r.handle) 0 body

-- what a contract sees of a sealed piece
pub record Piece : Type 0 where
  pub reference : Ref
  pub body : List ℕ
