-- Which bytes a peer gets back.
use Rattle.std.specs.Prelude.{ℕ, Bool, List}
use Rattle.psb_bytes.specs.declared.ids.Object.TheVariants.{Chunk}
use Rattle.psb_model.specs.Words.{has}
use Rattle.psb_model.specs.State.{State, row, in_key}

-- the peer has a chunk of this name here
abbrev pub has_chunk : State → ℕ → List ℕ → Bool
has_chunk s p name = has in_key (row s p).ins (Chunk name)
