-- Which objects are chunks.
use Rattle.std.specs.Prelude.{Bool, true, false}
use Rattle.psb_bytes.specs.declared.ids.Object.{Object}
use Rattle.psb_bytes.specs.declared.ids.Object.TheVariants.{Chunk, Slot}

abbrev pub is_chunk : Object → Bool
is_chunk (Chunk n) = true
is_chunk (Slot n) = false
