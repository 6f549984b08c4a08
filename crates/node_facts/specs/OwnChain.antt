-- What a node has itself of the objects that a probe of its own asks for.
use Rattle.std.specs.Prelude.{◌≡◌, ◌⊎◌, Bool, true, false, List}
use Rattle.std.specs.List.{list_all}
use Rattle.psb_bytes.specs.declared.ids.Object.{Object}
use Rattle.psb_bytes.specs.declared.ids.Object.TheVariants.{Chunk, Slot}
use Rattle.psb_model.specs.State.{State, own_has}

-- a chunk of its own, or a slot, whose claim it makes anew
abbrev pub is_own : State → Object → Bool
is_own s (Chunk name) = own_has s.own name
is_own s (Slot n) = true

abbrev pub are_own : State → List Object → Bool
are_own s objects = list_all (is_own s) objects

abbrev pub is_slot : Object → Bool
is_slot (Chunk name) = false
is_slot (Slot n) = true

abbrev pub has_no_chunk : List Object → Bool
has_no_chunk objects = list_all is_slot objects

-- No body is read for them: some chunk is not the node's own, or there is no chunk.
abbrev pub ReadsNothing : State → List Object → Type 0
ReadsNothing s objects = (are_own s objects ≡ false) ⊎ (has_no_chunk objects ≡ true)
