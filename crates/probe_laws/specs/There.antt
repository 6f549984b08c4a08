-- What the peers have of the node's chunks, or lost, it still has itself.
use Rattle.std.specs.Prelude.{◌≡◌, ℕ, true, List}
use Rattle.psb_bytes.specs.declared.ids.Object.TheVariants.{Chunk}
use Rattle.psb_model.specs.State.{row, own_has}
use Rattle.psb_model.specs.History.{state, is_lawful}
use Rattle.psb_model.specs.declared.change.Change.{Change}
use Rattle.psb_machine.specs.Volatile.{still_there}

-- a chunk that stands in a row, there or in debt, is one of the node's own
abbrev pub RowsNameOwn : Type 0
RowsNameOwn = (h : List Change) (p : ℕ) (name : List ℕ) → is_lawful h ≡ true → still_there (row (state h) p) (Chunk name) ≡ true → own_has (state h).own name ≡ true
