use Rattle.std.proofs.Common.{ℕ, ◌≡◌, List, take}
use Rattle.psb_bytes.specs.declared.ids.Object.TheVariants.{Chunk}
use Rattle.psb_model.specs.Words.{name_listed, has}
use Rattle.psb_model.specs.State.{debt_key}
use Rattle.node_history.proofs.entering.row_names.Given as goal

abbrev pub invariant-loop-row : goal.invariant-loop-row
invariant-loop-row l = (q : List ℕ) → name_listed l.names.items q ≡ has debt_key (take l.row-index l.rows) (Chunk q)
