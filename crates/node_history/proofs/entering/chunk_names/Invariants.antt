use Rattle.std.proofs.Common.{ℕ, ◌≡◌, List, take}
use Rattle.psb_bytes.specs.declared.ids.Object.TheVariants.{Chunk}
use Rattle.psb_model.specs.Words.{name_listed, listed}
use Rattle.node_history.proofs.entering.chunk_names.Given as goal

abbrev pub invariant-loop-object : goal.invariant-loop-object
invariant-loop-object l = (q : List ℕ) → name_listed l.names.items q ≡ listed (take l.object-index l.objects) (Chunk q)
