-- Names that ascend are searched by halves.
use Rattle.std.proofs.Common.{◌∙◌, []}
use Rattle.psb_bytes.specs.declared.ids.Object.TheVariants.{Chunk}
use Rattle.psb_model.proofs.Searched.{searched, ascending}
use Rattle.psb_model.proofs.snapshots.has_name.Goals as goal

pub returns : goal.returns
returns c = c.is_ok.ensures.value ∙ (searched Chunk [] c.args.names.now (Chunk c.args.name.now) c.binary_search.result (ascending c.args.names.now c.requires) c.binary_search.ensures.bound c.binary_search.ensures.position).0
