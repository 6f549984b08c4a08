use Rattle.rolling_chunks.proofs.Covering.{span_sizes}
use Rattle.rolling_chunks.proofs.laws.span_sizes.Goals as goal

pub returns : goal.returns
returns c = span_sizes
