use Rattle.rolling_chunks.proofs.Covering.{spans_cover}
use Rattle.rolling_chunks.proofs.laws.spans_cover.Goals as goal

pub returns : goal.returns
returns c = spans_cover
