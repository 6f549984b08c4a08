use Rattle.rolling_chunks.proofs.Behind.{cuts_behind}
use Rattle.rolling_chunks.proofs.laws.cuts_behind.Goals as goal

pub returns : goal.returns
returns c = cuts_behind
