use Rattle.rolling_chunks.proofs.TextCuts.{cuts_are_least}
use Rattle.rolling_chunks.proofs.laws.cuts_are_least.Goals as goal

pub returns : goal.returns
returns c = cuts_are_least
