use Rattle.rolling_chunks.proofs.TextCuts.{cuts_stand}
use Rattle.rolling_chunks.proofs.laws.cuts_stand.Goals as goal

pub returns : goal.returns
returns c = cuts_stand
