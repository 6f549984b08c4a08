use Rattle.snapshots.proofs.GotReads as got
use Rattle.snapshots.proofs.laws.bad_texts_are_met.Goals as goal

pub returns : goal.returns
returns c = got.bad_texts_are_met
