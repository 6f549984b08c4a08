use Rattle.std.proofs.Common.{◌≡◌, drop}
use Rattle.psb_settings.specs.Settings.{have_distinct_ids}
use Rattle.psb_settings.proofs.read.have_distinct_ids.Given as goal

abbrev pub invariant-loop-i : goal.invariant-loop-i
invariant-loop-i l = have_distinct_ids (drop l.i l.peers) ≡ have_distinct_ids l.peers
