use Rattle.std.proofs.Common.{◌≡◌, false, drop}
use Rattle.psb_model.specs.Effects.{kept_lists}
use Rattle.psb_model.proofs.snapshots.is_listed.Given as goal

abbrev pub invariant-loop-i : goal.invariant-loop-i
invariant-loop-i l = kept_lists (drop l.i l.kept) l.name ≡ false
