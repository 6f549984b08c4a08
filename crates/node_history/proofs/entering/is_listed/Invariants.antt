use Rattle.std.proofs.Common.{◌≡◌, false, drop}
use Rattle.psb_model.specs.Effects.{kept_lists, kept_without}
use Rattle.node_history.proofs.entering.is_listed.Given as goal

abbrev pub invariant-loop-i : goal.invariant-loop-i
invariant-loop-i l = kept_lists (kept_without l.number (drop l.i l.kept)) l.name ≡ false
