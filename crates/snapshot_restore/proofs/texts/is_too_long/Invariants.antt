use Rattle.std.proofs.Common.{◌≡◌, ◌+◌, take}
use Rattle.skeleton.specs.declared.limits.TheConstants.{MOST_TEXT_BYTES}
use Rattle.skeleton.specs.Entries.{total}
use Rattle.snapshot_restore.proofs.texts.is_too_long.Given as goal

abbrev pub invariant-loop-reference : goal.invariant-loop-reference
invariant-loop-reference l = total (take l.reference-index l.refs) + l.left ≡ MOST_TEXT_BYTES
