use Rattle.std.proofs.Common.{◌≡◌, ◌≤◌, ◌+◌, length, take}
use Rattle.std.specs.Prelude.{flat_map}
use Rattle.skeleton.specs.Texts.{entry_bytes}
use Rattle.skeleton.specs.declared.limits.TheConstants.{MOST_TEXT_BYTES}
use Rattle.skeleton.proofs.writing.text_len.Given as goal

abbrev pub invariant-loop-entry : goal.invariant-loop-entry
invariant-loop-entry l = record { exact : l.len ≡ 12 + length (flat_map entry_bytes (take l.entry-index l.entries)); room : l.len ≤ MOST_TEXT_BYTES }
