use Rattle.std.proofs.Common.{◌≡◌, ◌++◌, length, take}
use Rattle.std.specs.Prelude.{flat_map}
use Rattle.psb_bytes.specs.Numbers.{u32_bytes}
use Rattle.skeleton.specs.Texts.{entry_bytes}
use Rattle.skeleton.proofs.writing.put_entries.Given as goal

abbrev pub invariant-loop-entry : goal.invariant-loop-entry
invariant-loop-entry l = l.out.items ≡ l.fn.out.items ++ (u32_bytes (length l.entries) ++ flat_map entry_bytes (take l.entry-index l.entries))
