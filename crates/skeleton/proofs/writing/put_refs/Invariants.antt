use Rattle.std.proofs.Common.{◌≡◌, ◌++◌, true, length, take}
use Rattle.std.specs.Prelude.{flat_map}
use Rattle.std.specs.List.{list_all}
use Rattle.psb_bytes.specs.Numbers.{u32_bytes}
use Rattle.skeleton.specs.Entries.{has_digests}
use Rattle.skeleton.specs.Texts.{ref_bytes}
use Rattle.skeleton.proofs.writing.put_refs.Given as goal

abbrev pub invariant-loop-r : goal.invariant-loop-r
invariant-loop-r l = record {
  written : l.out.items ≡ l.fn.out.items ++ (u32_bytes (length l.refs) ++ flat_map ref_bytes (take l.r-index l.refs));
  digests : list_all has_digests (take l.r-index l.refs) ≡ true;
}
