use Rattle.std.proofs.Common.{◌≡◌, map, take}
use Rattle.std.specs.String.{string_bytes}
use Rattle.std.specs.Map.{keys_of}
use Rattle.psb_station.specs.Entries.{entries_of}
use Rattle.psb_station.proofs.mem_tree.Tree.paths.Given as goal

abbrev pub invariant-loop-i : goal.invariant-loop-i
invariant-loop-i l = map string_bytes l.paths.items ≡ take l.i (keys_of (entries_of l.self.entries))
