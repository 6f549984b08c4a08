use Rattle.std.proofs.Common.{◌≡◌, ◌++◌, length, take}
use Rattle.std.specs.List.{flat_map}
use Rattle.psb_bytes.specs.Numbers.{u16_bytes}
use Rattle.wire_codec.proofs.writing.put_places.Given as goal

abbrev pub invariant-loop-place : goal.invariant-loop-place
invariant-loop-place l = l.out.items ≡ l.fn.out.items ++ u16_bytes (length l.places) ++ flat_map u16_bytes (take l.place-index l.places)
