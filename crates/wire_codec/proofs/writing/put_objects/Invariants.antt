use Rattle.std.proofs.Common.{◌≡◌, ◌++◌, length, take}
use Rattle.std.specs.List.{flat_map}
use Rattle.psb_bytes.specs.Numbers.{u16_bytes}
use Rattle.wire_codec.specs.Fields.{object_bytes}
use Rattle.wire_codec.proofs.writing.put_objects.Given as goal

abbrev pub invariant-loop-object : goal.invariant-loop-object
invariant-loop-object l = l.out.items ≡ l.fn.out.items ++ u16_bytes (length l.objects) ++ flat_map object_bytes (take l.object-index l.objects)
