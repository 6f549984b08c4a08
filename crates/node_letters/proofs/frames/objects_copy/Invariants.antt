use Rattle.std.proofs.Common.{◌≡◌, true, take}
use Rattle.std.specs.List.{list_all}
use Rattle.wire_codec.specs.Fields.{is_object}
use Rattle.node_letters.proofs.frames.objects_copy.Given as goal

abbrev pub invariant-loop-object : goal.invariant-loop-object
invariant-loop-object l = record {
  same : l.copies.items ≡ take l.object-index l.objects;
  fit : list_all is_object l.copies.items ≡ true;
}
