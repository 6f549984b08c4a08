use Rattle.std.proofs.Common.{◌≡◌, true, take}
use Rattle.std.specs.List.{list_all}
use Rattle.wire_codec.specs.Fields.{is_digest}
use Rattle.node_letters.proofs.frames.names_copy.Given as goal

abbrev pub invariant-loop-name : goal.invariant-loop-name
invariant-loop-name l = record {
  same : l.copies.items ≡ take l.name-index l.names;
  fit : list_all is_digest l.copies.items ≡ true;
}
