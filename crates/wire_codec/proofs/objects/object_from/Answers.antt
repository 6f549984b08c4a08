use Rattle.wire_codec.proofs.Starts.{read_some, read_gives}
use Rattle.std.proofs.Common.{slice_index}
use Rattle.wire_codec.proofs.objects.object_from.Goals as goal

pub unwrap-requires : goal.unwrap-requires
unwrap-requires c = read_some (slice_index c.args.starts.now c.args.j) c.args.bytes.now c.object_of.result c.object_of.ensures.exact c.requires.there

pub returns : goal.returns
returns c = read_gives (slice_index c.args.starts.now c.args.j) c.args.bytes.now c.object_of.result c.unwrap.result c.object_of.ensures.exact c.unwrap.ensures
