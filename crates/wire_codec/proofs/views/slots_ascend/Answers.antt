use Rattle.std.proofs.Common.{arith}
use Rattle.wire_codec.proofs.Ascending.{ordered_all}
use Rattle.wire_codec.proofs.views.slots_ascend.Goals as goal

pub returns : goal.returns
returns c = ordered_all c.args.slots.now c.loop-j.j (omega (arith, c.len-j-end.ensures, c.loop-j-test.false)) c.loop-j.invariant
