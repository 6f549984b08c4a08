use Rattle.wire_codec.proofs.Starts.{IsReadTo}
use Rattle.wire_codec.proofs.objects.take_objects.Given as goal

abbrev pub invariant-loop-j : goal.invariant-loop-j
invariant-loop-j l = IsReadTo l.count l.j l.place l.bytes l.starts
