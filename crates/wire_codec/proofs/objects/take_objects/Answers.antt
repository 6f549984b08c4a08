use Rattle.std.proofs.Common.{refl}
use Rattle.wire_codec.proofs.Starts.{begins, goes_on, stops, ends, are_starts}
use Rattle.wire_codec.proofs.objects.take_objects.Goals as goal

pub loop-j-init : goal.loop-j-init
loop-j-init c = begins c.in_ok-count.count c.in_ok-count.bytes.now _ refl

pub loop-j-preserved : goal.loop-j-preserved
loop-j-preserved c = goes_on c.in_ok-count.count c.loop-j.j c.loop-j.place c.in_ok-len.len c.in_ok-count.bytes.now c.loop-j.starts c.in_ok-len.field-0-0 c.loop-j-test.true c.in_ok-count.ensures.most c.in_ok-len.ensures.within c.in_ok-len.ensures.exact c.loop-j.invariant

pub invariant_of-view : goal.invariant_of-view
invariant_of-view c = are_starts c.in_ok-count.count c.loop-j.j c.loop-j.place c.in_ok-count.bytes.now c.loop-j.starts c.in_ok-count.ensures.most c.loop-j-test.false c.loop-j.auto.j-end c.loop-j.invariant

pub returns-in_err-len : goal.returns-in_err-len
returns-in_err-len c = rw c.from_residual-in_err-len.ensures (stops c.in_ok-count.count c.loop-j.j c.loop-j.place c.in_ok-count.bytes.now c.args.bytes.now c.loop-j.starts c.in_ok-count.ensures.exact c.loop-j-test.true c.in_err-len.ensures.exact c.loop-j.invariant)

pub returns : goal.returns
returns c = ends c.in_ok-count.count c.loop-j.j c.loop-j.place c.in_ok-count.bytes.now c.args.bytes.now c.loop-j.starts c.in_ok-count.ensures.exact c.loop-j-test.false c.loop-j.auto.j-end c.loop-j.invariant
