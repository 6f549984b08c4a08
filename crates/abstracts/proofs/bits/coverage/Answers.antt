use Rattle.std.proofs.Common.{◌≡◌, suc, ◌+◌, ◌-◌, ◌/◌, ◌%◌, ap, arith}
use Rattle.abstracts.specs.Bits.{coverage}
use Rattle.abstracts.proofs.bits.coverage.Goals as goal

pub loop-bit-preserved : goal.loop-bit-preserved
loop-bit-preserved c =
    let left : c.args.of - c.loop-bit._bit ≡ suc (c.args.of - (c.loop-bit._bit + 1)) = omega (arith, c.loop-bit-test.true) in
    let more : coverage c.loop-bit.rest (c.args.of - c.loop-bit._bit) ≡ c.loop-bit.rest % 2 + coverage (c.loop-bit.rest / 2) (c.args.of - (c.loop-bit._bit + 1)) = ap (coverage c.loop-bit.rest) left in
    record {
      counted = omega (arith, more, c.loop-bit.invariant.counted);
      few = omega (arith, c.loop-bit.invariant.few);
    }
