use Rattle.std.proofs.Common.{ap, length, arith, rules}
use Rattle.claims.proofs.walk.Walk.new.Goals as goal

pub invariant_of-result : goal.invariant_of-result
invariant_of-result c = (
  c.start-next.ensures,
  record { right = λ k lt. absurd (omega (arith, ap length c.new.ensures.items)); enough = omega arith },
  record { all = ap length c.new-2.ensures.items; right = λ i lt. absurd (omega (arith, lt)) },
  search rules,
  search rules,
)
