use Rattle.std.proofs.Common.{◌≡◌, ◌+◌, ◌-◌, ◌≤◌}
use Rattle.abstracts.specs.Bits.{coverage}
use Rattle.abstracts.proofs.bits.coverage.Given as goal

abbrev pub invariant-loop-bit : goal.invariant-loop-bit
invariant-loop-bit l = record {
  counted : l.count + coverage l.rest (l.of - l._bit) ≡ coverage l.bits l.of;
  few : l.count ≤ l._bit;
}
