use Rattle.std.proofs.Common.{◌≡◌, ◌-◌, ◌<◌, ◌^◌, length, drop}
use Rattle.psb_model.specs.State.{is_held}
use Rattle.psb_machine.specs.Sampling.{bits_of}
use Rattle.sampling.proofs.answering.sample_of.Given as goal

abbrev pub invariant-loop-j : goal.invariant-loop-j
invariant-loop-j l = record {
  told : l.bits ≡ bits_of (is_held l.ledger.state) (drop l.j l.names);
  few : l.bits < 2 ^ (length l.names - l.j);
}
