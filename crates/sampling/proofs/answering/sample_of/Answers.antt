use Rattle.std.proofs.Common.{◌≡◌, ◌+◌, ◌-◌, ◌*◌, ◌^◌, ℕ, suc, length, drop, ◌∙◌, ap, arith}
use Rattle.std.proofs.Math.Nat.{pow-succ'}
use Rattle.psb_model.specs.State.{is_held}
use Rattle.psb_machine.specs.Sampling.{bit_of, bits_of}
use Rattle.sampling.proofs.Bits.{bit_is, bit_small, bits_on}
use Rattle.sampling.proofs.answering.sample_of.Goals as goal

pub loop-j-preserved : goal.loop-j-preserved
loop-j-preserved c =
    let test = is_held c.args.ledger.now.state in
    let names = c.args.names.now in
    let i = c.loop-j.j - 1 in
    let bit : c.from.result ≡ bit_of (test c.at.result) = c.from.ensures ∙ bit_is c.is_held.result ∙ ap bit_of c.is_held.ensures in
    let back : suc i ≡ c.loop-j.j = omega (arith, c.loop-j-test.true) in
    let more : bits_of test (drop i names) ≡ bit_of (test c.at.result) + 2 * bits_of test (drop c.loop-j.j names) = bits_on test names i c.at.result c.at.ensures ∙ ap (λ (k : ℕ). bit_of (test c.at.result) + 2 * bits_of test (drop k names)) back in
    let width : length names - i ≡ suc (length names - c.loop-j.j) = omega (arith, c.loop-j-test.true, c.loop-j.auto.j) in
    let doubled : 2 ^ (length names - i) ≡ 2 * 2 ^ (length names - c.loop-j.j) = ap (λ (k : ℕ). 2 ^ k) width ∙ pow-succ' 2 (length names - c.loop-j.j) in
    record {
      told = omega (arith, more, bit, c.loop-j.invariant.told);
      few = omega (arith, doubled, bit, bit_small (test c.at.result), c.loop-j.invariant.few);
    }
