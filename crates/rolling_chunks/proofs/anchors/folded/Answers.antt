use Rattle.std.proofs.Common.{◌≡◌, ℕ, ◌+◌, ◌*◌, ◌/◌, ◌%◌, ap, ◌∙◌, arith}
use Rattle.std.proofs.lemmas.Nat.{and_mask}
use Rattle.std.specs.Int.Bits.{bit_and}
use Rattle.rolling_chunks.proofs.Loose.{apart, eight_times}
use Rattle.rolling_chunks.proofs.anchors.folded.Goals as goal

pub returns : goal.returns
returns c =
    let value = c.args.value in
    let factor = c.args.factor in
    let product : ℕ = c.from.result * c.from-2.result in
    let times : c.from-2.result ≡ factor * 8 = omega arith in
    let whole : product ≡ value * factor * 8 = eight_times value factor c.from.result c.from-2.result c.from.ensures times in
    let low : bit_and product c.from-3.result ≡ product % 18446744073709551616 = ap (bit_and product) c.from-3.ensures ∙ and_mask product 64 in
    ap (λ (n : ℕ). product / 18446744073709551616 + n / 8) low ∙ apart (value * factor) product whole
