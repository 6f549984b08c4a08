use Rattle.std.proofs.Common.{◌<◌, ℕ, bit_xor, length, map, sym, ◌∙◌, arith}
use Rattle.std.proofs.lemmas.List.{get_or-map, length-map}
use Rattle.psb_digest.specs.Hashes.{padded}
use Rattle.psb_digest.proofs.Bytes.{same_list}
use Rattle.psb_digest.proofs.hashes.padded.Goals as goal

pub returns : goal.returns
unfolding padded
returns c =
    let old = c.args.block in
    let pad : ℕ → ℕ = λ b. bit_xor b c.args.pad in
    let long = c.loop-byte.invariant.long in
    same_list c.loop-byte.byte-items (map pad old) (long ∙ sym (length-map old pad))
    (λ k lt.
    let within : k < length old = omega (arith, length-map old pad) in
    c.loop-byte.invariant.done k (omega (arith, long, c.loop-byte-test.array_long)) ∙ sym (get_or-map pad old k 0 0 within))
