use Rattle.std.proofs.Common.{ap, ◌∙◌, arith}
use Rattle.hex.specs.Hex.{IsBytes, decode_of}
use Rattle.hex.proofs.HexLemmas.{decode_of-encode_lower}
use Rattle.psb_bytes.proofs.digits.hex_text.Goals as goal

pub returns-clause-reads_back : goal.returns-clause-reads_back
returns-clause-reads_back c =
    let small : IsBytes c.args.bytes.now = λ i. omega (arith, c.type_inv.bytes i) in
    ap decode_of c.in_ok-encode.ensures ∙ decode_of-encode_lower c.args.bytes.now small
