use Rattle.std.proofs.Common.{arith}
use Rattle.byte_fields.proofs.FieldLaws.{are_bytes_is}
use Rattle.node_letters.proofs.frames.are_in_range.Goals as goal

pub returns : goal.returns
returns c = are_bytes_is c.args.bytes.now (λ k. omega (arith, c.type_inv.bytes k))
