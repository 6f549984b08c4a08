use Rattle.std.proofs.Common.{arith}
use Rattle.std.specs.Option.{option_map}
use Rattle.change_codec.proofs.RecordLaws.{part_bytes}
use Rattle.change_codec.proofs.decode.read.Goals as goal

pub returns-in_default-clause-bytes : goal.returns-in_default-clause-bytes
returns-in_default-clause-bytes c = part_bytes (option_map (λ b. b.now) c.args.body) c.args.part.now c.requires (λ k. omega (arith, c.type_inv.part k))

pub returns-in_err-change-clause-bytes : goal.returns-in_err-change-clause-bytes
returns-in_err-change-clause-bytes c = part_bytes (option_map (λ b. b.now) c.args.body) c.args.part.now c.requires (λ k. omega (arith, c.type_inv.part k))

pub returns-clause-bytes : goal.returns-clause-bytes
returns-clause-bytes c = part_bytes (option_map (λ b. b.now) c.args.body) c.args.part.now c.requires (λ k. omega (arith, c.type_inv.part k))
