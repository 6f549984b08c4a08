use Rattle.std.proofs.Common.{arith}
use Rattle.change_codec.proofs.RecordLaws.{answers_ok, answers_bad}
use Rattle.change_codec.proofs.decode.decode_change.Goals as goal

pub returns-clause-ok : goal.returns-clause-ok
returns-clause-ok c = answers_ok c.read.result c.args.head.now _ (λ k. omega (arith, c.type_inv.head k)) c.read.ensures.bytes c.read.ensures.change

pub returns-clause-bad : goal.returns-clause-bad
returns-clause-bad c = answers_bad c.read.result c.args.head.now _ c.read.ensures.change
