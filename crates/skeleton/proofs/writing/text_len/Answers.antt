use Rattle.std.proofs.Common.{arith}
use Rattle.skeleton.specs.Texts.{entry_bytes}
use Rattle.skeleton.proofs.TextLaws.{item_le}
use Rattle.skeleton.proofs.writing.text_len.Goals as goal

pub returns-then-len : goal.returns-then-len
returns-then-len c =
    let item = c.entry-item.result in
    let room = item_le entry_bytes c.args.entries.now c.loop-entry.entry-index item c.entry-item.is c.loop-entry-test.true in
    omega (arith, room, c.loop-entry.invariant.exact, c.entry_len-len.ensures.exact, c.if-len.true)
