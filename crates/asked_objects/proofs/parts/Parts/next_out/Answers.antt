-- A chunk, or behind the chunks the first slot that was not passed.
use Rattle.std.proofs.Common.{◌-◌, ◌∙◌, arith}
use Rattle.asked_objects.proofs.Places.{next_chunk, next_slot}
use Rattle.asked_objects.proofs.parts.Parts.next_out.Goals as goal

pub returns-then-number-len : goal.returns-then-number-len
returns-then-number-len c =
    let chunks = c.args.self.now.chunks.items in
    let i = c.args.place.now.number - c.args.place.now.debts in
    c.chunk_at.ensures ∙ next_chunk c.args.account.now.row chunks i c.requires.parts.chunks_are (omega (arith, c.if-number-len.true, c.len.ensures))

pub returns-else-number-len : goal.returns-else-number-len
returns-else-number-len c =
    next_slot c.args.account.now.row c.args.self.now.chunks.items (c.args.place.now.number - c.args.place.now.debts) c.args.place.now.passed c.slot_after.result c.requires.parts.chunks_are (omega (arith, c.if-number-len.false, c.len.ensures)) c.requires.at.passed c.slot_after.ensures.slot
