-- Numbers that ascend are searched by halves.
use Rattle.std.proofs.Common.{◌∙◌, sym, ap}
use Rattle.psb_bytes.specs.declared.ids.Object.TheVariants.{Slot}
use Rattle.psb_model.specs.Words.{listed, slots}
use Rattle.peer_lists.proofs.Ordered.{searched}
use Rattle.own_deals.proofs.Numbers.{slots_ordered, slots_have, no_chunk}
use Rattle.own_deals.proofs.own_deals.is_slot_of.Goals as goal

pub returns-in-Chunk : goal.returns-in-Chunk
returns-in-Chunk c = λ h. no_chunk c.args.numbers.now c.in-Chunk.field-0 ∙ ap (listed (slots c.args.numbers.now)) (sym c.in-Chunk.is)

pub returns-in-Slot : goal.returns-in-Slot
returns-in-Slot c = λ h.
    let ns = c.args.numbers.now in
    let o = Slot c.in-Slot.number in
    c.is_ok.ensures.value
    ∙ (searched Slot 0 ns o c.binary_search.result (slots_ordered ns h) c.binary_search.ensures.bound c.binary_search.ensures.position).0
    ∙ slots_have ns o
    ∙ ap (listed (slots ns)) (sym c.in-Slot.is)
