-- The numbers that were gathered are the first, or all.
use Rattle.std.proofs.Common.{◌≡◌, ◌∙◌, None, length, take, ap, subst, rules}
use Rattle.psb_model.specs.State.{row, out_key}
use Rattle.psb_model.specs.Proposing.{fills}
use Rattle.peer_lists.specs.Walks.{IsSlotFrom}
use Rattle.next_deals.proofs.Reaching.{gathers_enough, gathers_all, fills_all}
use Rattle.next_deals.proofs.slots.slots_to_fill.Goals as goal

pub returns-then-len-most : goal.returns-then-len-most
returns-then-len-most c =
    let s = c.args.ledger.now.state in
    let p = c.args.peer in
    let l = c.loop-entry in
    let enough : length l.numbers.items ≡ c.args.most = search rules in
    c.from_vec.ensures
    ∙ gathers_enough out_key (fills s p c.args.probed.now) (row s p).outs l.from c.args.most l.numbers.items l.invariant enough
    ∙ ap (take c.args.most) (fills_all s p c.args.probed.now)

pub returns : goal.returns
returns c =
    let s = c.args.ledger.now.state in
    let p = c.args.peer in
    let l = c.loop-entry in
    let past : IsSlotFrom out_key (row s p).outs l.from None = subst (IsSlotFrom out_key (row s p).outs l.from) c.in_default.is c.slot_there.ensures in
    c.from_vec-2.ensures
    ∙ gathers_all out_key (fills s p c.args.probed.now) (row s p).outs l.from c.args.most l.numbers.items past l.invariant
    ∙ ap (take c.args.most) (fills_all s p c.args.probed.now)
