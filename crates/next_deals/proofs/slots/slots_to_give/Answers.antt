-- The numbers that were gathered are the first, or all.
use Rattle.std.proofs.Common.{◌≡◌, ◌∙◌, None, length, take, ap, subst, rules}
use Rattle.psb_model.specs.State.{row, in_key}
use Rattle.psb_model.specs.Proposing.{gives}
use Rattle.peer_lists.specs.Walks.{IsSlotFrom}
use Rattle.next_deals.proofs.Reaching.{gathers_enough, gathers_all, gives_all}
use Rattle.next_deals.proofs.slots.slots_to_give.Goals as goal

pub returns-then-len-most : goal.returns-then-len-most
returns-then-len-most c =
    let s = c.args.ledger.now.state in
    let p = c.args.peer in
    let l = c.loop-entry in
    let enough : length l.numbers.items ≡ c.args.most = search rules in
    c.from_vec.ensures
    ∙ gathers_enough in_key (gives s p) (row s p).ins l.from c.args.most l.numbers.items l.invariant enough
    ∙ ap (take c.args.most) (gives_all s p)

pub returns : goal.returns
returns c =
    let s = c.args.ledger.now.state in
    let p = c.args.peer in
    let l = c.loop-entry in
    let past : IsSlotFrom in_key (row s p).ins l.from None = subst (IsSlotFrom in_key (row s p).ins l.from) c.in_default.is c.slot_here.ensures in
    c.from_vec-2.ensures
    ∙ gathers_all in_key (gives s p) (row s p).ins l.from c.args.most l.numbers.items past l.invariant
    ∙ ap (take c.args.most) (gives_all s p)
