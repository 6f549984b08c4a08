use Rattle.std.proofs.Common.{◌∙◌, ◌+◌, Some, rules, sym, ap, subst, arith}
use Rattle.change_codec.proofs.Items.{IsReadTo, goes_on, stops, ends}
use Rattle.change_codec.proofs.lists.take_items.Goals as goal

pub returns-in_err-item : goal.returns-in_err-item
returns-in_err-item g c =
    let none = stops g.T.Item.item_at c.args.count c.loop-i.i c.args.fields.now c.loop-i.items.items c.loop-i.fields c.loop-i-test.true c.in_err-item.ensures c.loop-i.invariant in
    search rules

pub loop-i-preserved : goal.loop-i-preserved
loop-i-preserved g c =
    subst (λ l. IsReadTo g.T.Item.item_at c.args.count (c.loop-i.i + 1) c.args.fields.now l c.take.new.fields) (sym c.in_ok-push.ensures.items)
    (goes_on g.T.Item.item_at c.args.count c.loop-i.i c.args.fields.now c.loop-i.items.items c.in_ok-item.item c.loop-i.fields c.take.new.fields c.loop-i-test.true c.in_ok-item.ensures c.loop-i.invariant)

pub returns : goal.returns
returns g c =
    ends g.T.Item.item_at c.args.count c.loop-i.i c.args.fields.now c.loop-i.items.items c.loop-i.fields (omega arith) c.loop-i.invariant
    ∙ ap (λ l. Some (l, c.loop-i.fields)) (sym c.from_vec.ensures)
