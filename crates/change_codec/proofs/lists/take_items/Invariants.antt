use Rattle.change_codec.proofs.Items.{IsReadTo}
use Rattle.change_codec.proofs.lists.take_items.Given as goal

abbrev pub invariant-loop-i : goal.invariant-loop-i
invariant-loop-i g l = IsReadTo g.T.Item.item_at l.count l.i l.initial.fields l.items.items l.fields
