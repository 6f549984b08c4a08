use Rattle.std.proofs.Common.{◌≡◌, ◌+◌, drop}
use Rattle.buddy_select.specs.Order.{place_in}
use Rattle.buddy_select.proofs.order.place_in.Given as goal

abbrev pub invariant-loop-i : goal.invariant-loop-i
invariant-loop-i l = place_in l.new l.ordered ≡ l.i + place_in l.new (drop l.i l.ordered)
