use Rattle.std.proofs.Common.{◌≡◌, take}
use Rattle.wire_codec.proofs.views.SlotsView.to_list.Given as goal

abbrev pub invariant-loop-j : goal.invariant-loop-j
invariant-loop-j l = l.items.items ≡ take l.j l.self
