-- Rows that were added are at their start.
use Rattle.std.proofs.Common.{sym, subst}
use Rattle.psb_model.specs.State.{State}
use Rattle.next_deals.specs.Searches.{IsSearched}
use Rattle.next_deals.proofs.Searched.{passed_same}
use Rattle.next_deals.proofs.planner.Planner.make_room.Goals as goal

pub invariant_of-self-2 : goal.invariant_of-self-2
invariant_of-self-2 c = passed_same c.make_room.new.self.state c.self.inside.searches.items c.add_rows.new.searches.items c.add_rows.ensures (subst (λ (s : State). IsSearched s c.self.inside.searches.items) (sym c.make_room.ensures.state) c.self.invariant)
