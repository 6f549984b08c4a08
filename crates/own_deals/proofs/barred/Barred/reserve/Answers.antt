-- The one that waits goes into the tree, or its name is there.
use Rattle.std.proofs.Common.{ℕ, List, sym, subst, ◌∙◌}
use Rattle.own_deals.specs.OwnDeals.{KnowsNumbers}
use Rattle.own_deals.proofs.NameOrder.{by_name}
use Rattle.own_deals.proofs.BarredNumbers.{knows_settled, knows_before}
use Rattle.own_deals.proofs.barred.Barred.reserve.Goals as goal

pub invariant_of-self-then-contains_key : goal.invariant_of-self-then-contains_key
invariant_of-self-then-contains_key c =
    let b = c.self.inside in
    knows_before _ by_name c.try_reserve.new.self.items b.numbers.entries b.latest c.in-Some.latest c.in-Some.is (sym c.contains_key.ensures ∙ c.if-contains_key.true) (subst (λ (l : List (List ℕ × ℕ)). KnowsNumbers l b.numbers.entries b.latest) (sym c.in_ok-try_reserve.ensures.items) c.self.invariant)

pub invariant_of-self-2 : goal.invariant_of-self-2
invariant_of-self-2 c =
    let b = c.self.inside in
    knows_settled _ by_name c.try_reserve.new.self.items b.numbers.entries c.insert.new.self.entries b.latest c.in-Some.latest c.in-Some.is (sym c.contains_key.ensures ∙ c.if-contains_key.false) c.in_ok-insert.ensures.entries (subst (λ (l : List (List ℕ × ℕ)). KnowsNumbers l b.numbers.entries b.latest) (sym c.in_ok-try_reserve.ensures.items) c.self.invariant)
