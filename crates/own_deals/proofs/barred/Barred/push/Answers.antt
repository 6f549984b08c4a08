-- One name more waits.
use Rattle.std.proofs.Common.{◌≡◌, ◌≤◌, ◌++◌, ◌∷◌, [], ℕ, List, Some, sym, subst, rules}
use Rattle.own_deals.specs.OwnDeals.{BarredView, KnowsNumbers}
use Rattle.own_deals.proofs.BarredNumbers.{knows_more, none_waits}
use Rattle.own_deals.proofs.barred.Barred.push.Goals as goal

pub invariant_of-self : goal.invariant_of-self
invariant_of-self c =
    let b = c.self.inside in
    let none = none_waits b.latest _ (subst (λ (v : BarredView). 1 ≤ v.room) (sym c.self.view_is) c.requires) in
    let grown : c.push.new.self.items ≡ b.list.items ++ (c.args.name, c.args.change) ∷ [] = search rules in
    subst (λ (l : List (List ℕ × ℕ)). KnowsNumbers l b.numbers.entries (Some (record { name = c.args.name; change = c.args.change }))) (sym grown) (knows_more b.list.items b.numbers.entries c.args.name c.args.change (subst (λ o. KnowsNumbers b.list.items b.numbers.entries o) none c.self.invariant))
