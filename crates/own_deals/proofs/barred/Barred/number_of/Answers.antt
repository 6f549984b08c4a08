-- The tree has the number, or the one that waits.
use Rattle.std.proofs.Common.{◌∙◌, ap, rules}
use Rattle.own_deals.specs.OwnDeals.{BarredView, number_of}
use Rattle.own_deals.proofs.NameOrder.{by_name}
use Rattle.own_deals.proofs.BarredNumbers.{number_in_tree, number_of_latest}
use Rattle.own_deals.proofs.barred.Barred.number_of.Goals as goal

pub returns-in-Some : goal.returns-in-Some
returns-in-Some c =
    let b = c.self.inside in
    let n = c.args.name.now in
    number_in_tree _ by_name b.list.items b.numbers.entries b.latest n c.in-Some.number.now (search rules) c.self.invariant ∙ ap (λ (v : BarredView). number_of v.items n) c.self.view_is

pub returns-in-None : goal.returns-in-None
returns-in-None c =
    let b = c.self.inside in
    let n = c.args.name.now in
    c.latest_number.ensures ∙ number_of_latest _ by_name b.list.items b.numbers.entries b.latest n (search rules) c.self.invariant ∙ ap (λ (v : BarredView). number_of v.items n) c.self.view_is
