use Rattle.std.proofs.Common.{rules, ◌≡◌, ◌∙◌, ap}
use Rattle.std.specs.Prelude.{is_some}
use Rattle.psb_model.specs.Words.{name_listed}
use Rattle.own_deals.specs.OwnDeals.{OwnDealsView}
use Rattle.own_deals.specs.OwnDeals.{number_of}
use Rattle.own_deals.proofs.BarredNumbers.{is_named}
use Rattle.own_deals.proofs.own_deals.OwnDeals.is_cancel_turned.Goals as goal

pub returns : goal.returns
returns c =
    let items = c.self.inside.turned_cancels.items in
    let n = c.args.name.now in
    let found : c.is_some.result ≡ is_some (number_of items n) = search rules in
    found ∙ is_named items n ∙ ap (λ (v : OwnDealsView). name_listed v.turned_cancels n) c.self.view_is
