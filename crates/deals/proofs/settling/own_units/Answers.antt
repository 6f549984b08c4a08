use Rattle.std.proofs.Common.{rules, ◌≡◌, ◌∙◌, ap, unwrap_or}
use Rattle.own_chunks.specs.OwnList.{known_len}
use Rattle.psb_model.specs.Words.{units}
use Rattle.deals.proofs.Pending.{known_or_none}
use Rattle.deals.proofs.settling.own_units.Goals as goal

pub returns : goal.returns
returns c =
    let own = c.args.ledger.now.state.own in
    let n = c.args.name.now in
    let found : c.units_of.result ≡ units (unwrap_or (known_len own n) 0) = search rules in
    found ∙ ap units (known_or_none own n)
