use Rattle.std.proofs.Common.{rules, ◌≡◌, ℕ, ◌<◌, ◌&&◌, length, get_or, ◌∙◌, ap}
use Rattle.wire_codec.specs.Fields.{is_digest, are_slots}
use Rattle.node_letters.proofs.Fields.{digest_fits}
use Rattle.node_letters.proofs.frames.cancel_of.Goals as goal

pub returns-clause-fits : goal.returns-clause-fits
returns-clause-fits c =
    let long : length c.args.name ≡ 32 = search rules in
    let each : (k : ℕ) → get_or c.args.name k 0 < 256 = search rules in
    let slots : c.in_ok-copy.field-0 ≡ c.args.slots.now = search rules in
    ap (λ b. b && are_slots 1 c.in_ok-copy.field-0) (ap is_digest c.name.view_is ∙ digest_fits c.args.name long each)
    ∙ ap (are_slots 1) slots
    ∙ c.requires
