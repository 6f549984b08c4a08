use Rattle.std.proofs.Common.{rules, ◌≡◌, ℕ, ◌<◌, length, get_or, ◌∙◌, ap}
use Rattle.wire_codec.specs.Fields.{is_digest}
use Rattle.node_letters.proofs.Fields.{digest_fits}
use Rattle.node_letters.proofs.frames.copied.Goals as goal

pub returns-clause-fits : goal.returns-clause-fits
returns-clause-fits c =
    let long : length c.args.name ≡ 32 = search rules in
    let each : (k : ℕ) → get_or c.args.name k 0 < 256 = search rules in
    ap is_digest c.name.view_is ∙ digest_fits c.args.name long each
