use Rattle.std.proofs.Common.{rules, ◌≡◌, ℕ, ◌<◌, ◌&&◌, length, get_or, ◌∙◌, ap}
use Rattle.wire_codec.specs.Fields.{is_digest, are_claims}
use Rattle.psb_machine.specs.Replies.{claims_from}
use Rattle.psb_machine.proofs.ClaimFits.{claims_fit}
use Rattle.node_letters.proofs.Fields.{digest_fits}
use Rattle.node_letters.proofs.frames.put_back_of.Goals as goal

pub returns-clause-fits : goal.returns-clause-fits
returns-clause-fits c =
    let long : length c.args.name ≡ 32 = search rules in
    let each : (k : ℕ) → get_or c.args.name k 0 < 256 = search rules in
    let claims : c.in_ok-claims_at.field-0 ≡ claims_from c.args.claims.now.seed c.args.first c.args.count = search rules in
    ap (λ b. b && are_claims 1 c.in_ok-claims_at.field-0) (ap is_digest c.name.view_is ∙ digest_fits c.args.name long each)
    ∙ ap (are_claims 1) claims
    ∙ claims_fit 1 c.args.claims.now.seed c.args.first c.args.count c.requires.some c.requires.few c.requires.claims
