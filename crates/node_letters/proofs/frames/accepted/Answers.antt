use Rattle.std.proofs.Common.{◌≡◌, ◌∙◌, ap, rules}
use Rattle.wire_codec.specs.Frames.{fits}
use Rattle.wire_codec.specs.declared.frame.Frame.TheVariants.{Accepted}
use Rattle.psb_machine.specs.Replies.{claims_from}
use Rattle.psb_machine.proofs.ClaimFits.{accepted_fits}
use Rattle.node_letters.proofs.frames.accepted.Goals as goal

pub returns-clause-fits : goal.returns-clause-fits
returns-clause-fits c =
    let claims : c.in_ok-claims_at.field-0 ≡ claims_from c.args.claims.now.seed c.args.first c.args.count = search rules in
    ap (λ l. fits (Accepted l)) claims ∙ accepted_fits c.args.claims.now.seed c.args.first c.args.count c.requires.few c.requires.claims
