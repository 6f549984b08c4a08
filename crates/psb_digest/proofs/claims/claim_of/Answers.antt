use Rattle.std.proofs.Common.{◌∙◌, ap, ◌*◌}
use Rattle.psb_digest.specs.Words.{masked}
use Rattle.psb_digest.specs.Claims.{claim, claim_secret, claim_mask, links}
use Rattle.psb_digest.proofs.claims.claim_of.Goals as goal

pub returns : goal.returns
unfolding claim claim_secret claim_mask
returns c =
    let seed = c.seed.inside.0 in
    let mask_key = c.sha_two.ensures ∙ ap claim_mask c.seed.view_is in
    let secret = c.sha_two-secret.ensures ∙ ap claim_secret c.seed.view_is in
    let place = ap (λ n. 16 * n) c.from.ensures in
    c.mask.ensures
    ∙ ap (λ key. masked key c.from-2.result c.links-bytes.result) mask_key
    ∙ ap (λ i. masked (claim_mask c.args.seed.now) i c.links-bytes.result) c.from-2.ensures
    ∙ ap (masked (claim_mask c.args.seed.now) c.args.i) (c.links-bytes.ensures ∙ ap (λ s. links s (16 * c.from.result) 16) secret ∙ ap (λ k. links (claim_secret c.args.seed.now) k 16) place)
