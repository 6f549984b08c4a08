use Rattle.std.proofs.Common.{◌≡◌, ◌*◌, sym, ap, ◌∙◌}
use Rattle.psb_digest.specs.Words.{masked}
use Rattle.psb_digest.specs.Claims.{claim, claim_secret, claim_mask, link, links}
use Rattle.claims.proofs.chain.Chain.pass.Goals as goal

pub returns-clause-claim : goal.returns-clause-claim
unfolding claim
returns-clause-claim c =
    let seed = c.args.self.now in
    let i = c.args.i in
    let secret : c.self.inside.secret ≡ claim_secret seed = c.self.invariant.0 ∙ ap claim_secret c.self.view_is in
    let mask_key : c.self.inside.mask_key ≡ claim_mask seed = c.self.invariant.1 ∙ ap claim_mask c.self.view_is in
    let at : c.args.begins.now ≡ link c.self.inside.secret (16 * i) = c.requires ∙ ap (λ s. link s (16 * i)) (sym secret) in
    c.mask.ensures
    ∙ ap (λ key. masked key c.from.result c.pass_links-bytes.result) mask_key
    ∙ ap (λ k. masked (claim_mask seed) k c.pass_links-bytes.result) c.from.ensures
    ∙ ap (masked (claim_mask seed) i) (c.pass_links-bytes.ensures.links (16 * i) at ∙ ap (λ s. links s (16 * i) 16) secret)
