use Rattle.std.proofs.Common.{◌≡◌, ap, ◌∙◌, rules}
use Rattle.psb_digest.specs.Hashes.{sha}
use Rattle.psb_digest.specs.Claims.{claim_secret, link}
use Rattle.claims.proofs.chain.Chain.start.Goals as goal

pub returns : goal.returns
unfolding link
returns c =
    let hashed : c.sha.result ≡ sha c.self.inside.secret = search rules in
    hashed ∙ ap sha (c.self.invariant.0 ∙ ap claim_secret c.self.view_is)
