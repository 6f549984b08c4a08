use Rattle.std.proofs.Common.{sym, ◌∙◌, ap, ◌++◌}
use Rattle.psb_digest.specs.Hashes.{sha}
use Rattle.psb_digest.specs.Claims.{link}
use Rattle.psb_digest.proofs.Chains.{link-next}
use Rattle.psb_digest.proofs.claims.link.Goals as goal

pub loop-step-init : goal.loop-step-init
unfolding link
loop-step-init c = c.sha-last.ensures ∙ ap sha c.secret.view_is

pub loop-step-preserved : goal.loop-step-preserved
loop-step-preserved c =
    let secret = c.args.secret.now in
    c.link_after-last.ensures ∙ ap (λ l. sha (secret ++ l)) c.loop-step.invariant ∙ sym (link-next secret c.loop-step._step)
