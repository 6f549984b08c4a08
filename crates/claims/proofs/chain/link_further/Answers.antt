use Rattle.std.proofs.Common.{◌≡◌, ◌+◌, ◌++◌, arith, sym, ap, ◌∙◌}
use Rattle.psb_digest.specs.Hashes.{sha}
use Rattle.psb_digest.specs.Claims.{link}
use Rattle.psb_digest.proofs.Chains.{link-next}
use Rattle.claims.proofs.chain.link_further.Goals as goal

pub loop-step-init : goal.loop-step-init
loop-step-init c = λ k at.
    let place : k ≡ k + 0 = omega arith in
    at ∙ ap (link c.args.secret.now) place

pub loop-step-preserved : goal.loop-step-preserved
loop-step-preserved c = λ k at.
    let secret = c.args.secret.now in
    let place : k + c.loop-step._step + 1 ≡ k + (c.loop-step._step + 1) = omega arith in
    c.link_after-last.ensures ∙ ap (λ l. sha (secret ++ l)) (c.loop-step.invariant k at) ∙ sym (link-next secret (k + c.loop-step._step)) ∙ ap (link secret) place
