use Rattle.claims.proofs.chain.Chain.new.Goals as goal

pub invariant_of-result : goal.invariant_of-result
unfolding Rattle.psb_digest.specs.Claims.claim_secret Rattle.psb_digest.specs.Claims.claim_mask
invariant_of-result c = (c.sha_two.ensures, c.sha_two-2.ensures)
