use Rattle.claim_chain.proofs.Joined.{one_to_one}
use Rattle.claim_chain.proofs.laws.links_are_one_to_one.Goals as goal

pub returns : goal.returns
returns c = one_to_one c.args.links.now
