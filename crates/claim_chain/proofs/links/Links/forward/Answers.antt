use Rattle.claim_chain.specs.Links.{next_of, carried_of, has_room}
use Rattle.claim_chain.proofs.LatestLink.{made}
use Rattle.claim_chain.proofs.links.Links.forward.Goals as goal

pub invariant_of-self : goal.invariant_of-self
unfolding next_of carried_of has_room
invariant_of-self c =
    let links = c.args.self.now in
    record { one_to_one = made links.latest links.nexts links.carried c.args.held c.args.out c.requires.room c.requires.held_free c.requires.out_free links.one_to_one }
