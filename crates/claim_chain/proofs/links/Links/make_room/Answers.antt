use Rattle.claim_chain.proofs.LatestLink.{half_kept, kept}
use Rattle.claim_chain.proofs.links.Links.make_room.Goals as goal

pub invariant_of-self-in-Break-branch-2 : goal.invariant_of-self-in-Break-branch-2
invariant_of-self-in-Break-branch-2 c =
    let links = c.args.self.now in
    record { one_to_one = half_kept links.latest links.nexts links.carried c.put.new.self c.put-in-Some.new.self c.in-Some.link c.in-Some.is c.in_ok-put.ensures.put c.in_err-put-2.ensures.same links.one_to_one }

pub invariant_of-self-in-Some : goal.invariant_of-self-in-Some
invariant_of-self-in-Some c =
    let links = c.args.self.now in
    record { one_to_one = kept links.latest links.nexts links.carried c.put.new.self c.put-in-Some.new.self c.in-Some.link c.in-Some.is c.in_ok-put.ensures.put c.in_ok-put-2.ensures.put links.one_to_one }
