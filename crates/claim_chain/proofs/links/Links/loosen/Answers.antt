use Rattle.std.proofs.Common.{◌≡◌, Some, rules}
use Rattle.claim_chain.specs.OneToOne.{next_by}
use Rattle.claim_chain.specs.Links.{next_of}
use Rattle.claim_chain.proofs.LatestLink.{loosened}
use Rattle.claim_chain.proofs.links.Links.loosen.Goals as goal

pub invariant_of-self : goal.invariant_of-self
unfolding next_of
invariant_of-self c =
    let links = c.args.self.now in
    let had : next_by links.latest links.nexts c.args.held.now ≡ Some c.in_ok-out.out = search rules in
    record { one_to_one = loosened links.latest c.left_of-self.result links.nexts links.carried c.take_out.new.self c.take_out-2.new.self c.args.held.now c.in_ok-out.out c.left_of-self.ensures had c.take_out.ensures c.take_out-2.ensures links.one_to_one }
