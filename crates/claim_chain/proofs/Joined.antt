-- The law of all links, to be cited by the crates above.
use Rattle.claim_chain.specs.declared.links.Links.{Links}
use Rattle.claim_chain.specs.OneToOne.{AreOneToOne}
use Rattle.claim_chain.specs.Links.{next_of, carried_of}

pub one_to_one : (l : Links) → AreOneToOne (next_of l) (carried_of l)
unfolding next_of carried_of
one_to_one l = l.one_to_one
