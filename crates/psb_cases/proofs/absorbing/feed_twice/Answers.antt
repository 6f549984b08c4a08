use Rattle.psb_cases.proofs.absorbing.feed_twice.Goals as goal

pub absorb-requires-clause-apt : goal.absorb-requires-clause-apt
absorb-requires-clause-apt g c = c.requires.apt _

pub absorb-requires-2-clause-apt : goal.absorb-requires-2-clause-apt
absorb-requires-2-clause-apt g c = c.requires.apt _
