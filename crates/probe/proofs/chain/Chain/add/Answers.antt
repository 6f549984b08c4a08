use Rattle.std.proofs.Common.{◌∙◌}
use Rattle.probe.proofs.Joined.{added}
use Rattle.probe.proofs.chain.Chain.add.Goals as goal

pub returns-clause-chain : goal.returns-clause-chain
returns-clause-chain c = λ nonce os is.
    c.link_on-self-inside.ensures ∙ added nonce c.self.inside.value c.args.object.now os (c.self.view_is ∙ is)
