-- Chains go on where others end.
use Rattle.std.proofs.Common.{◌≡◌, ℕ, List, [], ◌∷◌, ◌++◌, refl, ap, ◌∙◌}
use Rattle.probe.specs.Chains.{link_on, chain, ChainsGoOn}

pub go_on : ChainsGoOn
unfolding chain
go_on nonce [] ps = refl
go_on nonce (o ∷ os) ps = go_on (link_on nonce o) os ps

-- one object more
pub added : (nonce value object : List ℕ) (os : List (List ℕ)) → value ≡ chain nonce os → link_on value object ≡ chain nonce (os ++ object ∷ [])
unfolding chain
added nonce value object os is = ap (λ v. link_on v object) is ∙ go_on nonce os (object ∷ [])
