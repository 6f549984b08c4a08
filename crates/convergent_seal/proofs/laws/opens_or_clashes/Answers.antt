use Rattle.std.proofs.Common.{◌≡◌, ◌⊎◌, Bool, true, false, refl, inl, inr}
use Rattle.std.specs.Bool.{Decides}
use Rattle.std.specs.Str.{bytes_eq}
use Rattle.std.proofs.lemmas.Bool.{false≢true}
use Rattle.std.proofs.lemmas.Slice.Eq.{bytes_eq-Decides}
use Rattle.convergent_seal.specs.Sealing.{sealed}
use Rattle.convergent_seal.proofs.laws.opens_or_clashes.Goals as goal

decided : (b : Bool) (P : Type 0) → Decides b P → P ⊎ (P → ⊥)
decided true P d = inl (d.0 refl)
decided false P d = inr (λ p. absurd (false≢true (d.1 p)))

pub returns : goal.returns
returns c = λ plain body opens.
    elim (decided (bytes_eq body (sealed plain)) (body ≡ sealed plain) (bytes_eq-Decides body (sealed plain))) [
      | inl same ↦ inl same
      | inr other ↦ inr (other, opens.named)
    ]
