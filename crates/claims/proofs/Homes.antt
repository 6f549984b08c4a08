-- Where a body is at home.
use Rattle.std.proofs.Common.{ℕ, ◌≤◌, List, Option, Some, None, IfSome, IfNone, ⊎_elim, arith}
use Rattle.std.proofs.lemmas.Bool.Decides.{leb_tells}
use Rattle.claims.specs.Source.{HasNone, IsHome}

none_further : (seed body : List ℕ) (m n : ℕ) → HasNone seed body 0 m → HasNone seed body m n → HasNone seed body 0 n
none_further seed body m n behind ahead = λ j low lt. ⊎_elim (λ above. ahead j above.1 lt) (λ below. behind j low below.1) (leb_tells m j)

pub home_wider : (seed body : List ℕ) (m n i : ℕ) → m ≤ n → IsHome seed body 0 m i → IsHome seed body 0 n i
home_wider seed body m n i le home = record { lower = home.lower; upper = omega (arith, home.upper); equal = home.equal; first = home.first }

-- a home among the numbers ahead is one among all, where the others have none
pub home_ahead : (seed body : List ℕ) (m n : ℕ) (o : Option ℕ) → HasNone seed body 0 m → IfSome o (λ i. IsHome seed body m n i) → IfSome o (λ i. IsHome seed body 0 n i)
home_ahead seed body m n None behind home = home
home_ahead seed body m n (Some i) behind home = record { lower = omega arith; upper = home.upper; equal = home.equal; first = none_further seed body m i behind home.first }

pub none_ahead : (seed body : List ℕ) (m n : ℕ) (o : Option ℕ) → HasNone seed body 0 m → IfNone o (HasNone seed body m n) → IfNone o (HasNone seed body 0 n)
none_ahead seed body m n None behind ahead = none_further seed body m n behind ahead
none_ahead seed body m n (Some i) behind ahead = ahead
