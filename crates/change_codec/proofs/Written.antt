-- What was put behind other bytes, part by part.
use Rattle.std.proofs.Common.{◌≡◌, ℕ, List, ◌++◌, ap, ◌∙◌, append_assoc}

pub next : (old a b x y : List ℕ) → x ≡ old ++ a → y ≡ x ++ b → y ≡ old ++ (a ++ b)
next old a b x y p q = q ∙ ap (λ (l : List ℕ). l ++ b) p ∙ append_assoc old a b
