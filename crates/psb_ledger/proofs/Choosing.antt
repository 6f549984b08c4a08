-- A choice of buddies, candidate by candidate.
use Rattle.std.proofs.Common.{◌≡◌, ℕ, zero, suc, ◌<◌, ◌≤◌, ◌&&◌, List, [], ◌∷◌, length, map, take, refl, ap, arith}
use Rattle.psb_model.specs.declared.entries.Candidate.{Candidate}
use Rattle.psb_model.specs.Candidates.{comes_before, in_select_order}
use Rattle.own_chunks.proofs.Listed.{pairs}

pub order_pairs : (cs : List Candidate) → pairs comes_before cs ≡ in_select_order cs
order_pairs [] = refl
order_pairs (x ∷ []) = refl
order_pairs (x ∷ y ∷ ys) = ap (λ b. comes_before x y && b) (order_pairs (y ∷ ys))

-- the first of a list, as many as there are
pub first_of : (n count : ℕ) (cs : List Candidate) → count ≤ n → count ≤ length cs → (count < n → length cs ≤ count) → map (λ (x : Candidate). x.peer) (take count cs) ≡ take n (map (λ (x : Candidate). x.peer) cs)
first_of zero zero cs most within all = refl
first_of zero (suc k) cs most within all = absurd (omega (arith, most))
first_of (suc n) zero [] most within all = refl
first_of (suc n) (suc k) [] most within all = absurd (omega (arith, within))
first_of (suc n) zero (x ∷ xs) most within all = let none = all (omega arith) in absurd (omega (arith, none))
first_of (suc n) (suc k) (x ∷ xs) most within all = ap (λ l. x.peer ∷ l) (first_of n k xs (omega (arith, most)) (omega (arith, within)) (λ less. let rest = all (omega (arith, less)) in omega (arith, rest)))
