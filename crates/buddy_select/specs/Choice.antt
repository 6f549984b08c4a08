-- What a choice is.
use Rattle.std.specs.Prelude.{◌≡◌, ◌&&◌, ℕ, nat_le, Bool, true, List, [], ◌∷◌, length, min}
use Rattle.std.specs.List.{list_all}
use Rattle.std.specs.List.Sorted.{IsPermutation}
use Rattle.psb_model.specs.declared.entries.Candidate.{Candidate}
use Rattle.psb_model.specs.Candidates.{comes_before}

-- each candidate was asked for one name at least
abbrev pub were_asked : List Candidate → Type 0
were_asked candidates = list_all (λ (x : Candidate). nat_le 1 x.of) candidates ≡ true

-- the first before all others, and so on
abbrev pub stand_in_order : List Candidate → Bool
stand_in_order [] = true
stand_in_order (x ∷ xs) = list_all (comes_before x) xs && stand_in_order xs

-- all candidates in order, of which the first are chosen: no one that is left out comes before one that is chosen
pub record IsChoice (candidates ordered : List Candidate) (n chosen : ℕ) : Type 0 where
  pub all : IsPermutation candidates ordered
  pub order : stand_in_order ordered ≡ true
  pub count : chosen ≡ min n (length candidates)
