-- What an abstract is: of all names in order, the first.
use Rattle.std.specs.Prelude.{◌≡◌, ◌&&◌, ℕ, Bool, true, not, List, [], ◌∷◌, map, take}
use Rattle.std.specs.List.{list_all}
use Rattle.std.specs.List.Sorted.{IsPermutation}
use Rattle.abstracts.specs.declared.least.Salted.{Salted}
use Rattle.abstracts.specs.Least.{under_salt, comes_before, abstract_of}

-- none comes before the first, and so on
abbrev pub stand_in_order : List Salted → Bool
stand_in_order [] = true
stand_in_order (x ∷ xs) = list_all (λ (y : Salted). not (comes_before y x)) xs && stand_in_order xs

-- all names under the salt in order, of which the first k are chosen: none that is left out comes before one that
-- is chosen
pub record IsAbstract (names : List (List ℕ)) (salt : List ℕ) (k : ℕ) (chosen : List (List ℕ)) : Type 0 where
  pub ordered : List Salted
  pub all : IsPermutation (map (under_salt salt) names) ordered
  pub order : stand_in_order ordered ≡ true
  pub first : chosen ≡ map (λ (s : Salted). s.name) (take k ordered)

abbrev pub AreTheLeast : Type 0
AreTheLeast = (names : List (List ℕ)) (salt : List ℕ) (k : ℕ) → IsAbstract names salt k (abstract_of names salt k)
