-- Entries as they are offered, and what may be chosen of them.
use Rattle.std.specs.Prelude.{◌≡◌, ◌⊎◌, ℕ, ◌≤◌, List, [], ◌∷◌, map, sum_by, length}
use Rattle.psb_bytes.specs.declared.ids.Object.{Object}
use Rattle.psb_model.specs.declared.entries.InEntry.{InEntry}

-- an entry's object and its units
abbrev pub weighed : InEntry → Object × ℕ
weighed e = (e.object, e.units)

-- the list has these items, in their order
abbrev pub HasInOrder : {A : Type 0} → List A → List A → Type 0
HasInOrder [] [] = Unit {0}
HasInOrder [] (x ∷ xs) = ⊥
HasInOrder (y ∷ ys) [] = Unit {0}
HasInOrder (y ∷ ys) (x ∷ xs) = ((y ≡ x) × HasInOrder ys xs) ⊎ HasInOrder ys (x ∷ xs)

-- the objects of some of the entries in their order, whose units are within the debt
pub record IsWithin (entries : List (Object × ℕ)) (debt : ℕ) (objects : List Object) : Type 0 where
  pub chosen : List (Object × ℕ)
  pub in_order : HasInOrder entries chosen
  pub objects_are : objects ≡ map (λ (e : Object × ℕ). e.0) chosen
  pub within : sum_by (λ (e : Object × ℕ). e.1) chosen ≤ debt
  pub few : length chosen ≤ 1048576
