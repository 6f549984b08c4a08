-- Rows of debt, and how many of them have each object, in a tree beside them.
use Rattle.std.specs.Prelude.{◌≡◌, ◌≤◌, ℕ, ◌+◌, ◌-◌, if◌then◌else◌, List, [], ◌∷◌, length, take, Option, Some, None}
use Rattle.std.specs.Map.{lookup}
use Rattle.psb_bytes.specs.declared.ids.Object.{Object}
use Rattle.psb_model.specs.declared.entries.DebtEntry.{DebtEntry}
use Rattle.psb_model.specs.Words.{object_eq, occurs}
use Rattle.psb_model.specs.State.{debt_key}

abbrev pub or_zero : Option ℕ → ℕ
or_zero None = 0
or_zero (Some n) = n

-- the count that stands at the object
abbrev pub count_at : List (Object × ℕ) → Object → ℕ
count_at es o = or_zero (lookup (λ k. object_eq o k) es)

-- the tree counts the first of the rows
pub record KnowsCounts (rows : List DebtEntry) (es : List (Object × ℕ)) (counted : ℕ) : Type 0 where
  pub within : counted ≤ length rows
  pub counts : (o : Object) → count_at es o ≡ occurs debt_key (take counted rows) o

-- the counts stay
abbrev pub CountsStay : List (Object × ℕ) → List (Object × ℕ) → Type 0
CountsStay es ns = (o : Object) → count_at ns o ≡ count_at es o

-- one row more with the object is counted, or one less where there is one
abbrev pub CountsMore : Object → List (Object × ℕ) → List (Object × ℕ) → Type 0
CountsMore k es ns = (o : Object) → count_at ns o ≡ count_at es o + (if object_eq k o then 1 else 0)

abbrev pub CountsLess : Object → List (Object × ℕ) → List (Object × ℕ) → Type 0
CountsLess k es ns = (o : Object) → count_at ns o ≡ count_at es o - (if object_eq k o then 1 else 0)

-- the rows are counted no more
abbrev pub CountsWithout : List DebtEntry → List (Object × ℕ) → List (Object × ℕ) → Type 0
CountsWithout rows es ns = (o : Object) → count_at ns o ≡ count_at es o - occurs debt_key rows o

-- the first row loses units, if there is one
abbrev pub first_less : ℕ → List DebtEntry → List DebtEntry
first_less n [] = []
first_less n (d ∷ ds) = record d { left = d.left - n } ∷ ds

-- what is left of the first row, if there is one, is as many units or more
abbrev pub FirstHas : ℕ → List DebtEntry → Type 0
FirstHas n [] = Unit {0}
FirstHas n (d ∷ ds) = n ≤ d.left
