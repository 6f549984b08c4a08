-- Where the objects of two lists stand among those of both.
use Rattle.std.specs.Prelude.{◌≡◌, ◌≤◌, ℕ, ◌+◌, ◌-◌, nat_lt, Bool, true, false, ◌&&◌, List, length, slice_get, Option, Some, None}
use Rattle.std.specs.Ordering.{is_lt}
use Rattle.psb_bytes.specs.Objects.{object_cmp}
use Rattle.psb_bytes.specs.declared.ids.Object.{Object}

-- whether an object comes before another, if there is one; and whether it is there besides
abbrev pub precedes : Object → Option Object → Bool
precedes d None = true
precedes d (Some o) = is_lt (object_cmp d o)

abbrev pub is_first : Option Object → Option Object → Bool
is_first None b = false
is_first (Some d) b = precedes d b

-- Of two lists in object order: whether the object at place k of the second is among the first i of both.
abbrev pub is_within : List Object → List Object → ℕ → ℕ → Bool
is_within there owed i k = elim (slice_get owed k) [ None ↦ false | Some d ↦ nat_lt k i && precedes d (slice_get there (i - (k + 1))) ]

-- so many of the second are among the first i of both
pub record IsSplit (there owed : List Object) (i j : ℕ) : Type 0 where
  pub some : j ≤ length owed
  pub few : j ≤ i
  pub within : (k : ℕ) → k + 1 ≡ j → is_within there owed i k ≡ true
  pub behind : is_within there owed i j ≡ false
