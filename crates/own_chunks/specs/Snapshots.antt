-- How many snapshots were made.
use Rattle.std.specs.Prelude.{ℕ, Option, Some, None}
use Rattle.psb_model.specs.declared.entries.SnapMark.{SnapMark}

-- the number of the latest, 0 where there is none
abbrev pub count_of : Option SnapMark → ℕ
count_of None = 0
count_of (Some mark) = mark.number
