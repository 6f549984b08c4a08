-- Pieces of bytes that stand one behind the other in one list.
use Rattle.std.specs.Prelude.{ℕ, ◌-◌, ◌≤◌, List, take, drop}
use Rattle.psb_station.specs.declared.piece.Piece.{Piece}

abbrev pub piece_of : List ℕ → Piece → List ℕ
piece_of bytes p = take (p.end - p.begin) (drop p.begin bytes)

-- the piece stands in a list of so many bytes
abbrev pub IsIn : ℕ → Piece → Type 0
IsIn long p = (p.begin ≤ p.end) × (p.end ≤ long)
