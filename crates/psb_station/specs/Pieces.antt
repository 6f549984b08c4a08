-- Pieces of bytes, each with what it belongs to.
use Rattle.std.specs.Prelude.{◌⊎◌, ℕ, ◌+◌, ◌<◌, ◌≤◌, List, map, vec_len, vec_capacity}
use Rattle.psb_station.specs.StationCalls.{IsFull}
use Rattle.psb_station.specs.Piece.{piece_of}
use Rattle.psb_station.specs.declared.pieces.Labelled.{Labelled}
use Rattle.psb_station.specs.declared.pieces.Pieces.{Pieces}

-- what a piece belongs to, and its bytes
abbrev pub labelled_of : {K : Type 0} → List ℕ → Labelled K → K × List ℕ
labelled_of bytes p = (p.label, piece_of bytes p.piece)

abbrev pub pieces_of : {K : Type 0} → Pieces K → List (K × List ℕ)
pieces_of p = map (labelled_of p.bytes.items) p.list.items

-- one more of so many bytes takes no memory
abbrev pub HasRoom : {K : Type 0} → ℕ → Pieces K → Type 0
HasRoom more p = (vec_len p.list < vec_capacity p.list) × (vec_len p.bytes + more ≤ vec_capacity p.bytes)

-- one more of so many bytes finds a list full
abbrev pub IsTooFull : {K : Type 0} → ℕ → Pieces K → Type 0
IsTooFull more p = IsFull 1 p.list ⊎ IsFull more p.bytes
