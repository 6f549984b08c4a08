-- An entry of a folder in memory, and lists of entries.
use Rattle.std.specs.Prelude.{◌≡◌, ℕ, Bool, true, false, ◌<◌, ◌≤◌, [], ◌∷◌, ◌++◌, cond, List, map, All, Option, Some, Result, Ok, Err, slice_get, length}
use Rattle.std.specs.Ordering.{nat_cmp, is_eq}
use Rattle.std.specs.Cmp.Lexicographic.{slice_cmp}
use Rattle.std.specs.declared.cmp.Ordering.TheVariants.{Less, Greater}
use Rattle.std.specs.List.Sorted.{IsStrictlySortedBy}
use Rattle.std.specs.Map.{lookup, keys_of}
use Rattle.std.specs.BTreeMap.{is_at}
use Rattle.std.specs.Option.{option_map}
use Rattle.std.specs.Str.{is_utf8}
use Rattle.psb_station.specs.Folder.{File}
use Rattle.psb_station.specs.Node.{stored_of}
use Rattle.psb_station.specs.Piece.{piece_of, IsIn}
use Rattle.psb_station.specs.declared.node.Node.{Node}
use Rattle.psb_station.specs.declared.entries.Entry.{Entry}

-- a path, and what stands at it, where these bytes are those of all paths
abbrev pub entry_in : List ℕ → Entry → List ℕ × Node
entry_in paths e = (piece_of paths e.path, e.node)

abbrev pub entries_in : List ℕ → List Entry → List (List ℕ × Node)
entries_in paths list = map (entry_in paths) list

-- each path is among so many bytes
abbrev pub ArePieces : ℕ → List Entry → Type 0
ArePieces long list = All (λ (e : Entry). IsIn long e.path) list

-- a path of an entry is a text, and not the root's
abbrev pub is_entry_path : List ℕ → Bool
is_entry_path [] = false
is_entry_path (c ∷ path) = is_utf8 (c ∷ path)

abbrev pub ArePaths : List (List ℕ × Node) → Type 0
ArePaths entries = All (λ (e : List ℕ × Node). is_entry_path e.0 ≡ true) entries

-- the paths ascend by their bytes
abbrev pub Ascend : List (List ℕ × Node) → Type 0
Ascend entries = IsStrictlySortedBy (slice_cmp nat_cmp) (keys_of entries)

-- what stands at a path
abbrev pub by_path : List (List ℕ × Node) → List ℕ → Option Node
by_path entries path = lookup (is_at (slice_cmp nat_cmp path)) entries

-- a path is below each that stands before a place
abbrev pub ComesAfter : List (List ℕ × Node) → ℕ → List ℕ → Type 0
ComesAfter entries place path = (j : ℕ) (e : List ℕ × Node) → j < place → slice_get entries j ≡ Some e → slice_cmp nat_cmp path e.0 ≡ Greater

-- and above each that stands from a place on
abbrev pub ComesBefore : List (List ℕ × Node) → ℕ → List ℕ → Type 0
ComesBefore entries place path = (j : ℕ) (e : List ℕ × Node) → place ≤ j → slice_get entries j ≡ Some e → slice_cmp nat_cmp path e.0 ≡ Less

-- where a path stands, or where it would stand
abbrev pub IsPlace : List (List ℕ × Node) → List ℕ → Result ℕ ℕ → Type 0
IsPlace entries path (Ok i) = (n : Node) × (slice_get entries i ≡ Some (path, n))
IsPlace entries path (Err i) = (i ≤ length entries) × ComesAfter entries i path × ComesBefore entries i path

-- at one path this stands now, and elsewhere what stood there
abbrev pub Updates : List (List ℕ × Node) → List (List ℕ × Node) → List ℕ → Option Node → Type 0
Updates old new path now = (q : List ℕ) → by_path new q ≡ cond (is_eq (slice_cmp nat_cmp q path)) now (by_path old q)

-- the file at a path has these bytes more at its end
pub record Lengthens (old new : List (List ℕ × Node)) (path piece : List ℕ) : Type 0 where
  pub was : Node
  pub now : Node
  pub bytes : List ℕ
  pub found : by_path old path ≡ Some was
  pub before : stored_of was ≡ File bytes
  pub after : stored_of now ≡ File (bytes ++ piece)
  pub updates : Updates old new path (Some now)

-- the same stands at each path
abbrev pub SameStored : List (List ℕ × Node) → List (List ℕ × Node) → Type 0
SameStored old new = (q : List ℕ) → option_map stored_of (by_path new q) ≡ option_map stored_of (by_path old q)
