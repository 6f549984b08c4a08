-- What stands at a path of a folder in memory.
use Rattle.std.specs.Prelude.{ℕ, List, Option, Some, None}
use Rattle.psb_station.specs.Folder.{Stored, Folder, File, Special}
use Rattle.psb_station.specs.StationCalls.{IsFull}
use Rattle.psb_station.specs.declared.node.Node.{Node}
use Rattle.psb_station.specs.declared.node.Node.TheVariants as node

abbrev pub stored_of : Node → Stored
stored_of node.Folder = Folder
stored_of (node.File bytes) = File bytes.items

abbrev pub bytes_in : Option Stored → Option (List ℕ)
bytes_in (Some (File bytes)) = Some bytes
bytes_in (Some Folder) = None
bytes_in (Some Special) = None
bytes_in None = None

-- an entry is a file whose list has no room for so many bytes more
abbrev pub IsFullFor : ℕ → Option Node → Type 0
IsFullFor more None = ⊥
IsFullFor more (Some node.Folder) = ⊥
IsFullFor more (Some (node.File bytes)) = IsFull more bytes
