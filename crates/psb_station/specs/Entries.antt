-- The entries of a folder in memory.
use Rattle.std.specs.Prelude.{◌⊎◌, ℕ, ◌+◌, ◌<◌, ◌≤◌, List, vec_len, vec_capacity}
use Rattle.psb_station.specs.StationCalls.{IsFull}
use Rattle.psb_station.specs.Entry.{entries_in}
use Rattle.psb_station.specs.declared.node.Node.{Node}
use Rattle.psb_station.specs.declared.entries.Entries.{Entries}

abbrev pub entries_of : Entries → List (List ℕ × Node)
entries_of e = entries_in e.paths.items e.list.items

-- one more with a path of so many bytes takes no memory
abbrev pub HasRoomFor : ℕ → Entries → Type 0
HasRoomFor more e = (vec_len e.list < vec_capacity e.list) × (vec_len e.paths + more ≤ vec_capacity e.paths)

-- one more with a path of so many bytes finds a list full
abbrev pub IsTooFullFor : ℕ → Entries → Type 0
IsTooFullFor more e = IsFull 1 e.list ⊎ IsFull more e.paths
