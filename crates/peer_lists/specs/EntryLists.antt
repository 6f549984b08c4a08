-- What a list of chunks and slots holds.
use Rattle.std.specs.Prelude.{◌≡◌, ℕ, true, List, ◌++◌, min}
use Rattle.std.specs.List.{list_all}
use Rattle.psb_bytes.specs.declared.ids.Object.{Object}
use Rattle.peer_lists.specs.declared.entry_list.EntryList.{EntryList}
use Rattle.peer_lists.specs.Entries.{in_order}
use Rattle.peer_lists.specs.Trees.{tree_items, tree_room}
use Rattle.peer_lists.specs.Chunks.{is_chunk}
use Rattle.slot_runs.specs.SlotRuns.{runs, runs_room, IsKept}
use Rattle.peer_lists.specs.Slots.{slot_items}

-- in object order: chunks, and then slots
abbrev pub items : {E R : Type 0} → (E → Object) → (Object → R → E) → EntryList E R → List E
items key joined l = tree_items key joined l.chunks ++ slot_items key joined (runs l.slots)

-- how many more chunks, and runs, have room
abbrev pub room : {E R : Type 0} → EntryList E R → ℕ
room l = min (tree_room l.chunks) (runs_room l.slots)

-- the chunks are chunks, in order; and the slots are runs, in their tree each as long as it can be
pub record IsList {E R : Type 0} (key : E → Object) (joined : Object → R → E) (l : EntryList E R) : Type 0 where
  pub ordered : in_order key (tree_items key joined l.chunks) ≡ true
  pub chunks : list_all (λ e. is_chunk (key e)) (tree_items key joined l.chunks) ≡ true
  pub slots : IsKept l.slots
