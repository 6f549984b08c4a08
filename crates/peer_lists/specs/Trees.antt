-- What a tree of entries holds.
use Rattle.std.specs.Prelude.{ℕ, ◌-◌, List, map, vec_len, vec_capacity}
use Rattle.psb_bytes.specs.declared.ids.Object.{Object}
use Rattle.psb_model.specs.Words.{with_all}
use Rattle.peer_lists.specs.declared.entry_tree.EntryTree.{EntryTree}

-- the entries of a tree, by their objects and the rest, with the latest
abbrev pub items_of : {E R : Type 0} → (E → Object) → (Object → R → E) → List (Object × R) → List E → List E
items_of {R = R} key joined es latest = with_all key latest (map (λ (x : Object × R). joined x.0 x.1) es)

-- what a tree holds, in object order, and how many more entries it has room for
abbrev pub tree_items : {E R : Type 0} → (E → Object) → (Object → R → E) → EntryTree E R → List E
tree_items key joined t = items_of key joined t.tree.entries t.latest.items

abbrev pub tree_room : {E R : Type 0} → EntryTree E R → ℕ
tree_room t = vec_capacity t.latest - vec_len t.latest
