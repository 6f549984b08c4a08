-- The runs that a tree keeps, and those beside it.
use Rattle.std.specs.Prelude.{ℕ, ◌-◌, List, ◌++◌, map, vec_len, vec_capacity}
use Rattle.slot_runs.specs.declared.run.Run.{Run}
use Rattle.slot_runs.specs.Runs.{AreRuns, AreLongest}
use Rattle.slot_runs.specs.declared.run_tree.Stretch.{Stretch}
use Rattle.slot_runs.specs.declared.run_tree.SlotRuns.{SlotRuns}

-- the run that the tree keeps by its last number
abbrev pub run_of : {R : Type 0} → ℕ × Stretch R → Run R
run_of x = record { first = x.1.first; last = x.0; rest = x.1.rest }

abbrev pub tree_runs : {R : Type 0} → SlotRuns R → List (Run R)
tree_runs s = map run_of s.tree.entries

-- all of them
abbrev pub runs : {R : Type 0} → SlotRuns R → List (Run R)
runs s = tree_runs s ++ s.latest.items

-- how many more have room
abbrev pub runs_room : {R : Type 0} → SlotRuns R → ℕ
runs_room s = vec_capacity s.latest - vec_len s.latest

-- they are runs, and in the tree each is as long as it can be
pub record IsKept {R : Type 0} (s : SlotRuns R) : Type 0 where
  pub are : AreRuns (runs s)
  pub longest : AreLongest (tree_runs s)
