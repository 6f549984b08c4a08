use Rattle.std.proofs.Common.{◌≡◌, ◌+◌, ◌≤◌, ◌||◌, ℕ, List, take}
use Rattle.psb_model.specs.Words.{name_listed}
use Rattle.snapshot_backup.specs.Naming.{has_name, count_of, names_in}
use Rattle.snapshot_backup.proofs.naming.Names.add.Given as goal

abbrev pub invariant-loop-r : goal.invariant-loop-r
invariant-loop-r l = record {
  named : (q : List ℕ) → has_name l.self q ≡ (has_name l.fn.self q || name_listed (names_in (take l.r-index l.refs)) q);
  count : count_of l.self ≤ count_of l.fn.self + l.r-index;
}
