use Rattle.std.proofs.Common.{◌≡◌, ◌≤◌, ℕ, List, length, take}
use Rattle.psb_model.specs.Words.{name_listed}
use Rattle.snapshots.specs.Meaning.{refs_in}
use Rattle.snapshot_backup.specs.Naming.{has_name, count_of, names_in}
use Rattle.snapshot_backup.proofs.note.name_files.Given as goal

abbrev pub invariant-loop-entry : goal.invariant-loop-entry
invariant-loop-entry l = record {
  named : (q : List ℕ) → has_name l.names q ≡ name_listed (names_in (refs_in (take l.entry-index l.entries))) q;
  count : count_of l.names ≤ length (refs_in (take l.entry-index l.entries));
}
