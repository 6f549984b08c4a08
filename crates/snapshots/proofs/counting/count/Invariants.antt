use Rattle.std.proofs.Common.{◌≡◌, take, sum_by}
use Rattle.snapshots.specs.Counts.{one_file, one_folder, its_bytes}
use Rattle.snapshots.proofs.counting.count.Given as goal

abbrev pub invariant-loop-entry : goal.invariant-loop-entry
invariant-loop-entry l = record {
  files : l.counts.files ≡ sum_by one_file (take l.entry-index l.entry-items);
  folders : l.counts.folders ≡ sum_by one_folder (take l.entry-index l.entry-items);
  bytes : l.counts.bytes ≡ sum_by its_bytes (take l.entry-index l.entry-items);
}
