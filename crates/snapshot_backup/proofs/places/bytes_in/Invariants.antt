use Rattle.std.proofs.Common.{◌≡◌, ◌≤◌, ◌*◌, take}
use Rattle.skeleton.specs.Entries.{total}
use Rattle.snapshot_backup.proofs.places.bytes_in.Given as goal

abbrev pub invariant-loop-r : goal.invariant-loop-r
invariant-loop-r l = record {
  sum : l.bytes ≡ total (take l.r-index l.refs);
  low : l.bytes ≤ l.r-index * 4294967295;
}
