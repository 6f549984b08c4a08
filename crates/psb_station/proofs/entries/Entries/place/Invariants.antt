use Rattle.std.proofs.Common.{◌-◌, ◌≤◌, length}
use Rattle.psb_station.specs.Entry.{ComesAfter, ComesBefore}
use Rattle.psb_station.specs.Entries.{entries_of}
use Rattle.psb_station.proofs.entries.Entries.place.Given as goal

abbrev pub invariant-loop-low : goal.invariant-loop-low
invariant-loop-low l = (l.low ≤ l.high) × (l.high ≤ length (entries_of l.self)) × ComesAfter (entries_of l.self) l.low l.path × ComesBefore (entries_of l.self) l.high l.path

abbrev pub decreases-loop-low : goal.decreases-loop-low
decreases-loop-low l = l.high - l.low
