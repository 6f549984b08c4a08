use Rattle.std.proofs.Common.{◌≡◌, ◌-◌, []}
use Rattle.skeleton.specs.Reading.{run_from, entry_at}
use Rattle.skeleton.proofs.reading.take_counted_entries.Given as goal

abbrev pub invariant-loop : goal.invariant-loop
invariant-loop l = run_from entry_at l.count [] l.fn.reader ≡ run_from entry_at (l.count - l.counter) l.skeleton l.reader
