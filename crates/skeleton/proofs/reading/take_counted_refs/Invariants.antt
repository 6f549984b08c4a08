use Rattle.std.proofs.Common.{◌≡◌, ◌-◌, []}
use Rattle.skeleton.specs.Reading.{run_from, ref_behind}
use Rattle.skeleton.proofs.reading.take_counted_refs.Given as goal

abbrev pub invariant-loop : goal.invariant-loop
invariant-loop l = run_from ref_behind l.count [] l.fn.reader ≡ run_from ref_behind (l.count - l.counter) l.refs.items l.reader
