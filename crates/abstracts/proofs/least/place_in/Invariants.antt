use Rattle.std.proofs.Common.{◌≡◌, ◌+◌, drop}
use Rattle.abstracts.specs.Least.{place_in}
use Rattle.abstracts.proofs.least.place_in.Given as goal

abbrev pub invariant-loop-i : goal.invariant-loop-i
invariant-loop-i l = place_in l.new l.least ≡ l.i + place_in l.new (drop l.i l.least)
