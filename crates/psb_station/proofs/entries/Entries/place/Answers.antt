use Rattle.std.proofs.Common.{◌≡◌, ◌+◌, ◌-◌, ◌/◌, ◌<◌, length, Less, Equal, Greater, arith, sym}
use Rattle.std.specs.Prelude.{slice_get}
use Rattle.psb_station.specs.Entries.{entries_of}
use Rattle.psb_station.proofs.Places.{cmp, is_there, above_middle, below_middle, found_middle}
use Rattle.psb_station.proofs.Spans.{at_some}
use Rattle.psb_station.proofs.entries.Entries.place.Goals as goal

pub loop-low-preserved-in-Less : goal.loop-low-preserved-in-Less
loop-low-preserved-in-Less c =
    let m = c.args.self.now in
    let i = c.loop-low.low + (c.loop-low.high - c.loop-low.low) / 2 in
    let h = c.loop-low.invariant in
    let lt : i < length (entries_of m) = omega (arith, c.loop-low-test.true, h.1) in
    let e = is_there (entries_of m) i lt in
    let less = at_some (slice_get (entries_of m) i) (λ x. Less ≡ cmp x.0 c.args.path.now) e.0 c.in-Less.ensures e.1 in
    (omega (arith, c.loop-low-test.true), h.1, above_middle (entries_of m) i c.args.path.now e.0 m.ascend e.1 (sym less), h.3)

pub returns-in-Equal-clause-place : goal.returns-in-Equal-clause-place
returns-in-Equal-clause-place c =
    let m = c.args.self.now in
    let i = c.loop-low.low + (c.loop-low.high - c.loop-low.low) / 2 in
    let lt : i < length (entries_of m) = omega (arith, c.loop-low-test.true, c.loop-low.invariant.1) in
    let e = is_there (entries_of m) i lt in
    let same = at_some (slice_get (entries_of m) i) (λ x. Equal ≡ cmp x.0 c.args.path.now) e.0 c.in-Equal.ensures e.1 in
    found_middle (entries_of m) i c.args.path.now e.0 e.1 (sym same)

pub loop-low-preserved : goal.loop-low-preserved
loop-low-preserved c =
    let m = c.args.self.now in
    let i = c.loop-low.low + (c.loop-low.high - c.loop-low.low) / 2 in
    let h = c.loop-low.invariant in
    let lt : i < length (entries_of m) = omega (arith, c.loop-low-test.true, h.1) in
    let e = is_there (entries_of m) i lt in
    let greater = at_some (slice_get (entries_of m) i) (λ x. Greater ≡ cmp x.0 c.args.path.now) e.0 c.in-Greater.ensures e.1 in
    (omega arith, omega (arith, lt), h.2, below_middle (entries_of m) i c.args.path.now e.0 m.ascend e.1 (sym greater))
