use Rattle.std.proofs.Common.{◌≡◌, ◌≤◌, length, Bool, sym, ap, ◌∙◌, subst, arith}
use Rattle.std.specs.Vec.{vec_capacity}
use Rattle.rolling_chunks.specs.Cuts.{longest}
use Rattle.snapshots.specs.Gathering.{begun, IsGathered, Finishes}
use Rattle.snapshots.proofs.Gatherings.{gathered, start_is, gathered_finished, finished}
use Rattle.snapshots.proofs.gathering.ChunkBuffer.finish.Goals as goal

pub invariant_of-self : goal.invariant_of-self
invariant_of-self c =
    let old = c.args.self.now in
    let inside = c.self.inside in
    let is = start_is old inside.cutter inside.bytes.items inside.whole (c.self.view_is ∙ c.begin.ensures) in
    let long : length (begun old) ≡ inside.cutter.len = ap length (sym is.2) ∙ c.self.invariant.long in
    let short : length (begun old) ≤ longest = omega (arith, ap length is.1, c.self.invariant.short) in
    subst (λ (w : Bool). IsGathered (gathered c.finish.new.self inside.bytes.items w) (vec_capacity inside.bytes)) (sym c.is_some-self-inside.ensures)
    (gathered_finished (begun old) inside.bytes.items inside.cutter c.finish.new.self c.finish.result (vec_capacity inside.bytes) long short is.1 c.finish.ensures c.self.invariant.room)

pub returns-clause-finishes : goal.returns-clause-finishes
returns-clause-finishes c =
    let old = c.args.self.now in
    let inside = c.self.inside in
    let is = start_is old inside.cutter inside.bytes.items inside.whole (c.self.view_is ∙ c.begin.ensures) in
    let long : length (begun old) ≡ inside.cutter.len = ap length (sym is.2) ∙ c.self.invariant.long in
    subst (λ (w : Bool). Finishes old w (gathered c.finish.new.self inside.bytes.items w)) (sym c.is_some-self-inside.ensures)
    (finished old inside.bytes.items inside.cutter c.finish.new.self c.finish.result is.0 is.1 long c.finish.ensures)
