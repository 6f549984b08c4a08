use Rattle.std.proofs.Common.{◌≡◌, ℕ, ◌≤◌, List, ◌++◌, length, take, sym, ap, ◌∙◌, arith, length-append}
use Rattle.std.specs.Vec.{vec_capacity}
use Rattle.std.specs.Result.{is_ok}
use Rattle.rolling_chunks.specs.Cuts.{longest}
use Rattle.snapshots.specs.Gathering.{begun}
use Rattle.snapshots.proofs.Gatherings.{start_is, taken_short, gathered_taken, extended, takes}
use Rattle.snapshots.proofs.gathering.ChunkBuffer.take.Goals as goal

-- what was taken of these bytes, and that it fits
taken_of : goal.After-self-1 → List ℕ
taken_of c = take c.push_to_cut-run.result.len c.args.bytes.now

fits : (c : goal.After-self-1) → length (begun c.args.self.now ++ taken_of c) ≤ longest
unfolding taken_of
fits c =
    let old = c.args.self.now in
    let inside = c.self.inside in
    let is = start_is old inside.cutter inside.bytes.items inside.whole (c.self.view_is ∙ c.begin.ensures) in
    let long : length (begun old) ≡ inside.cutter.len = ap length (sym is.2) ∙ c.self.invariant.long in
    taken_short c.self.invariant.text (begun old) (taken_of c) c.push_to_cut-run.result.ends inside.cutter c.push_to_cut-run.new.self c.self.invariant.fed long c.push_to_cut-run.ensures.runs

grown : (c : goal.After-self-1) → c.extend_from_slice.new.self.items ≡ begun c.args.self.now ++ taken_of c
unfolding taken_of
grown c =
    let old = c.args.self.now in
    let inside = c.self.inside in
    let is = start_is old inside.cutter inside.bytes.items inside.whole (c.self.view_is ∙ c.begin.ensures) in
    extended c.extend_from_slice.new.self.items inside.bytes.items (taken_of c) (is_ok c.extend_from_slice.result) c.extend_from_slice.ensures.items
    (c.extend_from_slice.ensures.succeeds (omega (arith, fits c, length-append (begun old) (taken_of c), ap length is.1, c.self.invariant.room)))
    ∙ ap (λ (l : List ℕ). l ++ taken_of c) is.1

pub invariant_of-self : goal.invariant_of-self
unfolding taken_of
invariant_of-self c =
    let old = c.args.self.now in
    let inside = c.self.inside in
    let run = c.push_to_cut-run.result in
    let is = start_is old inside.cutter inside.bytes.items inside.whole (c.self.view_is ∙ c.begin.ensures) in
    let long : length (begun old) ≡ inside.cutter.len = ap length (sym is.2) ∙ c.self.invariant.long in
    gathered_taken (begun old) (taken_of c) c.extend_from_slice.new.self.items run.ends inside.cutter c.push_to_cut-run.new.self c.self.invariant.text (vec_capacity c.extend_from_slice.new.self) c.self.invariant.fed long c.push_to_cut-run.ensures.runs
    (grown c) (omega (arith, c.self.invariant.room, c.extend_from_slice.ensures.capacity))

pub returns-clause-takes : goal.returns-clause-takes
unfolding taken_of
returns-clause-takes c =
    let old = c.args.self.now in
    let inside = c.self.inside in
    let run = c.push_to_cut-run.result in
    let is = start_is old inside.cutter inside.bytes.items inside.whole (c.self.view_is ∙ c.begin.ensures) in
    takes old c.args.bytes.now c.extend_from_slice.new.self.items run.len run.ends inside.cutter c.push_to_cut-run.new.self is.0 c.push_to_cut-run.ensures.within c.push_to_cut-run.ensures.some c.push_to_cut-run.ensures.all (grown c) c.push_to_cut-run.ensures.runs

pub returns-clause-short : goal.returns-clause-short
returns-clause-short c = omega (arith, ap length (grown c), fits c)
