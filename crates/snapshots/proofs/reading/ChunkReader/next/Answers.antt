use Rattle.std.proofs.Common.{length, sym, ap, ◌∙◌, refl, arith}
use Rattle.snapshots.specs.Gathering.{begun}
use Rattle.snapshots.proofs.ChunkReads.{so_far_none, refill_fits, so_far_refilled, so_far_taken, reads_then, goes_on, some_there, begun_more, ended_already, chunk_given, file_given, on_err}
use Rattle.snapshots.proofs.reading.ChunkReader.next.Goals as goal

pub returns-then-self-clause-next : goal.returns-then-self-clause-next
returns-then-self-clause-next g c = λ text chunks behind. ended_already c.args.path.now (g.F.Folder.view c.args.folder.now) c.args.self.now text chunks c.if-self.true behind

pub loop-self-init : goal.loop-self-init
loop-self-init g c = so_far_none c.args.path.now (g.F.Folder.view c.args.folder.now) c.args.self.now c.if-self.false

pub refill-requires : goal.refill-requires
refill-requires g c = λ none. refill_fits c.args.path.now (g.F.Folder.view c.args.folder.now) (g.F.Folder.view c.loop-self.folder) c.args.self.now c.loop-self.self c.loop-self.invariant c.requires none

pub returns-in_err-refill-clause-reads : goal.returns-in_err-refill-clause-reads
returns-in_err-refill-clause-reads g c =
    reads_then c.args.path.now (g.F.Folder.view c.args.folder.now) (g.F.Folder.view c.loop-self.folder) (g.F.Folder.view c.refill.new.folder) c.loop-self.invariant.reads c.in_err-refill.ensures.reads

pub returns-in_err-refill-clause-cause : goal.returns-in_err-refill-clause-cause
returns-in_err-refill-clause-cause g c =
    on_err c.from_residual.result _ (omega (arith, c.in_err-refill.ensures.cause, c.loop-self.invariant.steady))

pub returns-then-gather-clause-next : goal.returns-then-gather-clause-next
returns-then-gather-clause-next g c =
    let e = c.in_ok-refill.ensures in
    let path = c.args.path.now in
    let v0 = g.F.Folder.view c.args.folder.now in
    let v1 = g.F.Folder.view c.loop-self.folder in
    let v2 = g.F.Folder.view c.refill.new.folder in
    let s = so_far_refilled path v0 v1 v2 c.args.self.now c.loop-self.self c.refill.new.self c.in_ok-refill.field-0 c.loop-self.invariant e.chunk e.ended e.reads e.steady e.refills in
    let t = c.gather.ensures.taken in
    λ text chunks behind. chunk_given path v0 v2 c.args.self.now c.refill.new.self c.gather.new.self t.0 s t.1 (sym c.gather.ensures.whole ∙ c.if-gather.true) t.2 c.gather.ensures.at c.gather.ensures.ended text chunks behind

pub returns-then-gather-clause-reads : goal.returns-then-gather-clause-reads
returns-then-gather-clause-reads g c =
    reads_then c.args.path.now (g.F.Folder.view c.args.folder.now) (g.F.Folder.view c.loop-self.folder) (g.F.Folder.view c.refill.new.folder) c.loop-self.invariant.reads c.in_ok-refill.ensures.reads

pub returns-then-gather-clause-steady : goal.returns-then-gather-clause-steady
returns-then-gather-clause-steady g c = c.in_ok-refill.ensures.steady ∙ c.loop-self.invariant.steady

pub loop-self-smaller : goal.loop-self-smaller
loop-self-smaller g c =
    let e = c.in_ok-refill.ensures in
    let t = c.gather.ensures.taken in
    let more = sym c.gather.ensures.whole ∙ c.if-gather.false in
    let some = some_there c.refill.new.self.unread c.in_ok-refill.field-0 e.refills.some_is c.if-branch.true in
    let grows = goes_on c.refill.new.self c.gather.new.self t.0 some t.1 more in
    let same = ap (λ k. length (begun k)) e.chunk in
    let short = ap length (begun_more c.gather.new.self.chunk more) in
    omega (arith, grows, same, short, c.gather.ensures.short)

pub loop-self-preserved : goal.loop-self-preserved
loop-self-preserved g c =
    let e = c.in_ok-refill.ensures in
    let path = c.args.path.now in
    let v0 = g.F.Folder.view c.args.folder.now in
    let v1 = g.F.Folder.view c.loop-self.folder in
    let v2 = g.F.Folder.view c.refill.new.folder in
    let s = so_far_refilled path v0 v1 v2 c.args.self.now c.loop-self.self c.refill.new.self c.in_ok-refill.field-0 c.loop-self.invariant e.chunk e.ended e.reads e.steady e.refills in
    let t = c.gather.ensures.taken in
    so_far_taken path v0 v2 c.args.self.now c.refill.new.self c.gather.new.self t.0 s t.1 t.2 (sym c.gather.ensures.whole ∙ c.if-gather.false) c.gather.ensures.short c.gather.ensures.at c.gather.ensures.ended

pub returns-clause-next : goal.returns-clause-next
returns-clause-next g c =
    let e = c.in_ok-refill.ensures in
    let path = c.args.path.now in
    let v0 = g.F.Folder.view c.args.folder.now in
    let v1 = g.F.Folder.view c.loop-self.folder in
    let v2 = g.F.Folder.view c.refill.new.folder in
    λ text chunks behind. file_given path v0 v1 v2 c.args.self.now c.loop-self.self c.refill.new.self _ c.in_ok-refill.field-0 c.finish.result c.loop-self.invariant e.chunk e.reads e.refills c.if-branch.false c.finish.ensures.finishes refl refl c.if-self.false text chunks behind

pub returns-clause-reads : goal.returns-clause-reads
returns-clause-reads g c =
    reads_then c.args.path.now (g.F.Folder.view c.args.folder.now) (g.F.Folder.view c.loop-self.folder) (g.F.Folder.view c.refill.new.folder) c.loop-self.invariant.reads c.in_ok-refill.ensures.reads

pub returns-clause-steady : goal.returns-clause-steady
returns-clause-steady g c = c.in_ok-refill.ensures.steady ∙ c.loop-self.invariant.steady
