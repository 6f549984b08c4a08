use Rattle.psb_station.specs.View.{View}
use Rattle.psb_station.specs.Span.{Tells_bytes}
use Rattle.node_journal.specs.Entry.{Entry}
use Rattle.psb_model.specs.declared.change.Change.{Change}
use Rattle.psb_machine.specs.Machine.{Situation}
use Rattle.node_core.specs.declared.node.Node.{Node}
use Rattle.node_core.specs.Stored.{Knows, Stored}
use Rattle.node_serve.specs.Spans.{IsReady}
use Rattle.node_serve.proofs.Runs.{ready_after}
use Rattle.std.proofs.Common.{ℕ, List}
use Rattle.psb_cases.proofs.absorbing.absorb.Goals as goal

-- a node that kept what it was is as ready as before
still_ready : {L : Type 0} (holds : L → List Entry → List ℕ → Type 0) (n0 n1 : Node L) (v0 v1 : View) → IsReady holds n0 v0 → (Tells_bytes v1 → Tells_bytes v0)
    → ((n : Situation) → Knows n0 n → Knows n1 n) × (Tells_bytes v1 → (h : List Change) → Stored holds n0 h v0 → Stored holds n1 h v1) → IsReady holds n1 v1
still_ready holds n0 n1 v0 v1 ready same kept = (ready.0, kept.0 ready.0 ready.1, λ tells. kept.1 tells ready.0.history (ready.2 (same tells)))

pub absorb-requires-clause-fits : goal.absorb-requires-clause-fits
absorb-requires-clause-fits g c = λ whole tells. let r = c.requires.ready whole in (r.0.history, r.2 tells)

pub absorb-requires-clause-known : goal.absorb-requires-clause-known
absorb-requires-clause-known g c = λ whole. let r = c.requires.ready whole in (r.0, r.1)

pub returns-in-Ok-clause-ready : goal.returns-in-Ok-clause-ready
returns-in-Ok-clause-ready g c = λ whole well.
    ready_after g.L.Log.holds g.L.Log.stands g.L.Log.is_broken g.met.L.Log.holds_stands c.args.node.now c.absorb.new.self (g.D.Disk.view c.args.disk.now) (g.D.Disk.view c.absorb.new.disk) well (c.requires.ready whole) c.absorb.ensures.works.tells c.in-Ok.ensures.known
    (λ tells n k st. (_, (c.in-Ok.ensures.machine tells n k st).0, c.in-Ok.ensures.disk tells n k st))

pub returns-in-Err-Memory-clause-ready : goal.returns-in-Err-Memory-clause-ready
returns-in-Err-Memory-clause-ready g c = λ whole well.
    still_ready g.L.Log.holds c.args.node.now c.absorb.new.self (g.D.Disk.view c.args.disk.now) (g.D.Disk.view c.absorb.new.disk) (c.requires.ready whole) c.absorb.ensures.works.tells (c.in-Err-Memory.ensures.kept well)

pub returns-in-Err-Broken-clause-ready : goal.returns-in-Err-Broken-clause-ready
returns-in-Err-Broken-clause-ready g c = λ whole well.
    still_ready g.L.Log.holds c.args.node.now c.absorb.new.self (g.D.Disk.view c.args.disk.now) (g.D.Disk.view c.absorb.new.disk) (c.requires.ready whole) c.absorb.ensures.works.tells (c.in-Err-Broken.ensures.kept well)
