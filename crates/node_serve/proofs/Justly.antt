-- What a serving makes of the node's own probes has its reason.
use Rattle.std.proofs.Common.{◌≡◌, ℕ, Bool, false, List, Option}
use Rattle.psb_station.specs.Span.{Tells_bytes}
use Rattle.psb_station.specs.View.{View}
use Rattle.psb_model.specs.declared.change.Change.{Change}
use Rattle.psb_machine.specs.Machine.{fresh}
use Rattle.probe_laws.proofs.Courses.{courses_are_just}
use Rattle.node_journal.specs.Entry.{Entry}
use Rattle.node_core.specs.declared.node.Node.{Node}
use Rattle.node_core.specs.Stored.{Knows, Stored}
use Rattle.node_serve.specs.Hears.{End}
use Rattle.node_serve.specs.Spans.{Tally, RanTurns, ServedJustly}

pub served_justly : {L : Type 0} (holds : L → List Entry → List ℕ → Type 0) (stands : List Entry → List ℕ → Type 0) (broken : L → Bool) (peers : List ℕ) (c0 c1 : ℕ) (old new : Node L) (v0 v1 : View) (turns : ℕ) (counts : Option Tally) (e : End)
    → RanTurns holds stands broken peers c0 c1 old new v0 v1 turns counts e → broken new.log ≡ false → Tells_bytes v1 → (h : List Change) → Knows old (fresh h) → Stored holds old h v0 → ServedJustly holds new h v1
served_justly holds stands broken peers c0 c1 old new v0 v1 turns counts e ran whole tells h k s =
    let fed = (ran.fed tells (fresh h) k s).fed in
    let knows = fed.knows whole in
    record { done = fed.done; knows = knows; stored = fed.stored whole; just = courses_are_just h fed.done k.valid knows.valid.lawful }
