-- The Gets in front of a turn.
use Rattle.std.proofs.Common.{◌≡◌, ℕ, ◌%◌, ◌==◌, Bool, true, false, if◌then◌else◌, List, [], Some, None, refl, sym, ap}
use Rattle.psb_station.specs.View.{View}
use Rattle.psb_station.specs.Span.{Tells_bytes}
use Rattle.node_journal.specs.Entry.{Entry}
use Rattle.psb_settings.specs.declared.settings.Settings.{Settings}
use Rattle.psb_model.specs.History.{state}
use Rattle.psb_machine.specs.Machine.{Situation}
use Rattle.psb_machine.specs.Course.{after_all}
use Rattle.node_core.specs.declared.node.Node.{Node}
use Rattle.node_core.specs.Stored.{Knows, Stored}
use Rattle.node_serve.specs.Asks.{get_steps, only_lost}
use Rattle.node_serve.specs.Spans.{IsUp, Counts, no_tally, Fed}
use Rattle.node_serve.specs.Turns.{OnlySends}
use Rattle.node_serve.proofs.Runs.{counts_same, fed_none, fed_as, uncounted, ready_after}
use Rattle.snapshot_restore.specs.Course.{gets_at}
use Rattle.snapshot_restore.specs.Fetching.{Asks}

none_asked : (st : Settings) (name : List ℕ) (i : ℕ) → (i % 8 == 0) ≡ false → gets_at st name i ≡ []
none_asked st name i k = ap (λ (b : Bool). if b then get_steps st name else []) k

all_asked : (st : Settings) (name : List ℕ) (i : ℕ) → (i % 8 == 0) ≡ true → gets_at st name i ≡ get_steps st name
all_asked st name i k = ap (λ (b : Bool). if b then get_steps st name else []) k

module _ {L : Type 0} (holds : L → List Entry → List ℕ → Type 0) (stands : List Entry → List ℕ → Type 0) (broken : L → Bool) (law : (log : L) (es : List Entry) (c : List ℕ) → holds log es c → stands es c) where
  pub asks_none : (node : Node L) (v : View) (name : List ℕ) (i : ℕ) → (i % 8 == 0) ≡ false → Asks holds stands broken node v v name i
  asks_none node v name i k = record {
    only_sends = refl;
    tells = λ told. told;
    counts = counts_same v;
    fed = λ told n st knows present stored.
        fed_as holds stands broken law node node v v n [] (gets_at st name i) None true (sym (none_asked st name i k))
        (uncounted holds stands broken law node node v v n [] (Some no_tally) true (fed_none holds stands broken law node n v knows stored));
  }

  pub asks_all : (node : Node L) (v0 v1 : View) (name : List ℕ) (i lost : ℕ) → (i % 8 == 0) ≡ true → OnlySends v0 v1 → (Tells_bytes v1 → Tells_bytes v0) → Counts v0 v1
      → (Tells_bytes v1 → (n : Situation) (st : Settings) → Knows node n → (state n.history).settings ≡ Some st → Stored holds node n.history v0 → Fed holds stands broken node node v0 v1 n (get_steps st name) (Some (only_lost lost)) true)
      → Asks holds stands broken node v0 v1 name i
  asks_all node v0 v1 name i lost k sends tells counts run = record {
    only_sends = sends;
    tells = tells;
    counts = counts;
    fed = λ told n st knows present stored.
        fed_as holds stands broken law node node v0 v1 n (get_steps st name) (gets_at st name i) None true (sym (all_asked st name i k))
        (uncounted holds stands broken law node node v0 v1 n (get_steps st name) (Some (only_lost lost)) true (run told n st knows present stored));
  }

  pub up_asked : (size : L → ℕ) (keeps : L → ℕ → Bool) (node : Node L) (v0 v1 : View) (name : List ℕ) (i : ℕ) → IsUp holds size keeps broken node v0 → Asks holds stands broken node v0 v1 name i → IsUp holds size keeps broken node v1
  up_asked size keeps node v0 v1 name i up a = record {
    ready = ready_after holds stands broken law node node v0 v1 up.whole up.ready a.tells (λ n k. (n, k))
        (λ told n k stored. let f = a.fed told n k.settings.settings k k.settings.present stored in (after_all n f.done, f.knows up.whole, f.stored up.whole));
    whole = up.whole;
    counted = up.counted;
  }
