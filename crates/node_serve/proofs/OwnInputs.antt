-- Inputs of peers and of the node's own.
use Rattle.std.proofs.Common.{◌≡◌, ◌⊎◌, inl, inr, ⊎_elim, true, false, Bool, if◌then◌else◌, List, [], ◌∷◌, ℕ, is_some, None, Some, Result, Err, refl, sym, ◌∙◌}
use Rattle.std.proofs.lemmas.Bool.{true≢false}
use Rattle.psb_station.specs.View.{View}
use Rattle.psb_station.specs.Span.{Leaves, DiskWorks, Tells_bytes}
use Rattle.node_journal.specs.Entry.{Entry}
use Rattle.psb_model.specs.State.{State}
use Rattle.psb_machine.specs.Machine.{Situation, Input as MachineInput, Datagram, Tick, Keep, Snap, Forget, react, sent_by, next}
use Rattle.psb_machine.specs.Course.{Absorb, datagrams}
use Rattle.node_core.specs.Inputs.{input_of, is_own}
use Rattle.node_core.specs.Refusing.{IsApt, Refuses}
use Rattle.node_history.specs.Stands.{ReopensTo}
use Rattle.node_core.specs.Stored.{Knows, Stored}
use Rattle.node_core.specs.declared.fault.Fault.{Fault}
use Rattle.node_core.specs.declared.fault.Fault.TheVariants.{DiskFault, Broken, Memory}
use Rattle.node_history.proofs.Presence.{err_as}
use Rattle.node_core.specs.declared.input.Input.{Input}
use Rattle.node_core.specs.declared.input.Input.TheVariants as input
use Rattle.node_core.specs.declared.node.Node.{Node}
use Rattle.node_serve.specs.Spans.{Tally, Fed}
use Rattle.node_serve.proofs.OneTurn.{answered}
use Rattle.node_serve.proofs.Runs.{uncounted}
use Rattle.node_serve.proofs.Tries.{sends_none}

-- an input of a peer may always be fed
pub apt_of_peer : (s : State) (i : Input) → is_own (input_of i) ≡ false → IsApt s i
apt_of_peer s (input.Frame x) of_peer = tt
apt_of_peer s (input.Tick p) of_peer = tt
apt_of_peer s (input.Keep sealed) of_peer = absurd (true≢false of_peer)
apt_of_peer s (input.Snap note) of_peer = absurd (true≢false of_peer)
apt_of_peer s (input.Forget number) of_peer = absurd (true≢false of_peer)

-- and is never refused
pub none_refused : {R : Type 0} (i : MachineInput) (result : Result R Fault) → is_own i ≡ false → Refuses i result → ⊥
none_refused (Datagram x) result of_peer refuses = refuses
none_refused (Tick p) result of_peer refuses = refuses
none_refused (Keep name bytes) result of_peer refuses = true≢false of_peer
none_refused (Snap note) result of_peer refuses = true≢false of_peer
none_refused (Forget number) result of_peer refuses = true≢false of_peer

-- so what a peer's input fails of is the disk or want of memory, unless the node is broken
pub peer_fails : {R S : Type 0} (i : MachineInput) (r : Result R Fault) (f : Fault) → is_own i ≡ false → r ≡ Err f → (r ≡ Err Broken → ⊥)
    → (r ≡ Err DiskFault) ⊎ (r ≡ Err Broken) ⊎ (r ≡ Err Memory) ⊎ Refuses i r → (◌≡◌ {A = Result S Fault} (Err f) (Err DiskFault)) ⊎ (◌≡◌ {A = Result S Fault} (Err f) (Err Memory))
peer_fails {R} {S} i r f of_peer is whole only =
    ⊎_elim (λ disk. inl (err_as f DiskFault (sym is ∙ disk)))
    (λ rest. ⊎_elim (λ broken. absurd (whole broken)) (λ more. ⊎_elim (λ memory. inr (err_as f Memory (sym is ∙ memory))) (λ refuses. absurd (none_refused i r of_peer refuses)) more) rest)
    only

module _ {L : Type 0} (holds : L → List Entry → List ℕ → Type 0) (stands : List Entry → List ℕ → Type 0) (broken : L → Bool) (law : (log : L) (es : List Entry) (c : List ℕ) → holds log es c → stands es c) where
  -- an input that was absorbed, and of which nobody is told
  pub absorbed : (node node' : Node L) (n : Situation) (v1 v2 : View) (i : MachineInput) → Knows node n → DiskWorks v1 v2 → Tells_bytes v2
      → Leaves v1 v2 (λ c k. (k ≡ v1.told) × (ReopensTo stands n.history c ⊎ ReopensTo stands (next n i).history c))
      → Knows node' (next n i) → Stored holds node' (next n i).history v2 → [] ≡ sent_by n i
      → Fed holds stands broken node node' v1 v2 n (Absorb i ∷ []) None true
  absorbed node node' n v1 v2 i knows works tells run knows' stored none =
      let d = (react n i).dropped in
      let t : Tally = record { taken = datagrams i; dropped = if is_some d then 1 else 0; lost = 0 } in
      uncounted holds stands broken law node node' v1 v2 n (Absorb i ∷ []) (Some t) true
      (answered holds stands broken law node node' n v1 v2 v2 i t knows works tells run knows' stored [] none (sends_none v2) d refl refl refl)
