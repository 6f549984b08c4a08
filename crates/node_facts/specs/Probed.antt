-- What a node reads to answer a probe.
use Rattle.std.specs.Prelude.{◌≡◌, ℕ, Bool, if◌then◌else◌, List, [], Option, Some, None}
use Rattle.psb_bytes.specs.declared.ids.Object.{Object}
use Rattle.psb_bytes.specs.declared.ids.Object.TheVariants.{Slot}
use Rattle.psb_model.specs.State.{State}
use Rattle.psb_model.specs.History.{state}
use Rattle.psb_model.specs.Needed.{IsValid}
use Rattle.psb_model.specs.declared.change.Change.{Change}
use Rattle.psb_model.specs.declared.entries.InEntry.{InEntry}
use Rattle.psb_model.specs.declared.entries.InState.{InState}
use Rattle.wire_codec.specs.declared.frame.Frame.{Frame}
use Rattle.psb_machine.specs.Probing.{entry_for, missing_from, proof_by}
use Rattle.slot_places.specs.Slots.{KnowsSlots}
use Rattle.node_history.specs.Names.{KnowsNames}
use Rattle.node_facts.specs.declared.probing.Holdings.{Holdings}

-- what a node keeps in memory is of this history, which is valid
pub record Knows (held : Holdings) (h : List Change) : Type 0 where
  pub valid : IsValid h
  pub ledger : held.ledger.now.state ≡ state h
  pub names : KnowsNames held.names.now h
  pub slots : KnowsSlots held.slots.now h

-- the bytes were read, or there are none
abbrev pub IsRead : Bool → List ℕ → Option (List ℕ) → Type 0
IsRead there bytes o = o ≡ (if there then Some bytes else None)

-- what the node answers for to the peer in the slot stands so
abbrev pub IsAt : State → ℕ → ℕ → InState → Type 0
IsAt s p n at = (e : InEntry) × (entry_for s p (Slot n) ≡ Some e) × (e.state ≡ at)

-- some of the objects are missing
abbrev pub Lacks : State → ℕ → List Object → Type 0
Lacks s p objects = ¬ (missing_from 0 s p objects ≡ [])

-- the frame is the answer that the history gives to the probe, as far as the node's tables say what is missing
abbrev pub IsProof : Option Frame → Holdings → List ℕ → List Change → ℕ → List ℕ → List Object → Type 0
IsProof o held seed h p nonce objects = o ≡ proof_by seed h p nonce objects (missing_from 0 held.ledger.now.state p objects)
