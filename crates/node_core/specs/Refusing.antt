-- The inputs of the node's own: what they have to be, and which are refused.
use Rattle.std.specs.Prelude.{◌≡◌, ◌⊎◌, ◌≤◌, ℕ, Bool, true, false, not, if◌then◌else◌, List, length, Some, Result, Ok, Err}
use Rattle.psb_bytes.specs.Units.{longest_chunk}
use Rattle.psb_digest.specs.Clashes.{Pair}
use Rattle.psb_model.specs.State.{State, own_has, is_held}
use Rattle.psb_model.specs.History.{state}
use Rattle.psb_model.specs.Needed.{last_brought}
use Rattle.psb_model.specs.declared.change.Change.{Change}
use Rattle.psb_machine.specs.Deals.{meets_others}
use Rattle.psb_machine.specs.Laws.{SnapFits}
use Rattle.psb_machine.specs.Machine.{Situation, Input as MachineInput, Datagram, Tick, Keep, Snap, Forget, Reaction as MachineReaction, kept_with, quiet, grows, react, has_snapshot}
use Rattle.node_core.specs.declared.fault.Fault.{Fault}
use Rattle.node_core.specs.declared.fault.Fault.TheVariants as fault
use Rattle.node_core.specs.declared.input.Input.{Input}
use Rattle.node_core.specs.declared.input.Input.TheVariants as input

-- a sealed piece has some bytes, and no more than a chunk may have; and a snapshot may be noted
abbrev pub IsApt : State → Input → Type 0
IsApt s (input.Frame datagram) = Unit {0}
IsApt s (input.Tick p) = Unit {0}
IsApt s (input.Keep sealed) = (1 ≤ length sealed.now.body) × (length sealed.now.body ≤ longest_chunk)
IsApt s (input.Snap note) = SnapFits s note.now
IsApt s (input.Forget number) = Unit {0}

-- Bytes are refused where others are held under their name, and the number of a snapshot to give up where
-- no kept one has it.
abbrev pub is_refused : Situation → MachineInput → Bool
is_refused n (Datagram x) = false
is_refused n (Tick p) = false
is_refused n (Keep name bytes) = meets_others n.history name bytes
is_refused n (Snap note) = false
is_refused n (Forget number) = not (has_snapshot (state n.history) number)

-- What comes of an input of the node's own that is taken, whatever the disk tells: bytes to keep are then no
-- others than those that are held.
abbrev pub when_taken : Situation → MachineInput → MachineReaction
when_taken n (Keep name bytes) = if own_has (state n.history).own name then quiet else grows (kept_with (state n.history) name bytes)
when_taken n (Datagram x) = react n (Datagram x)
when_taken n (Tick p) = react n (Tick p)
when_taken n (Snap note) = react n (Snap note)
when_taken n (Forget number) = react n (Forget number)

-- the fault names the input that is refused
abbrev pub Refuses : {R : Type 0} → MachineInput → Result R Fault → Type 0
Refuses (Datagram x) result = ⊥
Refuses (Tick p) result = ⊥
Refuses (Keep name bytes) result = (result ≡ Err (fault.Altered name)) ⊎ ((c : Pair) × (result ≡ Err (fault.Clash c)) × (c.second ≡ bytes))
Refuses (Snap note) result = ⊥
Refuses (Forget number) result = result ≡ Err (fault.NoSnapshot number)

-- What was found under the name of bytes to keep: no others where they are taken; and the first of a clash.
-- None was altered.
abbrev pub Compared : {R : Type 0} → List Change → List ℕ → List ℕ → Result R Fault → Type 0
Compared h name bytes (Ok r) = meets_others h name bytes ≡ false
Compared h name bytes (Err (fault.Clash c)) = (meets_others h name bytes ≡ true) × (is_held (state h) name ≡ true) × (last_brought name h ≡ Some c.first)
Compared h name bytes (Err (fault.Altered q)) = ⊥
Compared h name bytes (Err _) = Unit {0}

-- these bytes are held under the name of what is to be kept
abbrev pub IsHeldAs : Situation → MachineInput → List ℕ → Type 0
IsHeldAs n (Keep name bytes) held = (is_held (state n.history) name ≡ true) × (last_brought name n.history ≡ Some held)
IsHeldAs n _ held = ⊥
