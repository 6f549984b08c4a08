-- What a node keeps of its peers in memory, and what it stands for.
use Rattle.std.specs.Prelude.{◌≡◌, ℕ, ◌-◌, ◌==◌, Bool, not, ◌&&◌, if◌then◌else◌, List, map, find, option_and_then, Option, Some, None, is_some}
use Rattle.psb_settings.specs.declared.settings.PeerRow.{PeerRow}
use Rattle.psb_model.specs.State.{State, row}
use Rattle.psb_model.specs.declared.change.Change.{Change}
use Rattle.psb_model.specs.declared.change.Change.TheVariants as change
use Rattle.wire_codec.specs.Frames.{key_in}
use Rattle.psb_machine.specs.Volatile.{Volatile, PeerState as MachineState, of_peer, later, ticks_to_wait, still_asked, Note as MachineNote, Nothing, Ticked, Sampled}
use Rattle.peer_states.specs.declared.peer_state.PeerState.{PeerState}
use Rattle.peer_states.specs.declared.peer_state.Mark.{Mark}
use Rattle.peer_states.specs.declared.peer_state.Mark.TheVariants.{Tick, Wait, Sample, Asked, Probe}
use Rattle.peer_states.specs.declared.peer_state.Note.{Note}
use Rattle.peer_states.specs.declared.peer_state.Note.TheVariants as note

-- no tick was absorbed yet, none is waited for, nothing was told, and no probe runs
abbrev pub at_start : PeerRow → PeerState
at_start p = record { peer = p.id; clock = 0; wait = 0; sample = None; began = None; ended = 0 }

-- as the machine has it
abbrev pub kept : PeerState → MachineState
kept x = record { clock = x.clock; wait = x.wait; sample = x.sample; began = x.began; ended = x.ended }

abbrev pub note_in : Note → MachineNote
note_in note.Nothing = Nothing
note_in (note.Ticked p) = Ticked p
note_in (note.Sampled p bits) = Sampled p bits

-- what is kept of a peer, and the bits of its sample
abbrev pub state_of : List PeerState → ℕ → Option PeerState
state_of states p = find (λ (x : PeerState). x.peer == p) states

abbrev pub sample_of : List PeerState → ℕ → Option ℕ
sample_of states p = option_and_then (λ (x : PeerState). x.sample) (state_of states p)

-- without the probe that runs, unless that goes on
abbrev pub probed : Bool → PeerState → PeerState
probed goes_on x = if not goes_on && is_some x.began then record x { began = None; ended = x.clock } else x

-- with a mark, and without a sample
abbrev pub marked : Mark → PeerState → PeerState
marked Tick x = record x { clock = later x.clock; wait = x.wait - 1 }
marked (Wait ticks) x = record x { wait = ticks }
marked (Sample bits) x = record x { sample = Some bits }
marked Asked x = record x { began = Some x.clock }
marked (Probe goes_on) x = probed goes_on x

abbrev pub marked_at : ℕ → Mark → PeerState → PeerState
marked_at p m x = if x.peer == p then marked m x else x

abbrev pub unsampled : PeerState → PeerState
unsampled x = record x { sample = None }

-- after what an input notes, and after a change of a node with this id, but for a probe that ends
abbrev pub states_noted : MachineNote → List PeerState → List PeerState
states_noted Nothing states = states
states_noted (Ticked p) states = map (marked_at p Tick) states
states_noted (Sampled p bits) states = map (marked_at p (Sample bits)) states

abbrev pub states_changed : ℕ → Change → List PeerState → List PeerState
states_changed own (change.Turned x) states = map (marked_at x.peer (Wait (ticks_to_wait own x.peer))) states
states_changed own (change.Snapped x) states = map unsampled states
states_changed own (change.Forgot x) states = map unsampled states
states_changed own (change.Asked x) states = map (marked_at x.peer Asked) states
states_changed own _ states = states

-- after the probe of a change's peer, by the state after the change
abbrev pub states_probed : State → Option ℕ → List PeerState → List PeerState
states_probed after None states = states
states_probed after (Some p) states = map (marked_at p (Probe (still_asked (row after p)))) states

-- something is kept of each peer that has a key, and of no other; and it is what the machine has of it
pub record KnowsStates (states : List PeerState) (keys : List (ℕ × List ℕ)) (v : Volatile) : Type 0 where
  pub there : (p : ℕ) → is_some (state_of states p) ≡ is_some (key_in keys p)
  pub are : (p : ℕ) (x : PeerState) → state_of states p ≡ Some x → of_peer v p ≡ kept x
