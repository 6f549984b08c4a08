use Rattle.std.proofs.Common.{◌≡◌, map, take}
use Rattle.peer_states.specs.PeerStates.{at_start}
use Rattle.peer_states.proofs.peer_state.states_of.Given as goal

abbrev pub invariant-loop-peer : goal.invariant-loop-peer
invariant-loop-peer l = l.states.items ≡ map at_start (take l.peer-index l.peers)
