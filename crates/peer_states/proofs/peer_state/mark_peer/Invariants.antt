use Rattle.std.proofs.Common.{◌≡◌, ◌++◌, map, take, drop}
use Rattle.peer_states.specs.PeerStates.{marked_at}
use Rattle.peer_states.proofs.peer_state.mark_peer.Given as goal

abbrev pub invariant-loop-i : goal.invariant-loop-i
invariant-loop-i l = l.states ≡ map (marked_at l.peer l.mark) (take l.i l.fn.states) ++ drop l.i l.fn.states
