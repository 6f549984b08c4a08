use Rattle.std.proofs.Common.{◌≡◌, ◌++◌, map, take, drop}
use Rattle.peer_states.specs.PeerStates.{unsampled}
use Rattle.peer_states.proofs.peer_state.drop_samples.Given as goal

abbrev pub invariant-loop-i : goal.invariant-loop-i
invariant-loop-i l = l.states ≡ map unsampled (take l.i l.fn.states) ++ drop l.i l.fn.states
