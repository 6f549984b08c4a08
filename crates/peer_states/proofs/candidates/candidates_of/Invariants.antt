use Rattle.std.proofs.Common.{◌≡◌, take}
use Rattle.psb_machine.specs.Sampling.{candidates}
use Rattle.peer_states.specs.PeerStates.{sample_of}
use Rattle.peer_states.proofs.candidates.candidates_of.Given as goal

abbrev pub invariant-loop-peer : goal.invariant-loop-peer
invariant-loop-peer l = l.found.items ≡ candidates (take l.peer-index l.peers) (sample_of l.states) l.names
