use Rattle.std.proofs.Common.{◌≡◌, map, take}
use Rattle.psb_machine.specs.Letters.{key_of_row}
use Rattle.node_letters.proofs.peers.keys_of.Given as goal

abbrev pub invariant-loop-peer : goal.invariant-loop-peer
invariant-loop-peer l = l.keys ≡ map key_of_row (take l.peer-index l.peers)
