use Rattle.std.proofs.Common.{◌≡◌, map, take}
use Rattle.psb_machine.specs.Commands.{get_by}
use Rattle.node_letters.specs.Letters.{letters_of}
use Rattle.node_letters.proofs.letter.gets_to.Given as goal

abbrev pub invariant-loop-peer : goal.invariant-loop-peer
invariant-loop-peer l = letters_of l.letters.items ≡ map (get_by l.own l.name) (take l.peer-index l.peers)
