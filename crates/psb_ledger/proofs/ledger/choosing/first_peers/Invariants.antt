use Rattle.std.proofs.Common.{◌≡◌, map, take}
use Rattle.psb_model.specs.declared.entries.Candidate.{Candidate}
use Rattle.psb_ledger.proofs.ledger.choosing.first_peers.Given as goal

abbrev pub invariant-loop-i : goal.invariant-loop-i
invariant-loop-i l = l.chosen.items ≡ map (λ (x : Candidate). x.peer) (take l.i l.candidates)
