use Rattle.std.proofs.Common.{◌≡◌, ◌++◌, drop}
use Rattle.psb_machine.specs.Probing.{missing_from}
use Rattle.node_facts.proofs.probing.missing_places.Given as goal

abbrev pub invariant-loop-place : goal.invariant-loop-place
invariant-loop-place l = missing_from 0 l.ledger.state l.peer l.objects ≡ l.places.items ++ missing_from l.place l.ledger.state l.peer (drop l.place l.objects)
