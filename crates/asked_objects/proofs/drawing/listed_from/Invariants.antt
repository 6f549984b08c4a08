use Rattle.psb_machine.specs.OwnProbes.{objects_to_ask}
use Rattle.asked_objects.proofs.Listed.{IsListed}
use Rattle.asked_objects.proofs.drawing.listed_from.Given as goal

abbrev pub invariant-loop : goal.invariant-loop
invariant-loop l = IsListed (objects_to_ask l.account.row) l.account.row l.parts.chunks.items l.parts.debts.items l.first l.counter l.objects.items l.place
