use Rattle.psb_model.specs.Candidates.{comes_before}
use Rattle.own_chunks.proofs.Listed.{IsOrderedTo}
use Rattle.psb_ledger.proofs.ledger.choosing.in_select_order.Given as goal

abbrev pub invariant-loop-i : goal.invariant-loop-i
invariant-loop-i l = IsOrderedTo comes_before l.candidates l.i
