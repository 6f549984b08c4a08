use Rattle.std.proofs.Common.{◌≡◌, ◌+◌}
use Rattle.psb_machine.specs.Replies.{claims_from}
use Rattle.psb_machine.proofs.claim_list.known_claims.Given as goal

abbrev pub invariant-loop-i : goal.invariant-loop-i
invariant-loop-i l = record {
  list : l.list.items ≡ claims_from l.source.seed l.first l.i;
  run : l.run ≡ record { seed = l.source.seed; number = l.first + l.i; end = l.source.issued };
}
