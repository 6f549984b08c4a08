use Rattle.std.proofs.Common.{◌≡◌}
use Rattle.psb_machine.specs.Replies.{claims_from}
use Rattle.psb_machine.proofs.claim_list.next_claims.Given as goal

abbrev pub invariant-loop-i : goal.invariant-loop-i
invariant-loop-i l = record {
  list : l.list.items ≡ claims_from l.fn.source.seed l.first l.i;
  seed : l.source.seed ≡ l.fn.source.seed;
  issued : l.source.issued ≡ l.fn.source.issued;
}
