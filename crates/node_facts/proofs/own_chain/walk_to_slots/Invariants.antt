use Rattle.std.proofs.Common.{◌≡◌}
use Rattle.node_facts.proofs.own_chain.walk_to_slots.Given as goal

abbrev pub invariant-loop-object : goal.invariant-loop-object
invariant-loop-object l = record {
  seed : l.claims.seed ≡ l.fn.claims.seed;
  issued : l.claims.issued ≡ l.fn.claims.issued;
}
