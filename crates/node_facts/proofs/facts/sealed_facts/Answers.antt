use Rattle.chunk_store.specs.Store.{record_of}
use Rattle.node_history.proofs.Presence.{one_there}
use Rattle.node_facts.proofs.facts.sealed_facts.Goals as goal

pub meets_others-requires-clause-below : goal.meets_others-requires-clause-below
meets_others-requires-clause-below g c = one_there (record_of c.args.names.now c.args.name.now) _ (λ k is. (c.requires.there c.args.name.now k is).0)

pub meets_others-requires-clause-there : goal.meets_others-requires-clause-there
meets_others-requires-clause-there g c = one_there (record_of c.args.names.now c.args.name.now) _ (λ k is. (c.requires.there c.args.name.now k is).1)
