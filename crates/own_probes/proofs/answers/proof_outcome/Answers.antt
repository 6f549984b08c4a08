use Rattle.std.proofs.Common.{rules, sym, ap, ◌∙◌}
use Rattle.std.specs.Option.{option_map}
use Rattle.psb_machine.specs.Probing.{chain_over}
use Rattle.psb_machine.specs.OwnProbes.{own_bytes}
use Rattle.own_probes.specs.Probes.{run_in}
use Rattle.own_probes.proofs.Outcomes.{proof_by_own}
use Rattle.own_probes.proofs.answers.proof_outcome.Goals as goal

pub returns-clause-exact : goal.returns-clause-exact
returns-clause-exact g c = λ tells h es knows are shows settings seed claims.
    proof_by_own settings h c.args.peer c.args.number c.args.nonce.now c.args.value.now c.args.seed.now c.args.claims.now.seed c.args.run c.in-Some.run' c.in-Some-2.own c.in-Some.is (search rules) seed claims
    (sym c.in-Some-2.is ∙ c.in_ok-own.ensures.exact tells h es knows are shows ∙ ap (chain_over (own_bytes c.args.claims.now.seed h) c.args.nonce.now) c.as_slice-objects.ensures) c.outcome.result (search rules)

pub returns-clause-somehow : goal.returns-clause-somehow
returns-clause-somehow g c = (run_in c.in-Some.run', ap (option_map run_in) c.in-Some.is, (c.eq.result, c.outcome.ensures))
