use Rattle.std.proofs.Common.{ap, sym, ◌∙◌}
use Rattle.std.specs.Option.{option_map}
use Rattle.psb_machine.specs.Machine.{by_run}
use Rattle.peer_states.specs.PeerStates.{kept}
use Rattle.own_probes.specs.Probes.{run_in}
use Rattle.own_probes.proofs.ticks.probe_step.Goals as goal

pub returns-in-Some-clause-step : goal.returns-in-Some-clause-step
returns-in-Some-clause-step c =
    c.again.ensures.step c.args.seed.now c.args.ledger.now.state c.args.peer (kept c.args.state.now) (sym c.next_tick.ensures)
    ∙ ap (by_run c.args.seed.now c.args.ledger.now.state c.args.peer (kept c.args.state.now)) (sym (ap (option_map run_in) c.in-Some.is))
