use Rattle.std.proofs.Common.{rules, ◌≡◌, ◌<◌, ◌^◌, Some, sym, ◌∙◌, ap, subst}
use Rattle.std.specs.Option.{option_map}
use Rattle.psb_model.specs.State.{State, row}
use Rattle.psb_ledger.specs.View.{LedgerView}
use Rattle.psb_machine.specs.Machine.{by_run}
use Rattle.asked_objects.specs.Listable.{IsListable}
use Rattle.asked_objects.proofs.Listable.{listable}
use Rattle.peer_states.specs.PeerStates.{kept}
use Rattle.own_probes.specs.Probes.{run_in, rule_in}
use Rattle.own_probes.specs.declared.ticks.Step.TheVariants.{Rests, Begins}
use Rattle.node_core.proofs.OwnProbing.{run_few, step_asks, rests_asks, begins_may_come}
use Rattle.node_core.proofs.node.Node.ask_at.Goals as goal

pub probe_step-requires-clause-listable : goal.probe_step-requires-clause-listable
probe_step-requires-clause-listable g c =
    let n = c.requires.known.0 in
    let k = c.requires.known.1 in
    subst (λ (s : State). IsListable (row s c.args.peer)) (sym (ap (λ (v : LedgerView). v.state) c.ledger-2.ensures ∙ k.ledger)) (listable n.history c.args.peer k.valid)

pub probe_step-requires-clause-few : goal.probe_step-requires-clause-few
probe_step-requires-clause-few g c = run_few c.args.self.now c.args.peer c.args.run c.requires.known c.requires.run

pub returns-in_ok-question_to-in-Rests-clause-asks : goal.returns-in_ok-question_to-in-Rests-clause-asks
returns-in_ok-question_to-in-Rests-clause-asks g c = λ n k.
    let node = c.args.self.now in
    let here : Some c.in-Some.settings.now ≡ node.ledger.state.settings = c.in-Some.ensures ∙ ap (λ (v : LedgerView). v.state.settings) c.ledger.ensures in
    let seed = c.in-Some.settings.now.seed in
    let step : rule_in seed c.args.peer Rests ≡ by_run seed node.ledger.state c.args.peer (kept c.args.at.now) (option_map run_in c.args.run) = search rules in
    step_asks c.asks.result node n c.args.peer c.args.at.now c.in-Some.settings.now c.args.run Rests k c.requires.kept c.requires.run here step
    (λ settings key present keyed. rests_asks c.asks.result n settings c.args.peer c.in_ok-question_to-in-Rests.field-0 c.asks.ensures present (c.in_ok-question_to-in-Rests.ensures.asks n settings key k present keyed))

pub returns-in_ok-letter-in-Begins-clause-may : goal.returns-in_ok-letter-in-Begins-clause-may
returns-in_ok-letter-in-Begins-clause-may g c =
    let node = c.args.self.now in
    let small : c.args.peer < 2 ^ 32 = search rules in
    let here : Some c.in-Some.settings.now ≡ node.ledger.state.settings = c.in-Some.ensures ∙ ap (λ (v : LedgerView). v.state.settings) c.ledger.ensures in
    let seed = c.in-Some.settings.now.seed in
    let step : rule_in seed c.args.peer (Begins c.in-Begins.probe) ≡ by_run seed node.ledger.state c.args.peer (kept c.args.at.now) (option_map run_in c.args.run) = search rules in
    begins_may_come node c.args.peer c.args.at.now c.in-Some.settings.now c.args.run c.in-Begins.probe small c.requires.few c.requires.known c.requires.kept c.requires.run here step
