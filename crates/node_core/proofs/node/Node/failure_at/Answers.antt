use Rattle.std.proofs.Common.{rules, ◌≡◌, ◌<◌, ◌^◌, Option, Some, None, IfSome, sym, ◌∙◌, ap}
use Rattle.psb_model.specs.State.{State}
use Rattle.psb_model.specs.History.{state}
use Rattle.psb_model.specs.declared.change.Change.{Change}
use Rattle.psb_machine.specs.Machine.{Situation, by_due}
use Rattle.node_history.proofs.Presence.{ok_map}
use Rattle.node_core.specs.Stored.{Knows}
use Rattle.node_core.proofs.OwnProbing.{late_known, late_may_come}
use Rattle.node_core.proofs.Failing.{failure_late, failure_due, discard_may_come}
use Rattle.node_core.proofs.node.Node.failure_at.Goals as goal

pub returns-in-Some-clause-rule : goal.returns-in-Some-clause-rule
returns-in-Some-clause-rule g c = λ n k.
    let late = late_known c.args.self.now c.args.peer c.args.at.now c.args.run.now c.in_ok-change.field-0 c.requires.kept c.requires.run c.in_ok-change.ensures n k in
    failure_late n c.args.peer c.in-Some.change (sym c.in-Some.is ∙ late)

pub returns-in-Some-clause-may : goal.returns-in-Some-clause-may
returns-in-Some-clause-may g c =
    let small : c.args.peer < 2 ^ 32 = search rules in
    late_may_come c.args.self.now c.args.peer c.args.at.now (Some c.in-Some.change) small c.requires.few c.requires.known c.requires.kept
    (λ n k. sym c.in-Some.is ∙ late_known c.args.self.now c.args.peer c.args.at.now c.args.run.now c.in_ok-change.field-0 c.requires.kept c.requires.run c.in_ok-change.ensures n k)

pub returns-clause-rule : goal.returns-clause-rule
returns-clause-rule g c =
    let none : c.in_ok-change.field-0 ≡ None = search rules in
    ok_map c.discard_at.result _ _ (λ o is n k.
    let late = late_known c.args.self.now c.args.peer c.args.at.now c.args.run.now c.in_ok-change.field-0 c.requires.kept c.requires.run c.in_ok-change.ensures n k in
    failure_due n c.args.peer o (sym none ∙ late) (is ∙ ap (λ l. (by_due l.state c.args.peer).grown) c.ledger.ensures ∙ ap (λ (l : State). (by_due l c.args.peer).grown) k.ledger)) c.discard_at.ensures

pub returns-clause-may : goal.returns-clause-may
returns-clause-may g c =
    let small : c.args.peer < 2 ^ 32 = search rules in
    ok_map c.discard_at.result _ _ (λ o is.
    discard_may_come c.args.self.now c.args.peer c.args.at.now o small c.requires.few c.requires.known c.requires.kept
    (λ n k. is ∙ ap (λ l. (by_due l.state c.args.peer).grown) c.ledger.ensures ∙ ap (λ (l : State). (by_due l c.args.peer).grown) k.ledger)) c.discard_at.ensures
