use Rattle.std.proofs.Common.{ap, ◌∙◌, Some}
use Rattle.std.specs.Prelude.{position}
use Rattle.slot_runs.specs.Runs.{covers}
use Rattle.slot_runs.proofs.Slots.{place_none, place_some}
use Rattle.slot_runs.proofs.run_tree.take_from.Goals as goal

pub returns-in-None-clause-run : goal.returns-in-None-clause-run
returns-in-None-clause-run g c = (place_none (λ r. covers r c.args.number) c.args.runs.now.items (c.in-None.ensures ∙ ap (position (λ r. covers r c.args.number)) c.as_slice.ensures.value)).0

pub returns-in-None-clause-left : goal.returns-in-None-clause-left
returns-in-None-clause-left g c = (place_none (λ r. covers r c.args.number) c.args.runs.now.items (c.in-None.ensures ∙ ap (position (λ r. covers r c.args.number)) c.as_slice.ensures.value)).1

pub returns-in-Some-clause-run : goal.returns-in-Some-clause-run
returns-in-Some-clause-run g c = ap (λ r. Some r) c.remove.ensures.value ∙ (place_some (λ r. covers r c.args.number) c.args.runs.now.items c.in-Some.place c.remove.result (c.in-Some.ensures ∙ ap (position (λ r. covers r c.args.number)) c.as_slice.ensures.value)).0

pub returns-in-Some-clause-left : goal.returns-in-Some-clause-left
returns-in-Some-clause-left g c = c.remove.ensures.items ∙ (place_some (λ r. covers r c.args.number) c.args.runs.now.items c.in-Some.place c.remove.result (c.in-Some.ensures ∙ ap (position (λ r. covers r c.args.number)) c.as_slice.ensures.value)).1
