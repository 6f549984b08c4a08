use Rattle.std.proofs.Common.{sym, ◌∙◌, ap}
use Rattle.std.specs.Prelude.{is_some}
use Rattle.node_history.proofs.Presence.{on_ok_map2, some_as}
use Rattle.node_history.proofs.Lacks.{notes_slots}
use Rattle.node_history.proofs.history.note_lacking.Goals as goal

pub returns-in-Some : goal.returns-in-Some
returns-in-Some c =
    let g = c.in-Some.ensures.some in
    on_ok_map2 c.note_slots.result _ _ _
    (notes_slots c.args.lacking.now c.note_slots.new.self c.args.change.now c.in-Some.given.peer c.in-Some.given.slots.now c.is_some.result g.0 g.1 g.2 (c.is_some.ensures ∙ sym (some_as _ c.body.result) ∙ ap is_some c.body.ensures))
    c.note_slots.ensures.noted c.note_slots.ensures.names
