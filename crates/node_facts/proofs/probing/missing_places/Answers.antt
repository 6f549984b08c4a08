use Rattle.std.proofs.Common.{◌∙◌, ◌++◌, ◌+◌, drop, ap, sym}
use Rattle.psb_machine.specs.Probing.{missing_from}
use Rattle.node_facts.proofs.Probed.{one_more, none_more}
use Rattle.node_facts.proofs.probing.missing_places.Goals.{then-is_missing+in_ok-push, else-is_missing}
use Rattle.node_facts.proofs.probing.missing_places.Goals as goal

pub loop-place-preserved : goal.loop-place-preserved
loop-place-preserved c =
    let s = c.args.ledger.now.state in
    let p = c.args.peer in
    let objects = c.args.objects.now in
    let place = c.loop-place.place in
    let places = c.loop-place.places.items in
    elim c.if-is_missing.branch [
      | then-is_missing+in_ok-push w ↦
          one_more 0 s p objects place c.at.result places c.if-is_missing.places.items c.at.ensures c.loop-place.invariant (sym c.is_missing.ensures ∙ w.if-is_missing.true)
          (ap (λ v. v.items) w.places-is ∙ w.in_ok-push.ensures.items)
      | else-is_missing w ↦
          none_more 0 s p objects place c.at.result places c.at.ensures c.loop-place.invariant (sym c.is_missing.ensures ∙ w.if-is_missing.false)
          ∙ ap (λ v. v.items ++ missing_from (place + 1) s p (drop (place + 1) objects)) (sym w.places-is)
    ]
