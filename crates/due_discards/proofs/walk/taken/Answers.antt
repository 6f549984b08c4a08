-- What was taken so far, and what is still to be taken.
use Rattle.std.proofs.Common.{ap, ◌∙◌, map, rules}
use Rattle.psb_model.specs.State.{in_key}
use Rattle.psb_model.specs.Discards.{picks}
use Rattle.discard_policy.specs.Grades.{every}
use Rattle.discard_policy.specs.Drawing.{drawn}
use Rattle.accounts.proofs.Taken.{take_fewer}
use Rattle.due_discards.specs.Offers.{untied}
use Rattle.due_discards.proofs.Offered.{found, walk_begins, walk_goes_on, walk_ends, weigh_ins}
use Rattle.due_discards.proofs.walk.taken.Goals as goal

pub loop-entry-init : goal.loop-entry-init
loop-entry-init c =
    let picker = c.args.picker.now in
    walk_begins c.new-objects.result.items c.args.ledger.now.state c.args.peer c.args.words.now (every picker.grade) picker.left picker.room c.ins-ins.result.now.items c.new-objects.ensures.items

pub loop-entry-smaller : goal.loop-entry-smaller
loop-entry-smaller c =
    let was = c.loop-entry.picker in
    take_fewer c.ins-ins.result.now.items c.loop-entry.place c.in-Some.entry c.in-Some.ensures.ordered (found was.left was.room c.loop-entry.place c.ins-ins.result.now.items c.in-Some.entry c.in-Some.ensures.entry)

pub loop-entry-preserved : goal.loop-entry-preserved
loop-entry-preserved c =
    let was = c.loop-entry.picker in
    let then = c.takes-is_taken.new.picker in
    let next = found was.left was.room c.loop-entry.place c.ins-ins.result.now.items c.in-Some.entry c.in-Some.ensures.entry in
    walk_goes_on _ c.loop-entry.objects.items c.push_if.new.objects.items c.args.ledger.now.state c.args.peer c.ins-ins.result.now.items c.loop-entry.place c.in-Some.entry c.takes-is_taken.result c.loop-entry.words c.takes-is_taken.new.words (every was.grade) (every then.grade) was.left then.left was.room then.room
    c.in-Some.ensures.ordered next c.takes-is_taken.ensures (search rules) c.loop-entry.invariant

pub returns : goal.returns
returns c =
    let s = c.args.ledger.now.state in
    let all = c.args.picker.now in
    let picker = c.loop-entry.picker in
    let ins = c.ins-ins.result.now.items in
    let same = c.ins-ins.ensures ∙ ap (λ r. r.ins) c.row.ensures in
    walk_ends _ c.loop-entry.objects.items s c.args.peer c.loop-entry.words (every picker.grade) picker.left picker.room c.loop-entry.place ins (weigh_ins s c.args.peer ins same c.is_reached.ensures) c.in_default.ensures.entry c.loop-entry.invariant
    ∙ ap (λ es. map in_key (picks (drawn c.args.words.now) (every all.grade) 0 all.left all.room (untied s c.args.peer es))) same
