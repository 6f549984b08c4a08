-- A tied entry is passed over, and any other uses up a word.
use Rattle.std.proofs.Common.{List, refl, sym, ap, ◌∙◌}
use Rattle.psb_model.specs.declared.entries.InEntry.{InEntry}
use Rattle.psb_model.specs.Discards.{picks}
use Rattle.discard_policy.specs.Grades.{every}
use Rattle.discard_policy.specs.Drawing.{drawn}
use Rattle.due_discards.proofs.Offered.{tied_passes, untied_offered}
use Rattle.due_discards.proofs.offers.takes.Goals as goal

pub returns-then-tied_in : goal.returns-then-tied_in
returns-then-tied_in c = λ es.
    let picker = c.args.picker.now in
    ap (λ (l : List InEntry). picks (drawn c.args.words.now) (every picker.grade) 0 picker.left picker.room l) (tied_passes c.args.ledger.now.state c.args.peer c.args.entry.now (sym c.tied_in.ensures ∙ c.if-tied_in.true) es)

pub returns : goal.returns
returns c =
    let picker = c.args.picker.now in
    let then = c.draw.new.self in
    untied_offered c.args.ledger.now.state c.args.peer c.args.words.now c.draw.new.words (every picker.grade) (every then.grade) picker.left picker.room then.left then.room c.args.entry.now c.draw.result
    (sym c.tied_in.ensures ∙ c.if-tied_in.false) (c.draw.ensures.picked c.args.entry.now refl) c.draw.ensures.words (ap every c.draw.ensures.grade) c.draw.ensures.left c.draw.ensures.room
