-- A tied entry is passed over, and any other uses up a word.
use Rattle.std.proofs.Common.{List, refl, sym, ap, ◌∙◌}
use Rattle.psb_model.specs.declared.entries.InEntry.{InEntry}
use Rattle.psb_model.specs.Discards.{picks}
use Rattle.discard_policy.specs.Grades.{every}
use Rattle.discard_policy.specs.Drawing.{drawn}
use Rattle.accounts.proofs.Taken.{tied_passes, untied_offered}
use Rattle.accounts.proofs.discards.takes.Goals as goal

pub returns-then-ties_in : goal.returns-then-ties_in
returns-then-ties_in c = λ es.
    let picker = c.args.picker.now in
    ap (λ (l : List InEntry). picks (drawn c.args.words.now) (every picker.grade) 0 picker.left picker.room l) (tied_passes c.args.accounts.now c.args.peer c.args.entry.now (sym c.if-ties_in.true ∙ c.ties_in.ensures) es)

pub returns : goal.returns
returns c =
    let picker = c.args.picker.now in
    let then = c.draw.new.self in
    untied_offered c.args.accounts.now c.args.peer c.args.words.now c.draw.new.words (every picker.grade) (every then.grade) picker.left picker.room then.left then.room c.args.entry.now c.draw.result
    (sym c.if-ties_in.false ∙ c.ties_in.ensures) (c.draw.ensures.picked c.args.entry.now refl) c.draw.ensures.words (ap every c.draw.ensures.grade) c.draw.ensures.left c.draw.ensures.room
