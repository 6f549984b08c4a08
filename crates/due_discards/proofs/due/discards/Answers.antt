-- The words are those of the next change, by the seed of the present settings; before there are any, there are no entries.
use Rattle.std.proofs.Common.{◌≡◌, sym, ap, ◌∙◌, map, Some, None, rules, arith}
use Rattle.psb_model.specs.State.{in_key, held_units}
use Rattle.psb_model.specs.Discards.{one_in}
use Rattle.discard_policy.specs.Grades.{every}
use Rattle.due_discards.proofs.Offered.{none_there, own_taken}
use Rattle.due_discards.proofs.due.discards.Goals as goal

pub returns-in_default : goal.returns-in_default
returns-in_default c =
    let s = c.args.ledger.now.state in
    let none : s.settings ≡ None = search rules in
    c.from_vec.ensures ∙ c.new.ensures.items ∙ sym (none_there s c.args.peer c.is_reached.ensures none)

pub returns : goal.returns
returns c =
    let s = c.args.ledger.now.state in
    let x = c.in-Some.settings.now in
    let picker = c.new-picker.result in
    let r = c.row-row.result.now.row in
    let is : s.settings ≡ Some x = search rules in
    let grade_is : every picker.grade ≡ one_in r.fails = ap every c.new-picker.ensures.grade ∙ c.grade.ensures.every ∙ ap one_in c.fails.ensures in
    let taken = own_taken s c.args.peer x c.held-held.result c.own_words-words.result (every picker.grade) picker.left picker.room r c.is_reached.ensures (c.held-held.ensures ∙ ap held_units c.row-row.ensures) (omega arith) is (search rules) c.row-row.ensures grade_is (c.new-picker.ensures.left ∙ c.debt.ensures) c.new-picker.ensures.room in
    c.from_vec-2.ensures ∙ c.in_ok-objects.ensures ∙ ap (map in_key) taken
