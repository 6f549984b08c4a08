-- By the node's own words, of the present settings; where there are none, there are no entries, and where nothing is
-- owed, none is taken.
use Rattle.std.proofs.Common.{◌<◌, ◌^◌, map, sym, ap, ◌∙◌, subst}
use Rattle.psb_model.specs.State.{in_key, debt_units}
use Rattle.psb_model.specs.Discards.{one_in, picks}
use Rattle.psb_model.specs.Conditions.{same_objects, capacity}
use Rattle.discard_policy.specs.Grades.{every}
use Rattle.discard_policy.specs.Drawing.{drawn}
use Rattle.discard_policy.proofs.Draws.{own_reader}
use Rattle.accounts.specs.Table.{untied as untied_by}
use Rattle.psb_ledger.specs.View.{LedgerView, IsReached}
use Rattle.psb_ledger.proofs.Discarding.{none_listed, none_taken, none_owed, own_taken, untied, untied_same}
use Rattle.psb_ledger.proofs.ledger.Ledger.are_discards.Goals as goal

pub returns-in_default : goal.returns-in_default
returns-in_default c =
    let s = c.args.self.now.state in
    let reached = subst (λ (v : LedgerView). IsReached v.state) c.self.view_is c.self.invariant.sound.reached in
    let none = none_taken s c.args.peer reached (sym (ap (λ (v : LedgerView). v.state.settings) c.self.view_is) ∙ c.in_default.is) in
    c.is_empty.ensures ∙ none_listed c.args.objects.now ∙ ap (λ ps. same_objects c.args.objects.now (map in_key ps)) (sym none)

pub returns-then-debt-eq0 : goal.returns-then-debt-eq0
returns-then-debt-eq0 c =
    let s = c.args.self.now.state in
    let reached = subst (λ (v : LedgerView). IsReached v.state) c.self.view_is c.self.invariant.sound.reached in
    let none = none_owed s c.args.peer reached (ap debt_units (sym c.row-row.ensures) ∙ sym c.debt-debt.ensures ∙ c.if-debt-eq0.true) in
    c.is_empty-then-debt-eq0.ensures ∙ none_listed c.args.objects.now ∙ ap (λ ps. same_objects c.args.objects.now (map in_key ps)) (sym none)

pub returns : goal.returns
returns c =
    let s = c.args.self.now.state in
    let x = c.in-Some.settings in
    let picker = c.new-picker.result in
    let reached = subst (λ (v : LedgerView). IsReached v.state) c.self.view_is c.self.invariant.sound.reached in
    let small = subst (λ (v : LedgerView). capacity v.state.settings < 2 ^ 32) c.self.view_is c.self.invariant.sound.small in
    let taken = own_taken s c.args.peer x c.own_words-words.result (every picker.grade) picker.left picker.room c.row-row.result.now.row c.ins.result.now.items reached small
    (sym (ap (λ (v : LedgerView). v.state.settings) c.self.view_is) ∙ c.in-Some.is)
    (c.own_words-words.ensures ∙ ap (λ (v : LedgerView). own_reader x.seed v.state.changes) c.self.view_is)
    c.row-row.ensures
    (ap every c.new-picker.ensures.grade ∙ c.grade.ensures.every ∙ ap one_in c.fails.ensures)
    (c.new-picker.ensures.left ∙ c.debt-debt.ensures) c.new-picker.ensures.room c.ins.ensures
    in
    let offered = ap (λ vs. untied_by vs c.args.peer c.ins.result.now.items) c.as_slice.ensures.value ∙ untied_same c.self.inside c.args.peer c.ins.result.now.items ∙ ap (λ (v : LedgerView). untied v.state c.args.peer c.ins.result.now.items) c.self.view_is in
    c.are_taken.ensures
    ∙ ap (λ es. same_objects c.args.objects.now (map in_key (picks (drawn c.own_words-words.result) (every picker.grade) 0 picker.left picker.room es))) offered
    ∙ ap (λ ps. same_objects c.args.objects.now (map in_key ps)) taken
