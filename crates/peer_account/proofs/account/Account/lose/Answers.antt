-- What goes of what stands there is owed.
use Rattle.std.proofs.Common.{◌≡◌, ◌++◌, ◌∷◌, [], List, sum_by, sym, ap, ◌∙◌, arith, append-nil}
use Rattle.std.proofs.lemmas.List.Sums.{sum_by-append}
use Rattle.psb_model.specs.declared.entries.DebtEntry.{DebtEntry}
use Rattle.psb_model.specs.State.{out_key, out_size, debt_size, back_units, debt_units}
use Rattle.psb_model.specs.Effects.{lost_rows}
use Rattle.psb_model.proofs.ByObject.{sum_by-without}
use Rattle.peer_lists.proofs.Found.{without_absent}
use Rattle.peer_lists.proofs.Tables.{is_none_has}
use Rattle.peer_account.specs.View.{AccountView, whole_row, lost_row}
use Rattle.peer_account.proofs.Probed.{only_found, lost_found, lost_none}
use Rattle.peer_account.proofs.account.Account.lose.Goals as goal

pub overflow_sub-self : goal.overflow_sub-self
overflow_sub-self c =
    let l = c.self.inside.outs.items in
    let o = c.args.object.now in
    omega (arith, c.self.invariant.back_is, sum_by-without out_key out_size (o ∷ []) l, ap (sum_by out_size) (only_found out_key l o c.in-Some.entry c.in-Some.ensures.ordered (sym c.in-Some.ensures.entry)))

pub overflow_add-self : goal.overflow_add-self
overflow_add-self c =
    let l = c.self.inside.outs.items in
    let o = c.args.object.now in
    omega (arith, c.self.invariant.back_is, c.self.invariant.debt_is, sum_by-without out_key out_size (o ∷ []) l, ap (sum_by out_size) (only_found out_key l o c.in-Some.entry c.in-Some.ensures.ordered (sym c.in-Some.ensures.entry)), c.requires.small, ap (λ (v : AccountView). back_units v.row) c.self.view_is, ap (λ (v : AccountView). debt_units v.row) c.self.view_is)

pub invariant_of-self : goal.invariant_of-self
invariant_of-self c =
    let l = c.self.inside.outs.items in
    let o = c.args.object.now in
    let part = sum_by-without out_key out_size (o ∷ []) l in
    let found = ap (sum_by out_size) (only_found out_key l o c.in-Some.entry c.in-Some.ensures.ordered (sym c.in-Some.ensures.entry)) in
    record {
      held_is = c.self.invariant.held_is;
      back_is = omega (arith, c.self.invariant.back_is, part, found, ap (sum_by out_size) c.remove.ensures.items);
      debt_is = omega (arith, c.self.invariant.debt_is, ap (sum_by debt_size) c.book.ensures.items, sum_by-append debt_size c.self.inside.debts.items (c.debt_row.result ∷ []), ap (λ (d : DebtEntry). d.left) c.debt_row.ensures);
    }

pub returns-in-Some-clause-row : goal.returns-in-Some-clause-row
returns-in-Some-clause-row c =
    let i = c.self.inside in
    let o = c.args.object.now in
    let e = c.in-Some.entry in
    let booked : c.book.new.self.items ≡ i.debts.items ++ lost_rows c.args.change c.args.declined (o ∷ []) i.outs.items =
    c.book.ensures.items ∙ ap (λ (d : DebtEntry). i.debts.items ++ d ∷ []) c.debt_row.ensures
    ∙ ap (λ (ds : List DebtEntry). i.debts.items ++ ds) (sym (lost_found c.args.change c.args.declined i.outs.items o e c.in-Some.ensures.ordered (sym c.in-Some.ensures.entry)))
    in
    (λ j. whole_row i.ins.items (c.remove.ensures.items j) (booked j) i.last i.deals i.probes)
    ∙ ap (λ (v : AccountView). lost_row c.args.change c.args.declined (o ∷ []) v.row) c.self.view_is

pub returns-in-Some-clause-sums : goal.returns-in-Some-clause-sums
returns-in-Some-clause-sums c =
    let l = c.self.inside.outs.items in
    let o = c.args.object.now in
    omega (arith, sum_by-without out_key out_size (o ∷ []) l, ap (sum_by out_size) (only_found out_key l o c.in-Some.entry c.in-Some.ensures.ordered (sym c.in-Some.ensures.entry)), ap (sum_by out_size) c.remove.ensures.items, ap (sum_by debt_size) c.book.ensures.items, sum_by-append debt_size c.self.inside.debts.items (c.debt_row.result ∷ []), ap (λ (d : DebtEntry). d.left) c.debt_row.ensures, ap (λ (v : AccountView). back_units v.row) c.self.view_is, ap (λ (v : AccountView). debt_units v.row) c.self.view_is)

pub returns-in_default-clause-row : goal.returns-in_default-clause-row
returns-in_default-clause-row c =
    let i = c.self.inside in
    let o = c.args.object.now in
    let none = is_none_has out_key i.outs.items o (sym c.in_default.ensures.entry) in
    let gone = sym (without_absent out_key i.outs.items o none) in
    let owed : i.debts.items ≡ i.debts.items ++ lost_rows c.args.change c.args.declined (o ∷ []) i.outs.items =
    sym (append-nil i.debts.items) ∙ ap (λ (ds : List DebtEntry). i.debts.items ++ ds) (sym (lost_none c.args.change c.args.declined i.outs.items o none))
    in
    sym (ap (λ (v : AccountView). v.row) c.self.view_is)
    ∙ (λ j. whole_row i.ins.items (gone j) (owed j) i.last i.deals i.probes)
    ∙ ap (λ (v : AccountView). lost_row c.args.change c.args.declined (o ∷ []) v.row) c.self.view_is
