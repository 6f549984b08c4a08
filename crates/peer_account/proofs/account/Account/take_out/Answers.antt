-- What is answered for shrinks by the entry.
use Rattle.std.proofs.Common.{◌∷◌, [], sum_by, sym, ap, ◌∙◌, arith}
use Rattle.psb_model.specs.State.{in_key, in_size}
use Rattle.psb_model.proofs.ByObject.{sum_by-without}
use Rattle.peer_lists.proofs.Found.{without_absent}
use Rattle.peer_lists.proofs.Tables.{is_none_has}
use Rattle.peer_account.specs.View.{AccountView, whole_row, left_row}
use Rattle.peer_account.proofs.Probed.{only_found}
use Rattle.peer_account.proofs.account.Account.take_out.Goals as goal

pub overflow_sub-self : goal.overflow_sub-self
overflow_sub-self c =
    let l = c.self.inside.ins.items in
    let o = c.args.object.now in
    omega (arith, c.self.invariant.held_is, sum_by-without in_key in_size (o ∷ []) l, ap (sum_by in_size) (only_found in_key l o c.in-Some.entry c.in-Some.ensures.ordered (sym c.in-Some.ensures.entry)))

pub invariant_of-self : goal.invariant_of-self
invariant_of-self c =
    let l = c.self.inside.ins.items in
    let o = c.args.object.now in
    record {
      held_is = omega (arith, c.self.invariant.held_is, sum_by-without in_key in_size (o ∷ []) l, ap (sum_by in_size) (only_found in_key l o c.in-Some.entry c.in-Some.ensures.ordered (sym c.in-Some.ensures.entry)), ap (sum_by in_size) c.remove.ensures.items);
      back_is = c.self.invariant.back_is;
      debt_is = c.self.invariant.debt_is;
    }

pub returns-in_default-clause-row : goal.returns-in_default-clause-row
returns-in_default-clause-row c =
    let i = c.self.inside in
    let o = c.args.object.now in
    let gone = sym (without_absent in_key i.ins.items o (is_none_has in_key i.ins.items o (sym c.in_default.ensures.entry))) in
    sym (ap (λ (v : AccountView). v.row) c.self.view_is)
    ∙ (λ j. whole_row (gone j) i.outs.items i.debts.items i.last i.deals i.probes)
    ∙ ap (λ (v : AccountView). left_row (o ∷ []) v.row) c.self.view_is
