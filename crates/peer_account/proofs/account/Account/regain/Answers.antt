-- As much comes to what stands there as goes of what is owed.
use Rattle.std.proofs.Common.{length, filter, sum_by, sym, ap, ◌∙◌, arith}
use Rattle.psb_model.specs.State.{out_key, out_size, debt_size, back_units, debt_units}
use Rattle.psb_model.specs.Effects.{is_whole_listed}
use Rattle.psb_model.proofs.ByObject.{sum_by-parts, sum_by-with_all}
use Rattle.peer_account.specs.View.{AccountView, out_anew}
use Rattle.peer_account.proofs.Probed.{anew_owed, regained_none}
use Rattle.peer_account.proofs.account.Account.regain.Goals as goal

pub returns-then-count_whole-eq0-clause-row : goal.returns-then-count_whole-eq0-clause-row
returns-then-count_whole-eq0-clause-row c = sym (regained_none c.args.objects.now c.args.self.now.row (ap (λ (v : AccountView). length (filter (is_whole_listed c.args.objects.now) v.row.debts)) (sym c.self.view_is) ∙ sym c.count_whole.ensures ∙ c.if-count_whole-eq0.true))

pub put_again-units-requires-clause-small : goal.put_again-units-requires-clause-small
put_again-units-requires-clause-small c =
    let os = c.args.objects.now in
    let debts = c.self.inside.debts.items in
    omega (arith, ap (λ ds. sum_by out_size (out_anew os ds)) c.as_slice.ensures, anew_owed os debts, sum_by-parts (is_whole_listed os) debt_size debts, ap (λ (v : AccountView). debt_units v.row) c.self.view_is, c.requires.small)

pub overflow_add-self : goal.overflow_add-self
overflow_add-self c =
    let os = c.args.objects.now in
    let debts = c.self.inside.debts.items in
    omega (arith, c.put_again-units.ensures.units, ap (λ ds. sum_by out_size (out_anew os ds)) c.as_slice.ensures, anew_owed os debts, sum_by-parts (is_whole_listed os) debt_size debts, ap (λ (v : AccountView). debt_units v.row) c.self.view_is, ap (λ (v : AccountView). back_units v.row) c.self.view_is, c.self.invariant.back_is, c.requires.small)

pub overflow_sub-self : goal.overflow_sub-self
overflow_sub-self c =
    let os = c.args.objects.now in
    let debts = c.self.inside.debts.items in
    omega (arith, c.put_again-units.ensures.units, ap (λ ds. sum_by out_size (out_anew os ds)) c.as_slice.ensures, anew_owed os debts, sum_by-parts (is_whole_listed os) debt_size debts, c.self.invariant.debt_is)

pub invariant_of-self : goal.invariant_of-self
invariant_of-self c =
    let os = c.args.objects.now in
    let i = c.self.inside in
    let units = c.put_again-units.ensures.units ∙ ap (λ ds. sum_by out_size (out_anew os ds)) c.as_slice.ensures in
    record {
      held_is = c.self.invariant.held_is;
      back_is = omega (arith, c.self.invariant.back_is, units, ap (sum_by out_size) c.put_again-units.ensures.items, ap (λ ds. sum_by out_size (Rattle.psb_model.specs.Words.with_all out_key (out_anew os ds) i.outs.items)) c.as_slice.ensures, sum_by-with_all out_key out_size (out_anew os i.debts.items) i.outs.items);
      debt_is = omega (arith, c.self.invariant.debt_is, units, anew_owed os i.debts.items, sum_by-parts (is_whole_listed os) debt_size i.debts.items, ap (sum_by debt_size) c.take_back.ensures.items);
    }
