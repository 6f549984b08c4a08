-- Both sums shrink by what goes.
use Rattle.std.proofs.Common.{ℕ, List, ◌∙◌, ap, sum_by, arith}
use Rattle.psb_model.specs.Words.{slots, without}
use Rattle.psb_model.specs.State.{out_key, in_size, out_size, held_units, back_units}
use Rattle.peer_account.specs.View.{AccountView, whole_row, let_go_row}
use Rattle.peer_account.proofs.account.Account.let_go.Goals as goal

pub overflow_sub-self : goal.overflow_sub-self
overflow_sub-self c = omega (arith, c.self.invariant.held_is, ap (λ (v : AccountView). held_units v.row) c.self.view_is, c.requires.held)

pub overflow_sub-self-2 : goal.overflow_sub-self-2
overflow_sub-self-2 c = omega (arith, c.self.invariant.back_is, ap (λ (v : AccountView). back_units v.row) c.self.view_is, c.requires.back)

pub invariant_of-self : goal.invariant_of-self
invariant_of-self c =
    let x = c.args.x.now in
    let ns = c.args.x.now.slots in
    let row : AccountView → _ = λ v. let_go_row x.name ns x.deal c.args.change v.row in record {
      held_is = omega (arith, c.self.invariant.held_is, ap (λ (v : AccountView). held_units v.row) c.self.view_is, c.requires.held, ap (λ (v : AccountView). held_units (row v)) c.self.view_is, ap (sum_by in_size) c.remove_chunk.ensures.items);
      back_is = omega (arith, c.self.invariant.back_is, ap (λ (v : AccountView). back_units v.row) c.self.view_is, c.requires.back, ap (λ (v : AccountView). back_units (row v)) c.self.view_is, ap (sum_by out_size) (c.remove_slots.ensures.items ∙ ap (λ (ns : List ℕ). without out_key (slots ns) c.self.inside.outs.items) c.as_slice.ensures));
      debt_is = c.self.invariant.debt_is;
    }

pub returns-clause-row : goal.returns-clause-row
returns-clause-row c =
    let x = c.args.x.now in
    let gone = c.remove_slots.ensures.items ∙ ap (λ (ns : List ℕ). without out_key (slots ns) c.self.inside.outs.items) c.as_slice.ensures in
    (λ j. whole_row (c.remove_chunk.ensures.items j) (gone j) c.self.inside.debts.items (record { number = x.deal; change = c.args.change }) c.self.inside.deals c.self.inside.probes)
    ∙ ap (λ (v : AccountView). let_go_row x.name c.args.x.now.slots x.deal c.args.change v.row) c.self.view_is
