-- States change no sum.
use Rattle.std.proofs.Common.{sum_by, sym, ap, ◌∙◌}
use Rattle.psb_bytes.specs.declared.ids.Object.TheVariants.{Slot}
use Rattle.psb_model.specs.declared.entries.OutState.TheVariants as on
use Rattle.psb_model.specs.State.{out_size, debt_size}
use Rattle.psb_model.proofs.Rows.{relabel_out_alike, relabel_debt_alike}
use Rattle.peer_account.specs.View.{whole_row}
use Rattle.peer_account.proofs.account.Account.loosen.Goals as goal

pub invariant_of-self : goal.invariant_of-self
invariant_of-self c =
    let a = c.self.inside in
    let r = whole_row a.ins.items a.outs.items a.debts.items a.last a.deals a.probes in
    let outs = relabel_out_alike (Slot c.args.slot) on.Loose r in
    let debts = relabel_debt_alike (Slot c.args.slot) on.Loose r in
    record {
      held_is = c.self.invariant.held_is;
      back_is = c.self.invariant.back_is ∙ sym outs.back ∙ sym (ap (sum_by out_size) c.set_state.ensures.items);
      debt_is = c.self.invariant.debt_is ∙ sym debts.debt ∙ sym (ap (sum_by debt_size) c.set_state-2.ensures.items);
    }
