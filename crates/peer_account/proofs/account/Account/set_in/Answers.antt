-- States change no sum.
use Rattle.std.proofs.Common.{sum_by, sym, ap, ◌∙◌}
use Rattle.psb_bytes.specs.declared.ids.Object.TheVariants.{Slot}
use Rattle.psb_model.specs.State.{in_size}
use Rattle.psb_model.proofs.Rows.{relabel_in_alike}
use Rattle.peer_account.specs.View.{whole_row}
use Rattle.peer_account.proofs.account.Account.set_in.Goals as goal

pub invariant_of-self : goal.invariant_of-self
invariant_of-self c =
    let a = c.self.inside in
    let same = relabel_in_alike (Slot c.args.slot) c.args.state (whole_row a.ins.items a.outs.items a.debts.items a.last a.deals a.probes) in
    record {
      held_is = c.self.invariant.held_is ∙ sym same.held ∙ sym (ap (sum_by in_size) c.set_state.ensures.items);
      back_is = c.self.invariant.back_is;
      debt_is = c.self.invariant.debt_is;
    }
