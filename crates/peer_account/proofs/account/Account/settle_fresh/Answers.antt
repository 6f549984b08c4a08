-- The sums grow by the units that come.
use Rattle.std.proofs.Common.{ap, sum_by, arith}
use Rattle.psb_model.specs.State.{in_key, in_size, out_key, out_size}
use Rattle.psb_model.specs.Effects.{chunk_out, direct_slots}
use Rattle.psb_model.proofs.ByObject.{sum_by-with_one, sum_by-with_all}
use Rattle.psb_model.proofs.Parts.{sum-direct_slots}
use Rattle.peer_account.proofs.account.Account.settle_fresh.Goals as goal

pub invariant_of-self : goal.invariant_of-self
invariant_of-self c =
    let ns = c.args.slots.now in
    let e = chunk_out c.args.name c.args.u in
    let outs = c.insert_chunk.ensures.items in
    record {
      held_is = omega (arith, c.self.invariant.held_is, ap (sum_by in_size) c.insert_direct_slots.ensures.items, sum_by-with_all in_key in_size (direct_slots ns) c.self.inside.ins.items, sum-direct_slots ns);
      back_is = omega (arith, c.self.invariant.back_is, ap (sum_by out_size) outs, sum_by-with_one out_key out_size e c.self.inside.outs.items);
      debt_is = c.self.invariant.debt_is;
    }
