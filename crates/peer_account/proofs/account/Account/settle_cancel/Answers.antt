-- As much goes of what is answered for as of what is owed back.
use Rattle.std.proofs.Common.{◌∷◌, [], ap, sum_by, arith}
use Rattle.psb_bytes.specs.declared.ids.Object.TheVariants.{Chunk}
use Rattle.psb_model.specs.Words.{slots, without}
use Rattle.psb_model.specs.State.{in_key, in_size, out_key, out_size, held_units, back_units}
use Rattle.peer_account.specs.View.{AccountView}
use Rattle.peer_account.proofs.account.Account.settle_cancel.Goals as goal

pub invariant_of-self : goal.invariant_of-self
invariant_of-self c =
    let ns = c.args.theirs.now in
    let ins = c.self.inside.ins.items in
    let outs = c.self.inside.outs.items in
    let held = ap (λ (v : AccountView). sum_by in_size (without in_key (slots ns) v.row.ins)) c.self.view_is in
    let back = ap (λ (v : AccountView). sum_by out_size (without out_key (Chunk c.args.name ∷ []) v.row.outs)) c.self.view_is in
    record {
      held_is = omega (arith, c.self.invariant.held_is, ap (λ (v : AccountView). held_units v.row) c.self.view_is, c.requires.held, held, ap (sum_by in_size) c.remove_slots.ensures.items);
      back_is = omega (arith, c.self.invariant.back_is, ap (λ (v : AccountView). back_units v.row) c.self.view_is, c.requires.back, back, ap (sum_by out_size) c.remove_chunk.ensures.items);
      debt_is = c.self.invariant.debt_is;
    }
