-- As much comes as goes.
use Rattle.std.proofs.Common.{◌≡◌, not, ◌∷◌, [], ◌∙◌, ap, sym, sum_by}
use Rattle.psb_bytes.specs.declared.ids.Object.TheVariants.{Chunk}
use Rattle.psb_model.specs.Words.{listed, with_all, without}
use Rattle.psb_model.specs.State.{out_key, out_size, back_units}
use Rattle.psb_model.specs.Effects.{own_slots}
use Rattle.peer_account.specs.View.{AccountView, lacks_all}
use Rattle.peer_account.proofs.Accounts.{lacks_all_kept}
use Rattle.peer_account.proofs.account.Account.settle_put_back.Goals as goal

pub insert_own_slots-requires-clause-absent : goal.insert_own_slots-requires-clause-absent
insert_own_slots-requires-clause-absent c =
    let l = c.self.inside.outs.items in
    let free = (λ i. lacks_all out_key (own_slots c.args.first (c.units_out-u.ensures i)) (c.self.view_is i).row.outs) ∙ c.requires.free in
    ap (lacks_all out_key (own_slots c.args.first c.units_out-u.result)) c.remove_chunk.ensures.items ∙ lacks_all_kept out_key (λ e. not (listed (Chunk c.args.name ∷ []) (out_key e))) (own_slots c.args.first c.units_out-u.result) l free

pub invariant_of-self : goal.invariant_of-self
invariant_of-self c =
    let l = c.self.inside.outs.items in
    let u = c.units_out-u.result in
    let new = own_slots c.args.first u in
    let left = without out_key (Chunk c.args.name ∷ []) l in
    let outs : c.insert_own_slots.new.self.items ≡ with_all out_key new left = c.insert_own_slots.ensures.items ∙ ap (with_all out_key new) c.remove_chunk.ensures.items in
    record {
      held_is = c.self.invariant.held_is;
      back_is = c.self.invariant.back_is ∙ ap (λ (v : AccountView). back_units v.row) c.self.view_is ∙ sym c.requires.same ∙ sym (λ i. sum_by out_size (with_all out_key (own_slots c.args.first (c.units_out-u.ensures i)) (without out_key (Chunk c.args.name ∷ []) (c.self.view_is i).row.outs))) ∙ ap (sum_by out_size) (sym outs);
      debt_is = c.self.invariant.debt_is;
    }
