-- As much comes as goes.
use Rattle.std.proofs.Common.{◌≡◌, not, ◌∙◌, ap, sym, sum_by}
use Rattle.psb_bytes.specs.declared.ids.Object.TheVariants.{Chunk}
use Rattle.psb_model.specs.Words.{has, listed, slots, with_one, without}
use Rattle.psb_model.specs.State.{out_key, out_size, back_units}
use Rattle.psb_model.specs.Effects.{chunk_out}
use Rattle.peer_account.specs.View.{AccountView}
use Rattle.peer_account.proofs.Accounts.{lacks_kept}
use Rattle.peer_account.proofs.account.Account.settle_swap.Goals as goal

pub insert_chunk-requires-clause-absent : goal.insert_chunk-requires-clause-absent
insert_chunk-requires-clause-absent c =
    let ns = c.args.mine.now in
    let l = c.self.inside.outs.items in
    let absent = ap (λ (v : AccountView). has out_key v.row.outs (Chunk c.args.name)) c.self.view_is ∙ c.requires.absent in
    ap (λ l. has out_key l (Chunk c.args.name)) c.remove_slots.ensures.items ∙ lacks_kept out_key (λ e. not (listed (slots ns) (out_key e))) l (Chunk c.args.name) absent

pub invariant_of-self : goal.invariant_of-self
invariant_of-self c =
    let ns = c.args.mine.now in
    let e = chunk_out c.args.name c.args.u in
    let l = c.self.inside.outs.items in
    let left = without out_key (slots ns) l in
    let outs : c.insert_chunk.new.self.items ≡ with_one out_key e left = c.insert_chunk.ensures.items ∙ ap (with_one out_key e) c.remove_slots.ensures.items in
    record {
      held_is = c.self.invariant.held_is;
      back_is = c.self.invariant.back_is ∙ ap (λ (v : AccountView). back_units v.row) c.self.view_is ∙ sym c.requires.same ∙ ap (λ (v : AccountView). sum_by out_size (with_one out_key e (without out_key (slots ns) v.row.outs))) (sym c.self.view_is) ∙ ap (sum_by out_size) (sym outs);
      debt_is = c.self.invariant.debt_is;
    }
