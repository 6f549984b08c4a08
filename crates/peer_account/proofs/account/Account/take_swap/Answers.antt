-- As much comes as goes.
use Rattle.std.proofs.Common.{◌≡◌, ℕ, List, not, ◌∙◌, ap, sym, sum_by}
use Rattle.psb_bytes.specs.declared.ids.Object.TheVariants.{Chunk}
use Rattle.psb_model.specs.Words.{has, listed, slots, with_one, without}
use Rattle.psb_model.specs.State.{in_key, in_size, held_units}
use Rattle.psb_model.specs.Effects.{chunk_in}
use Rattle.peer_account.specs.View.{AccountView, whole_row, swap_row}
use Rattle.peer_account.proofs.Accounts.{lacks_kept}
use Rattle.peer_account.proofs.account.Account.take_swap.Goals as goal

pub insert_chunk-requires-clause-absent : goal.insert_chunk-requires-clause-absent
insert_chunk-requires-clause-absent c =
    let x = c.args.x.now in
    let absent = ap (λ (v : AccountView). has in_key v.row.ins (Chunk x.name)) c.self.view_is ∙ c.requires.absent in
    ap (λ l. has in_key l (Chunk x.name)) (c.remove_slots.ensures.items ∙ ap (λ (ns : List ℕ). without in_key (slots ns) c.self.inside.ins.items) c.as_slice.ensures) ∙ lacks_kept in_key (λ e. not (listed (slots c.args.x.now.slots) (in_key e))) c.self.inside.ins.items (Chunk x.name) absent

pub invariant_of-self : goal.invariant_of-self
invariant_of-self c =
    let x = c.args.x.now in
    let ns = c.args.x.now.slots in
    let l = c.self.inside.ins.items in
    let left = without in_key (slots ns) l in
    let ins : c.insert_chunk.new.self.items ≡ with_one in_key (chunk_in x.name c.args.u) left = c.insert_chunk.ensures.items ∙ ap (with_one in_key (chunk_in x.name c.args.u)) (c.remove_slots.ensures.items ∙ ap (λ (ns : List ℕ). without in_key (slots ns) c.self.inside.ins.items) c.as_slice.ensures) in record {
      held_is = c.self.invariant.held_is ∙ ap (λ (v : AccountView). held_units v.row) c.self.view_is ∙ sym c.requires.same ∙ ap (λ (v : AccountView). held_units (swap_row x.name c.args.u ns x.deal c.args.change v.row)) (sym c.self.view_is) ∙ ap (sum_by in_size) (sym ins);
      back_is = c.self.invariant.back_is;
      debt_is = c.self.invariant.debt_is;
    }

pub returns-clause-row : goal.returns-clause-row
returns-clause-row c =
    let x = c.args.x.now in
    let ns = c.args.x.now.slots in
    let ins = c.insert_chunk.ensures.items ∙ ap (with_one in_key (chunk_in x.name c.args.u)) (c.remove_slots.ensures.items ∙ ap (λ (ns : List ℕ). without in_key (slots ns) c.self.inside.ins.items) c.as_slice.ensures) in
    (λ j. whole_row (ins j) c.self.inside.outs.items c.self.inside.debts.items (record { number = x.deal; change = c.args.change }) c.self.inside.deals c.self.inside.probes)
    ∙ ap (λ (v : AccountView). swap_row x.name c.args.u ns x.deal c.args.change v.row) c.self.view_is
