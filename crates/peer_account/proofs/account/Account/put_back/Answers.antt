-- As much comes as goes.
use Rattle.std.proofs.Common.{◌≡◌, ℕ, List, not, ◌∷◌, [], ◌∙◌, ap, sym, sum_by}
use Rattle.psb_bytes.specs.declared.ids.Object.TheVariants.{Chunk}
use Rattle.psb_model.specs.Words.{listed, with_all, without}
use Rattle.psb_model.specs.State.{in_key, in_size, held_units}
use Rattle.psb_model.specs.Effects.{direct_slots}
use Rattle.peer_account.specs.View.{AccountView, lacks_all, whole_row, put_back_row}
use Rattle.peer_account.proofs.Accounts.{lacks_all_kept}
use Rattle.peer_account.proofs.account.Account.put_back.Goals as goal

pub insert_direct_slots-requires-clause-absent : goal.insert_direct_slots-requires-clause-absent
insert_direct_slots-requires-clause-absent c =
    let ns = c.args.x.now.slots in
    let absent = ap (λ (v : AccountView). lacks_all in_key (direct_slots ns) v.row.ins) c.self.view_is ∙ c.requires.absent in
    let here = ap (lacks_all in_key (direct_slots ns)) c.remove_chunk.ensures.items ∙ lacks_all_kept in_key (λ e. not (listed (Chunk c.args.x.now.name ∷ []) (in_key e))) (direct_slots ns) c.self.inside.ins.items absent in
    ap (λ (l : List ℕ). lacks_all in_key (direct_slots l) c.remove_chunk.new.self.items) c.as_slice.ensures ∙ here

pub invariant_of-self : goal.invariant_of-self
invariant_of-self c =
    let x = c.args.x.now in
    let ns = c.args.x.now.slots in
    let l = c.self.inside.ins.items in
    let left = without in_key (Chunk x.name ∷ []) l in
    let ins : c.insert_direct_slots.new.self.items ≡ with_all in_key (direct_slots ns) left = (c.insert_direct_slots.ensures.items ∙ ap (λ (l : List ℕ). with_all in_key (direct_slots l) c.remove_chunk.new.self.items) c.as_slice.ensures) ∙ ap (with_all in_key (direct_slots ns)) c.remove_chunk.ensures.items in record {
      held_is = c.self.invariant.held_is ∙ ap (λ (v : AccountView). held_units v.row) c.self.view_is ∙ sym c.requires.same ∙ ap (λ (v : AccountView). held_units (put_back_row x.name ns x.deal c.args.change v.row)) (sym c.self.view_is) ∙ ap (sum_by in_size) (sym ins);
      back_is = c.self.invariant.back_is;
      debt_is = c.self.invariant.debt_is;
    }

pub returns-clause-row : goal.returns-clause-row
returns-clause-row c =
    let x = c.args.x.now in
    let ns = c.args.x.now.slots in
    let ins = (c.insert_direct_slots.ensures.items ∙ ap (λ (l : List ℕ). with_all in_key (direct_slots l) c.remove_chunk.new.self.items) c.as_slice.ensures) ∙ ap (with_all in_key (direct_slots ns)) c.remove_chunk.ensures.items in
    (λ j. whole_row (ins j) c.self.inside.outs.items c.self.inside.debts.items (record { number = x.deal; change = c.args.change }) c.self.inside.deals c.self.inside.probes)
    ∙ ap (λ (v : AccountView). put_back_row x.name ns x.deal c.args.change v.row) c.self.view_is
