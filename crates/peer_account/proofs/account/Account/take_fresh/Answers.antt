-- The sums grow by the units of the chunk.
use Rattle.std.proofs.Common.{◌∙◌, ap, refl}
use Rattle.psb_model.specs.State.{out_key}
use Rattle.psb_model.specs.Effects.{chunk_in, own_slots}
use Rattle.peer_account.specs.View.{AccountView, lacks_all, fresh_row}
use Rattle.peer_account.proofs.Accounts.{one_more_in, more_out, taken_row}
use Rattle.peer_account.proofs.account.Account.take_fresh.Goals as goal

pub insert_own_slots-requires-clause-absent : goal.insert_own_slots-requires-clause-absent
insert_own_slots-requires-clause-absent c = ap (λ (v : AccountView). lacks_all out_key (own_slots c.args.x.now.first c.args.u) v.row.outs) c.self.view_is ∙ c.requires.absent_slots

pub invariant_of-self : goal.invariant_of-self
invariant_of-self c =
    let x = c.args.x.now in
    let ins = c.insert_chunk.ensures.items in record {
      held_is = one_more_in c.self.inside.held c.args.u (chunk_in x.name c.args.u) c.self.inside.ins.items c.insert_chunk.new.self.items refl c.self.invariant.held_is ins;
      back_is = more_out c.self.inside.back x.first c.args.u c.self.inside.outs.items c.insert_own_slots.new.self.items c.self.invariant.back_is c.insert_own_slots.ensures.items;
      debt_is = c.self.invariant.debt_is;
    }

pub returns-clause-row : goal.returns-clause-row
returns-clause-row c =
    let x = c.args.x.now in
    let ins = c.insert_chunk.ensures.items in
    taken_row c.self.inside.ins.items c.insert_chunk.new.self.items c.self.inside.outs.items c.insert_own_slots.new.self.items c.self.inside.debts.items c.self.inside.last c.self.inside.deals c.self.inside.probes x.name c.args.u x.first x.deal c.args.change ins c.insert_own_slots.ensures.items
    ∙ ap (λ (v : AccountView). fresh_row x.name c.args.u x.first x.deal c.args.change v.row) c.self.view_is
