-- What contracts see of an account: its row, and the memory that was taken for a change. And the row after each
-- move.
use Rattle.std.specs.Prelude.{◌≡◌, ℕ, Bool, false, true, not, List, [], ◌∷◌, ◌++◌, map, filter, sum_by, Option, Some, None}
use Rattle.psb_bytes.specs.declared.ids.Object.{Object}
use Rattle.psb_bytes.specs.declared.ids.Object.TheVariants.{Chunk}
use Rattle.psb_model.specs.declared.entries.InEntry.{InEntry}
use Rattle.psb_model.specs.declared.entries.OutEntry.{OutEntry}
use Rattle.psb_model.specs.declared.entries.DebtEntry.{DebtEntry}
use Rattle.psb_model.specs.declared.deals.LastDeal.{LastDeal}
use Rattle.psb_model.specs.declared.deals.Deal.{Deal}
use Rattle.psb_model.specs.declared.deals.DealWhat.{DealWhat}
use Rattle.psb_model.specs.declared.deals.DealWhat.TheVariants.{Fresh, Swap, Cancel, PutBack}
use Rattle.psb_model.specs.Words.{slots, units_at, with_one, with_all, without, only}
use Rattle.psb_model.specs.State.{Row, in_key, in_size, out_key, out_size, debt_size}
use Rattle.psb_model.specs.Conditions.{objects_at}
use Rattle.psb_model.specs.Move.{use_up}
use Rattle.psb_model.specs.Effects.{chunk_in, chunk_out, own_slots, direct_slots, took_deal, lost_rows, out_again, is_whole_listed, failed_again, was_passed, was_failed}
use Rattle.own_deals.specs.OwnDeals.{OwnDealsView, ins_of, outs_of}
use Rattle.peer_account.specs.declared.probes.Probes.{Probes}
pub use Rattle.peer_lists.specs.Entries.{in_order, lacks_all}

-- a peer's row, how many more entries its two lists of entries have room for, how many more names
-- those of what it turned down, and how many more rows its debt
pub record AccountView : Type 0 where
  pub id : ℕ
  pub row : Row
  pub in_room : ℕ
  pub out_room : ℕ
  pub barred_room : ℕ
  pub cancel_room : ℕ
  pub debt_room : ℕ

-- the row that these lists, this last deal, these own deals and these probes are
abbrev pub whole_row : List InEntry → List OutEntry → List DebtEntry → LastDeal → OwnDealsView → Probes → Row
whole_row ins outs debts last deals probes = record { ins = ins; outs = outs; debts = debts; last = last; pending = deals.pending; mine = deals.mine; barred = deals.barred; turned_cancels = deals.turned_cancels; asked = probes.asked; fails = probes.fails; due = probes.due }

-- the row of the state that an account is
abbrev pub named_row : AccountView → ℕ × Row
named_row v = (v.id, v.row)

-- THE ROW AFTER A MOVE

-- a row after a chunk was taken against new slots
abbrev pub fresh_row : List ℕ → ℕ → ℕ → ℕ → ℕ → Row → Row
fresh_row name u first deal change r = took_deal deal change (record r { ins = with_one in_key (chunk_in name u) r.ins; outs = with_all out_key (own_slots first u) r.outs })

-- a row after a chunk was taken in the place of slots
abbrev pub swap_row : List ℕ → ℕ → List ℕ → ℕ → ℕ → Row → Row
swap_row name u numbers deal change r = took_deal deal change (record r { ins = with_one in_key (chunk_in name u) (without in_key (slots numbers) r.ins) })

-- a row after a chunk was let go against slots, or was put back into slots
abbrev pub let_go_row : List ℕ → List ℕ → ℕ → ℕ → Row → Row
let_go_row name numbers deal change r = took_deal deal change (record r { ins = without in_key (Chunk name ∷ []) r.ins; outs = without out_key (slots numbers) r.outs })

abbrev pub put_back_row : List ℕ → List ℕ → ℕ → ℕ → Row → Row
put_back_row name numbers deal change r = took_deal deal change (record r { ins = with_all in_key (direct_slots numbers) (without in_key (Chunk name ∷ []) r.ins) })

-- a row after a deal was settled: u are the units of the chunk that it places
abbrev pub settled_deal : ℕ → List ℕ → Row → DealWhat → Row
settled_deal u numbers r (Fresh name) = record r { ins = with_all in_key (direct_slots numbers) r.ins; outs = with_one out_key (chunk_out name u) r.outs }
settled_deal u numbers r (Swap name mine) = record r { outs = with_one out_key (chunk_out name u) (without out_key (slots mine) r.outs) }
settled_deal u numbers r (Cancel name theirs) = record r { ins = without in_key (slots theirs) r.ins; outs = without out_key (Chunk name ∷ []) r.outs }
settled_deal u numbers r (PutBack name first) = record r { outs = with_all out_key (own_slots first (units_at out_key out_size r.outs (Chunk name))) (without out_key (Chunk name ∷ []) r.outs) }
settled_deal u numbers r _ = r

-- and the deal has its reply
abbrev pub settled_by : ℕ → List ℕ → Row → Option Deal → Row
settled_by u numbers r None = record r { pending = None }
settled_by u numbers r (Some d) = settled_deal u numbers (record r { pending = None }) d.what

abbrev pub settled_row : ℕ → List ℕ → Row → Row
settled_row u numbers r = settled_by u numbers r r.pending

-- a row after a probe asked for objects, by the change of this number
abbrev pub asked_row : ℕ → List Object → Row → Row
asked_row change objects r = record r { asked = Some (change, objects) }

-- the entries of out(p) that these rows of debt were, as far as they are listed and whole
abbrev pub out_anew : List Object → List DebtEntry → List OutEntry
out_anew objects debts = map out_again (filter (is_whole_listed objects) debts)

-- a row after these objects stand there again, and after a probe of them was passed
abbrev pub regained_row : List Object → Row → Row
regained_row objects r = record r { outs = with_all out_key (out_anew objects r.debts) r.outs; debts = filter (λ d. not (is_whole_listed objects d)) r.debts }

abbrev pub passed_row : ℕ → List Object → Row → Row
passed_row asked objects r = was_passed asked (regained_row objects r)

-- a row after these objects were lost by the change of this number, and after a probe of them failed, or was declined
-- for the places of some
abbrev pub lost_row : ℕ → Bool → List Object → Row → Row
lost_row change declined objects r = record r { outs = without out_key objects r.outs; debts = r.debts ++ lost_rows change declined objects r.outs }

abbrev pub failed_row : ℕ → ℕ → List Object → Row → Row
failed_row change asked objects r = was_failed asked (lost_row change false objects r)

abbrev pub declined_row : ℕ → ℕ → List ℕ → Row → Row
declined_row change asked places r = failed_again (lost_row change true (objects_at r asked places) r)

-- a row after these objects left what is answered for, and after they were discarded against debt
abbrev pub left_row : List Object → Row → Row
left_row objects r = record r { ins = without in_key objects r.ins }

abbrev pub discarded_row : List Object → Row → Row
discarded_row objects r = record r { ins = without in_key objects r.ins; debts = use_up (sum_by in_size (only in_key objects r.ins)) r.debts; due = false }

-- ROOM

-- what comes to the two lists when the pending deal is settled, but for the slots of the reply
abbrev pub ins_settled : Option Deal → ℕ
ins_settled None = 0
ins_settled (Some d) = ins_of d.what

abbrev pub outs_settled : Option Deal → ℕ
outs_settled None = 0
outs_settled (Some d) = outs_of d.what

-- WHAT EACH ACCOUNT KEEPS

-- the running sums are those of the lists
pub record IsAccount (held back debt : ℕ) (ins : List InEntry) (outs : List OutEntry) (debts : List DebtEntry) : Type 0 where
  pub held_is : held ≡ sum_by in_size ins
  pub back_is : back ≡ sum_by out_size outs
  pub debt_is : debt ≡ sum_by debt_size debts
