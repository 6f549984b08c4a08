-- What an account needs to settle its deal: room, sums that fit, and lists without what comes.
use Rattle.std.specs.Prelude.{◌≡◌, ℕ, ◌+◌, ◌*◌, ◌<◌, ◌≤◌, ◌^◌, true, false, List, [], ◌∷◌, length, Option, Some, None}
use Rattle.psb_bytes.specs.declared.ids.Object.TheVariants.{Chunk}
use Rattle.psb_model.specs.declared.deals.Deal.{Deal}
use Rattle.psb_model.specs.declared.deals.DealWhat.{DealWhat}
use Rattle.psb_model.specs.declared.deals.DealWhat.TheVariants.{Fresh, Swap, Cancel, PutBack}
use Rattle.psb_model.specs.Words.{has, slots, units_at, with_one, with_all, without}
use Rattle.psb_model.specs.State.{in_key, out_key, out_size, held_units, back_units}
use Rattle.psb_model.specs.Grammar.{ascend}
use Rattle.psb_model.specs.Effects.{chunk_out, own_slots, direct_slots}
use Rattle.peer_account.specs.View.{AccountView, lacks_all}

pub record SettlesFresh (v : AccountView) (u : ℕ) (numbers name : List ℕ) : Type 0 where
  pub in_room : length numbers ≤ v.in_room
  pub out_room : 1 ≤ v.out_room
  pub ascends : ascend numbers ≡ true
  pub absent : has out_key v.row.outs (Chunk name) ≡ false
  pub free : lacks_all in_key (direct_slots numbers) v.row.ins ≡ true
  pub held : held_units v.row + length numbers < 2 ^ 32
  pub back : back_units v.row + u < 2 ^ 32

pub record SettlesSwap (v : AccountView) (u : ℕ) (name mine : List ℕ) : Type 0 where
  pub out_room : 1 + 2 * length mine ≤ v.out_room
  pub absent : has out_key v.row.outs (Chunk name) ≡ false
  pub same : back_units (record v.row { outs = with_one out_key (chunk_out name u) (without out_key (slots mine) v.row.outs) }) ≡ back_units v.row

pub record SettlesCancel (v : AccountView) (name theirs : List ℕ) : Type 0 where
  pub in_room : 2 * length theirs ≤ v.in_room
  pub held : held_units (record v.row { ins = without in_key (slots theirs) v.row.ins }) + length theirs ≡ held_units v.row
  pub back : back_units (record v.row { outs = without out_key (Chunk name ∷ []) v.row.outs }) + length theirs ≡ back_units v.row

pub record SettlesPutBack (v : AccountView) (name : List ℕ) (first u : ℕ) : Type 0 where
  pub out_room : 1 ≤ v.out_room
  pub numbers : first + u < 2 ^ 32
  pub free : lacks_all out_key (own_slots first u) v.row.outs ≡ true
  pub same : back_units (record v.row { outs = with_all out_key (own_slots first u) (without out_key (Chunk name ∷ []) v.row.outs) }) ≡ back_units v.row

abbrev pub SettlesDeal : AccountView → ℕ → List ℕ → DealWhat → Type 0
SettlesDeal v u numbers (Fresh name) = SettlesFresh v u numbers name
SettlesDeal v u numbers (Swap name mine) = SettlesSwap v u name mine
SettlesDeal v u numbers (Cancel name theirs) = SettlesCancel v name theirs
SettlesDeal v u numbers (PutBack name first) = SettlesPutBack v name first (units_at out_key out_size v.row.outs (Chunk name))
SettlesDeal v u numbers _ = Unit {0}

abbrev pub Settles : AccountView → ℕ → List ℕ → Option Deal → Type 0
Settles v u numbers None = Unit {0}
Settles v u numbers (Some d) = SettlesDeal v u numbers d.what
