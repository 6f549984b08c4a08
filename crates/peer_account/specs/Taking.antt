-- What an account needs for a deal of its peer: room, sums that fit, and lists without what comes.
use Rattle.std.specs.Prelude.{◌≡◌, ℕ, ◌+◌, ◌*◌, ◌<◌, ◌≤◌, ◌^◌, true, false, length}
use Rattle.psb_bytes.specs.declared.ids.Object.TheVariants.{Chunk}
use Rattle.psb_model.specs.declared.kinds.TookFresh.{TookFresh}
use Rattle.psb_model.specs.declared.kinds.TookSwap.{TookSwap}
use Rattle.psb_model.specs.declared.kinds.LetGo.{LetGo}
use Rattle.psb_model.specs.declared.kinds.LetGoBack.{LetGoBack}
use Rattle.psb_model.specs.Words.{has}
use Rattle.psb_model.specs.State.{in_key, out_key, held_units, back_units}
use Rattle.psb_model.specs.Grammar.{ascend}
use Rattle.psb_model.specs.Effects.{own_slots, direct_slots}
use Rattle.peer_account.specs.View.{AccountView, lacks_all, swap_row, let_go_row, put_back_row}

-- a chunk of u units comes against as many new slots
pub record TakesFresh (v : AccountView) (x : TookFresh) (u : ℕ) : Type 0 where
  pub in_room : 1 ≤ v.in_room
  pub out_room : 1 ≤ v.out_room
  pub slots : x.first + u < 2 ^ 32
  pub held : held_units v.row + u < 2 ^ 32
  pub back : back_units v.row + u < 2 ^ 32
  pub absent : has in_key v.row.ins (Chunk x.name) ≡ false
  pub absent_slots : lacks_all out_key (own_slots x.first u) v.row.outs ≡ true

-- it comes in the place of slots, and as much is answered for as before
pub record TakesSwap (v : AccountView) (x : TookSwap) (u change : ℕ) : Type 0 where
  pub in_room : 1 + 2 * length x.slots ≤ v.in_room
  pub absent : has in_key v.row.ins (Chunk x.name) ≡ false
  pub same : held_units (swap_row x.name u x.slots x.deal change v.row) ≡ held_units v.row

-- a chunk goes, and as many units of slots
pub record LetsGo (v : AccountView) (x : LetGo) (u change : ℕ) : Type 0 where
  pub out_room : 2 * length x.slots ≤ v.out_room
  pub held : held_units (let_go_row x.name x.slots x.deal change v.row) + u ≡ held_units v.row
  pub back : back_units (let_go_row x.name x.slots x.deal change v.row) + u ≡ back_units v.row

-- a chunk goes, and direct slots stand in its place
pub record PutsBack (v : AccountView) (x : LetGoBack) (change : ℕ) : Type 0 where
  pub in_room : length x.slots ≤ v.in_room
  pub ascend : ascend x.slots ≡ true
  pub absent : lacks_all in_key (direct_slots x.slots) v.row.ins ≡ true
  pub same : held_units (put_back_row x.name x.slots x.deal change v.row) ≡ held_units v.row
