-- What comes loose in all accounts where entries of one of them leave, and the room that this takes.
use Rattle.std.specs.Prelude.{◌≡◌, ◌≤◌, ℕ, zero, suc, ◌*◌, nat_le, Bool, true, if◌then◌else◌, List, [], ◌∷◌, map, length, Option, Some, None}
use Rattle.std.specs.List.{list_any, list_all}
use Rattle.psb_bytes.specs.declared.ids.Object.{Object}
use Rattle.psb_model.specs.declared.entries.InEntry.{InEntry}
use Rattle.psb_model.specs.declared.deals.Deal.{Deal}
use Rattle.psb_model.specs.declared.deals.DealWhat.TheVariants.{Cancel, Forward, Return}
use Rattle.psb_model.specs.Words.{only, slots}
use Rattle.psb_model.specs.State.{Row, blank, has_row, in_key}
use Rattle.psb_model.specs.Effects.{loosen, settle_states}
use Rattle.peer_account.specs.View.{AccountView, named_row}
use Rattle.peer_account.specs.States.{is_forwarded}
use Rattle.accounts.specs.Table.{account_in}

-- the row of the account that stands at a place
abbrev pub row_at : List AccountView → ℕ → Row
row_at [] i = blank
row_at (v ∷ vs) zero = v.row
row_at (v ∷ vs) (suc i) = row_at vs i

-- ROOM

-- each account has room for so many runs more in what the node has there
abbrev pub have_out_room : ℕ → List AccountView → Bool
have_out_room n vs = list_all (λ (v : AccountView). nat_le n v.out_room) vs

-- how many runs each has room for in what is answered for
abbrev pub in_rooms : List AccountView → List ℕ
in_rooms vs = map (λ (v : AccountView). v.in_room) vs

-- the room that is needed where these objects leave: none where no entry of them is forwarded
abbrev pub free_room : List InEntry → List Object → ℕ
free_room ins objects = if list_any (is_forwarded ins) objects then 2 * length objects else 0

-- WHAT COMES LOOSE

-- the slots that carry what stood at these objects in the account at place i are loose, and nothing else is changed
pub record Freed (vs : List AccountView) (i : ℕ) (objects : List Object) (ws : List AccountView) : Type 0 where
  pub rows : map named_row ws ≡ loosen (only in_key objects (row_at vs i).ins) (map named_row vs)
  pub rooms : in_rooms ws ≡ in_rooms vs

-- THE STATES THAT A SETTLED DEAL SETS

-- room in the account of p for a slot that gets another state, and in that of q for an entry that does
pub record ForwardRoom (vs : List AccountView) (p q : ℕ) : Type 0 where
  pub outs : 2 ≤ (account_in vs p).out_room
  pub ins : has_row (map named_row vs) q ≡ true → 2 ≤ (account_in vs q).in_room

-- the room that the pending deal with p takes, for which these are the entries that the node answers for
abbrev pub StatesRoom : List AccountView → ℕ → List InEntry → Option Deal → Type 0
StatesRoom vs p ins None = Unit {0}
StatesRoom vs p ins (Some d) = elim d.what [
  | Cancel name theirs ↦ have_out_room (free_room ins (slots theirs)) vs ≡ true
  | Forward slot entry ↦ ForwardRoom vs p entry.peer
  | Return slot ↦ 2 ≤ (account_in vs p).out_room
  | _ ↦ Unit {0}
]

-- The pending deal with p, whose account stands at place i: a Cancel frees the slots that it gives; a Forward and a
-- Return set the states of their slots; no other deal sets any.
abbrev pub StatesSet : List AccountView → ℕ → ℕ → Option Deal → List AccountView → Type 0
StatesSet vs p i None ws = ws ≡ vs
StatesSet vs p i (Some d) ws = elim d.what [
  | Cancel name theirs ↦ Freed vs i (slots theirs) ws
  | Forward slot entry ↦ map named_row ws ≡ settle_states p (Some d) (map named_row vs)
  | Return slot ↦ map named_row ws ≡ settle_states p (Some d) (map named_row vs)
  | _ ↦ ws ≡ vs
]
