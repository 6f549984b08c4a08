-- The account of a peer of which entries leave, once the slots that carry them have come loose.
use Rattle.std.proofs.Common.{◌≡◌, ℕ, zero, suc, ◌≤◌, ◌<◌, true, List, [], ◌∷◌, map, length, Some, sym, ap, ◌∙◌, subst, arith}
use Rattle.std.specs.Prelude.{◌==◌, position}
use Rattle.psb_bytes.specs.declared.ids.Object.{Object}
use Rattle.psb_model.specs.declared.entries.InEntry.{InEntry}
use Rattle.psb_model.specs.declared.change.Change.{Change}
use Rattle.psb_model.specs.Words.{only}
use Rattle.psb_model.specs.State.{Row, row, row_in, is_peer, in_key}
use Rattle.psb_model.specs.Effects.{states_of, disturbed, loosen}
use Rattle.psb_model.proofs.Freed.{freed}
use Rattle.psb_model.proofs.Rows.{Alike, states_alike, loosen_alike, alike_then}
use Rattle.peer_account.specs.View.{AccountView, named_row}
use Rattle.peer_account.specs.States.{is_forwarded}
use Rattle.accounts.specs.Freeing.{row_at, in_rooms, have_out_room, free_room, Freed}
use Rattle.accounts.proofs.Places.{Found, found, found_at, found_within, found_here, found_row, found_peer, found_account}
use Rattle.accounts.proofs.Loosened.{found_row_at, freed_ins, same_count}
use Rattle.psb_ledger.specs.declared.ledger.Ledger.TheInside.{Inside}
use Rattle.psb_ledger.specs.View.{HasListRoom}
use Rattle.psb_ledger.specs.Moves.{StandsIn}
use Rattle.psb_ledger.proofs.Sound.{state_of, view_of}
use Rattle.psb_ledger.proofs.Peers.{IsAt, IsFreed, row_of_peer as row_is, found_freed}

-- where states change, objects and units stay
pub freed_alike : (l : Inside) (c : Change) (p i : ℕ) (r q : AccountView) (vs : List AccountView) → IsAt l c p i r → IsFreed l c vs i q → Alike (row (state_of l) p) q.row
freed_alike l c p i r q vs f fr =
    let s = state_of l in
    let row_now : row_in (freed s c) p ≡ q.row = ap (λ rows. row_in rows p) (sym fr.rows) ∙ found_row vs p i q (found_freed l c p i r q vs f fr) in
    subst (Alike (row s p)) row_now (alike_then (row s p) (row_in (states_of s c s.rows) p) (row_in (freed s c) p) ((states_alike s c s.rows).each p) ((loosen_alike (disturbed s c) (states_of s c s.rows)).each p))

-- the account as it is now: what is answered for, and the room for more, are as before
pub record LeavesIn (l : Inside) (c : Change) (p i : ℕ) (r q : AccountView) (vs : List AccountView) : Type 0 where
  pub freed : IsFreed l c vs i q
  pub in_room : q.in_room ≡ r.in_room
  pub ins : q.row.ins ≡ (row (state_of l) p).ins

pub room_here : (vs ws : List AccountView) (p i : ℕ) (r q : AccountView) → Found vs p i r → StandsIn ws i q → in_rooms ws ≡ in_rooms vs → q.in_room ≡ r.in_room
room_here [] ws p i r q f at h = absurd f
room_here (v ∷ vs) [] p i r q f at h = absurd (cc (h))
room_here (v ∷ vs) (w ∷ ws) p zero r q f at h = let one : w.in_room ≡ v.in_room = cc (h) in ap (λ (y : AccountView). y.in_room) at ∙ one ∙ ap (λ (y : AccountView). y.in_room) f.1
room_here (v ∷ vs) (w ∷ ws) p (suc i) r q f at h = let rest : in_rooms ws ≡ in_rooms vs = cc (h) in room_here vs ws p i r q f.1 at rest

pub leaves_as : (l : Inside) (c : Change) (p i : ℕ) (r q : AccountView) (vs : List AccountView) (objects : List Object) → IsAt l c p i r → Freed l.accounts.items i objects vs → StandsIn vs i q → loosen (only in_key objects (row (state_of l) p).ins) (state_of l).rows ≡ freed (state_of l) c → LeavesIn l c p i r q vs
leaves_as l c p i r q vs objects f loose here frees =
    let us = l.accounts.items in
    let at = found_here us p i r f.place f.here in
    let was : r.row ≡ row (state_of l) p = sym (row_is l c p i r f) in
    let ins_at : (row_at us i).ins ≡ (row (state_of l) p).ins = ap (λ (y : Row). y.ins) (sym (found_row_at us p i r at) ∙ was) in
    let fr : IsFreed l c vs i q = record { rows = loose.rows ∙ ap (λ es. loosen (only in_key objects es) (map named_row us)) ins_at ∙ frees; here = here } in
    let there = found_freed l c p i r q vs f fr in
    record {
      freed = fr;
      in_room = room_here us vs p i r q at here loose.rooms;
      ins = ap (λ (y : Row). y.ins) (found_row_at vs p i q there) ∙ freed_ins us vs i objects loose ∙ ins_at;
    }

-- room in the account
pub room_in : (l : Inside) (c : Change) (p i ins outs : ℕ) (r : AccountView) → IsAt l c p i r → HasListRoom (view_of l) p ins outs → ins ≤ r.in_room
room_in l c p i ins outs r f room =
    let at = found_here l.accounts.items p i r f.place f.here in
    subst (λ (y : AccountView). ins ≤ y.in_room) (found_account l.accounts.items p i r at) (room.in_room (found_peer l.accounts.items p i r at))

-- ---- the account at the place of its peer

pub place_within : (vs : List AccountView) (p i : ℕ) → Some i ≡ position (λ (v : AccountView). v.id == p) vs → i < length vs
place_within vs p i h = let f = found vs p i (sym h) in found_within vs p i f.0 f.1

pub account_there : (vs : List AccountView) (p i : ℕ) → Some i ≡ position (λ (v : AccountView). v.id == p) vs → (r : AccountView) × StandsIn vs i r
account_there vs p i h = let f = found vs p i (sym h) in (f.0, sym (found_at vs p i f.0 f.0 f.1))

pub row_at_place : (l : Inside) (p i : ℕ) → Some i ≡ position (λ (v : AccountView). v.id == p) l.accounts.items → row (state_of l) p ≡ row_at l.accounts.items i
row_at_place l p i h = let f = found l.accounts.items p i (sym h) in found_row l.accounts.items p i f.0 f.1 ∙ found_row_at l.accounts.items p i f.0 f.1

pub peer_at_place : (l : Inside) (p i : ℕ) → Some i ≡ position (λ (v : AccountView). v.id == p) l.accounts.items → is_peer (state_of l) p ≡ true
peer_at_place l p i h = let f = found l.accounts.items p i (sym h) in found_peer l.accounts.items p i f.0 f.1

pub loose_at_place : (l : Inside) (p i : ℕ) (objects : List Object) → Some i ≡ position (λ (v : AccountView). v.id == p) l.accounts.items → have_out_room (free_room (row (state_of l) p).ins objects) l.accounts.items ≡ true → have_out_room (free_room (row_at l.accounts.items i).ins objects) l.accounts.items ≡ true
loose_at_place l p i objects place room = ap (λ (y : Row). have_out_room (free_room y.ins objects) l.accounts.items) (sym (row_at_place l p i place)) ∙ room

pub one_forwarded : (vs : List AccountView) (ins : List InEntry) (o : Object) → have_out_room (free_room ins (o ∷ [])) vs ≡ true → is_forwarded ins o ≡ true → have_out_room 2 vs ≡ true
one_forwarded vs ins o room h = rw h at room

-- where slots come loose, it stands there still
pub still_within : (vs ws : List AccountView) (i : ℕ) (objects : List Object) → Freed vs i objects ws → i < length vs → i < length ws
still_within vs ws i objects f lt = omega (arith, lt, same_count vs ws f.rooms)
