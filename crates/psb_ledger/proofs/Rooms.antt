-- Room that is made in the account of a peer changes no row.
use Rattle.std.proofs.Common.{◌≡◌, ℕ, zero, suc, ◌+◌, ◌≤◌, true, false, List, [], ◌∷◌, map, set, Option, Some, None, refl, sym, ap, ◌∙◌, subst, arith}
use Rattle.std.specs.Prelude.{◌==◌, position, Result, Ok, Err, OnOk}
use Rattle.std.proofs.lemmas.Bool.{false≢true, eqb-true, le-leb}
use Rattle.psb_bytes.specs.declared.ids.Seat.{Seat}
use Rattle.psb_model.specs.declared.deals.Deal.{Deal}
use Rattle.psb_model.specs.declared.deals.DealWhat.{DealWhat}
use Rattle.psb_model.specs.declared.deals.DealWhat.TheVariants.{Fresh, Swap, Cancel, PutBack, Forward, Return}
use Rattle.psb_model.specs.State.{Row, row, has_row, is_peer}
use Rattle.psb_model.proofs.ByObject.{by_cases}
use Rattle.peer_account.specs.View.{AccountView, named_row, outs_settled}
use Rattle.psb_ledger.specs.declared.ledger.Ledger.TheInside.{Inside}
use Rattle.psb_ledger.specs.View.{LedgerView, plain_state, HasListRoom, HasStatesRoom, IsSound}
use Rattle.accounts.specs.Table.{account_in}
use Rattle.accounts.specs.Freeing.{have_out_room, in_rooms, StatesRoom}
use Rattle.accounts.proofs.Loosened.{account_room, keys_of}
use Rattle.psb_ledger.specs.Moves.{StandsAt}
use Rattle.accounts.proofs.Places.{Found, found_here, found_after, found_account, none}
use Rattle.psb_ledger.proofs.Sound.{mine, state_of, view_of, same_rows, same_state}

-- the account at place i, that of p, is w now: the state stays, and w has the room
pub record IsRoomier (l : Inside) (p i : ℕ) (w : AccountView) : Type 0 where
  pub state : plain_state l.changes l.settings (set l.accounts.items i w) l.issued (mine l) ≡ state_of l
  pub sound : IsSound l.used (plain_state l.changes l.settings (set l.accounts.items i w) l.issued (mine l))
  pub account : account_in (set l.accounts.items i w) p ≡ w

pub roomier : (l : Inside) (p i : ℕ) (r w : AccountView) → Some i ≡ position (λ (v : AccountView). v.id == p) l.accounts.items → StandsAt (view_of l) i r → w.id ≡ r.id → w.row ≡ r.row → IsSound l.used (state_of l) → IsRoomier l p i w
roomier l p i r w at stands id row sound =
    let vs = l.accounts.items in
    let here = found_here vs p i r at stands in
    let same = same_state (mine l) l.changes l.settings vs (set vs i w) l.issued (same_rows vs p i r w here id row) in
    record {
      state = same;
      sound = subst (IsSound l.used) (sym same) sound;
      account = found_account (set vs i w) p i w (found_after vs p i r w here id);
    }

-- a stranger needs none
pub no_room : {P : Type 0} (l : Inside) (p : ℕ) → None ≡ position (λ (v : AccountView). v.id == p) l.accounts.items → is_peer (state_of l) p ≡ true → P
no_room l p at peer = absurd (false≢true (sym (none l.accounts.items p (sym at)).1 ∙ peer))

-- ---- room in one of the two lists

-- no room is there at once
none_there : (vs : List AccountView) → have_out_room 0 vs ≡ true
none_there [] = refl
none_there (v ∷ vs) = rw (le-leb 0 v.out_room (omega arith)) (none_there vs)

pub none_needed : (n : ℕ) (vs : List AccountView) → n ≡ 0 → have_out_room n vs ≡ true
none_needed n vs none = ap (λ m. have_out_room m vs) none ∙ none_there vs

-- room in out leaves that in what is answered for
pub ins_stay : (l : Inside) (v : LedgerView) (ws : List AccountView) (p ins : ℕ) → view_of l ≡ v → map named_row ws ≡ map named_row l.accounts.items → in_rooms ws ≡ in_rooms l.accounts.items → HasListRoom v p ins 0 → has_row (map named_row ws) p ≡ true → ins ≤ (account_in ws p).in_room
ins_stay l v ws p ins view rows rooms room peer =
    let us = l.accounts.items in
    let old = subst (λ (y : LedgerView). HasListRoom y p ins 0) (sym view) room in
    account_room ins us ws p (sym (keys_of ws) ∙ ap (map (λ (x : ℕ × Row). x.0)) rows ∙ keys_of us) rooms peer (old.in_room (ap (λ l. has_row l p) (sym rows) ∙ peer))

-- and one account that gets more room leaves that of the others, and its own in out
other_account : (vs : List AccountView) (p i q : ℕ) (r w : AccountView) → Found vs p i r → w.id ≡ r.id → (p == q) ≡ false → account_in (set vs i w) q ≡ account_in vs q
other_account [] p i q r w f a other = absurd f
other_account (x ∷ xs) p zero q r w f a other =
    let old : (x.id == q) ≡ false = ap (λ n. n == q) (eqb-true x.id p f.0) ∙ other in
    let new : (w.id == q) ≡ false = ap (λ n. n == q) (a ∙ ap (λ (y : AccountView). y.id) (sym f.1)) ∙ old in
    rw (new, old) refl
other_account (x ∷ xs) p (suc i) q r w f a other = by_cases (x.id == q) (λ k. rw k refl) (λ k. rw k (other_account xs p i q r w f.1 a other))

-- the two rooms of a peer
pub record HasBoth (vs : List AccountView) (p ins outs : ℕ) : Type 0 where
  pub in_room : has_row (map named_row vs) p ≡ true → ins ≤ (account_in vs p).in_room
  pub out_room : has_row (map named_row vs) p ≡ true → outs ≤ (account_in vs p).out_room

pub held_stay : (l : Inside) (v : LedgerView) (holder i count : ℕ) (r w : AccountView) (p ins outs : ℕ) → view_of l ≡ v → Some i ≡ position (λ (y : AccountView). y.id == holder) l.accounts.items → StandsAt (view_of l) i r → w.id ≡ r.id → w.row ≡ r.row → w.out_room ≡ r.out_room → count ≤ w.in_room → ins ≤ count → HasListRoom v p ins outs → HasBoth (set l.accounts.items i w) p ins outs
held_stay l v holder i count r w p ins outs view place stands id row out le few room =
    let us = l.accounts.items in
    let f = found_here us holder i r place stands in
    let ws = set us i w in
    let old = subst (λ (y : LedgerView). HasListRoom y p ins outs) (sym view) room in
    let was : has_row (map named_row ws) p ≡ true → has_row (map named_row us) p ≡ true = λ h. ap (λ l. has_row l p) (sym (same_rows us holder i r w f id row)) ∙ h in
    by_cases (holder == p)
    (λ k. let same : holder ≡ p = eqb-true holder p k in
    let now : account_in ws p ≡ w = ap (account_in ws) (sym same) ∙ found_account ws holder i w (found_after us holder i r w f id) in
    let then : account_in us p ≡ r = ap (account_in us) (sym same) ∙ found_account us holder i r f in
    record {
      in_room = λ h. subst (λ (y : AccountView). ins ≤ y.in_room) (sym now) (omega (arith, few, le));
      out_room = λ h. subst (λ (y : AccountView). outs ≤ y.out_room) (sym now) (omega (arith, out, old.out_room (was h), ap (λ (y : AccountView). y.out_room) then));
    })
    (λ k. let same : account_in ws p ≡ account_in us p = other_account us holder i p r w f id k in
    record {
      in_room = λ h. subst (λ (y : AccountView). ins ≤ y.in_room) (sym same) (old.in_room (was h));
      out_room = λ h. subst (λ (y : AccountView). outs ≤ y.out_room) (sym same) (old.out_room (was h));
    })

-- what follows from a call's Ok
pub on_ok_map : {T E : Type 0} (r : Result T E) (P Q : Type 0) → (P → Q) → OnOk r P → OnOk r Q
on_ok_map (Ok x) P Q f p = f p
on_ok_map (Err e) P Q f p = tt

-- what a Forward needs: a run in its peer's list, as before, and in that of the entry's peer
pub for_forward : (old new : LedgerView) (p ins count : ℕ) (d : Deal) (slot : ℕ) (entry : Seat) → Some d ≡ (row old.state p).pending → d.what ≡ Forward slot entry → new.state ≡ old.state → count ≡ ins + 2
    → ((q n outs : ℕ) → n ≤ count → HasListRoom old q n outs → HasListRoom new q n outs) → HasListRoom new entry.peer count 0 → HasListRoom old p ins (outs_settled (row old.state p).pending)
    → HasListRoom new p ins (outs_settled (row old.state p).pending) × HasStatesRoom new p (row new.state p).pending
for_forward old new p ins count d slot entry pending kind same more lists room was =
    let there : HasListRoom new entry.peer 2 0 = record { in_room = λ h. omega (arith, room.in_room h, more); out_room = λ h. omega arith } in
    let now : Some (record { number = d.number; what = Forward slot entry }) ≡ (row new.state p).pending = ap (λ w. Some (record { number = d.number; what = w })) (sym kind) ∙ pending ∙ ap (λ s. (row s p).pending) (sym same) in
    (lists p ins (outs_settled (row old.state p).pending) (omega (arith, more)) was, subst (HasStatesRoom new p) now there)

-- what is set when a deal is settled has room, where its lists have
pub states_room : (l : Inside) (p ins : ℕ) (o : Option Deal) → HasListRoom (view_of l) p ins (outs_settled o) → HasStatesRoom (view_of l) p o → is_peer (state_of l) p ≡ true → StatesRoom l.accounts.items p (row (state_of l) p).ins o
states_room l p ins None lists states peer = tt
states_room l p ins (Some d) lists states peer = by_what d.what lists states
  where
    by_what : (w : DealWhat) → HasListRoom (view_of l) p ins (outs_settled (Some (record { number = d.number; what = w }))) → HasStatesRoom (view_of l) p (Some (record { number = d.number; what = w })) → StatesRoom l.accounts.items p (row (state_of l) p).ins (Some (record { number = d.number; what = w }))
    by_what (Fresh name) a b = tt
    by_what (Swap name mine) a b = tt
    by_what (Cancel name theirs) a b = b
    by_what (PutBack name first) a b = tt
    by_what (Forward slot entry) a b = record { outs = a.out_room peer; ins = λ h. b.in_room h }
    by_what (Return slot) a b = a.out_room peer
