-- A claim whose bytes are replaced: what the account needs, and what is left.
use Rattle.std.proofs.Common.{◌≡◌, ℕ, zero, suc, ◌+◌, ◌<◌, List, [], ◌∷◌, map, set, length, refl, sym, ap, ◌∙◌, subst, arith}
use Rattle.psb_bytes.specs.declared.ids.Object.TheVariants.{Slot}
use Rattle.psb_model.specs.declared.entries.InEntry.{InEntry}
use Rattle.psb_model.specs.declared.entries.InState.{InState}
use Rattle.psb_model.specs.declared.entries.InState.TheVariants as at
use Rattle.psb_model.specs.declared.change.Change.TheVariants as change
use Rattle.psb_model.specs.declared.kinds.Replaced.{Replaced}
use Rattle.psb_model.specs.Words.{only}
use Rattle.psb_model.specs.State.{Row, row, at_row, in_key, out_key}
use Rattle.psb_model.specs.Effects.{loose_at, loosen, relabel_in}
use Rattle.psb_model.proofs.Held.{chunk_stays}
use Rattle.psb_model.proofs.Steady.{row_use}
use Rattle.psb_model.proofs.Freed.{freed, loose_by, at_row_swap}
use Rattle.psb_model.proofs.Bare.{bare_rows, loosen_labels, changed}
use Rattle.peer_account.specs.View.{AccountView, named_row}
use Rattle.accounts.specs.Freeing.{row_at, Freed}
use Rattle.accounts.proofs.Places.{found_here, found_set, found_within}
use Rattle.accounts.proofs.Loosened.{found_row_at}
use Rattle.psb_ledger.specs.declared.ledger.Ledger.TheInside.{Inside}
use Rattle.psb_ledger.specs.View.{plain_state, HasListRoom, IsSound}
use Rattle.psb_ledger.specs.Moves.{moved, Makes, StandsIn, CanReplace, replaced_state}
use Rattle.psb_ledger.proofs.OwnStays.{names_more}
use Rattle.psb_ledger.proofs.Sound.{mine, state_of, view_of}
use Rattle.psb_ledger.proofs.Peers.{IsAt, IsFreed, keys, bare_keys, found_as, makes_in, row_of_peer, debts_stay}
use Rattle.psb_ledger.proofs.Leaving.{room_here, room_in}
use Rattle.psb_ledger.proofs.Taking.{row_still}

-- a label of what is answered for, and slots that come loose, in either order
labelled : (p n : ℕ) (st : InState) (es : List InEntry) (rows : List (ℕ × Row)) → loosen es (at_row p (relabel_in (Slot n) st) rows) ≡ at_row p (relabel_in (Slot n) st) (loosen es rows)
labelled p n st [] rows = refl
labelled p n st (e ∷ es) rows = ap (loosen es) (one e.state) ∙ labelled p n st es (loose_by e.state rows)
  where
    one : (su : InState) → loose_by su (at_row p (relabel_in (Slot n) st) rows) ≡ at_row p (relabel_in (Slot n) st) (loose_by su rows)
    one (at.Forwarded seat) = at_row_swap p seat.peer (loose_at seat.slot) (relabel_in (Slot n) st) (λ r. refl) rows
    one at.Body = refl
    one at.Direct = refl
    one (at.Home i) = refl

set_again : (vs : List AccountView) (i : ℕ) (q w : AccountView) → set (set vs i q) i w ≡ set vs i w
set_again [] i q w = refl
set_again (v ∷ vs) zero q w = refl
set_again (v ∷ vs) (suc i) q w = ap (λ l. v ∷ l) (set_again vs i q w)

set_here : (vs : List AccountView) (i : ℕ) (q : AccountView) → i < length vs → StandsIn (set vs i q) i q
set_here [] i q lt = absurd (omega (arith, lt))
set_here (v ∷ vs) zero q lt = refl
set_here (v ∷ vs) (suc i) q lt = set_here vs i q (omega (arith, lt))

pub can_replace : (l : Inside) (x : Replaced) (i : ℕ) (r q : AccountView) (vs : List AccountView) → IsAt l (change.Replaced x) x.peer i r → Freed l.accounts.items i (Slot x.slot ∷ []) vs → StandsIn vs i q → HasListRoom (view_of l) x.peer 2 0 → CanReplace (view_of l) vs x i q
can_replace l x i r q vs f loose here room =
    let s = state_of l in
    let c = change.Replaced x in
    let us = l.accounts.items in
    let at = found_here us x.peer i r f.place f.here in
    let ins_at : (row_at us i).ins ≡ (row s x.peer).ins = ap (λ (y : Row). y.ins) (sym (found_row_at us x.peer i r at) ∙ sym (row_of_peer l c x.peer i r f)) in
    let rows : map named_row vs ≡ loosen (only in_key (Slot x.slot ∷ []) (row s x.peer).ins) s.rows = loose.rows ∙ ap (λ es. loosen (only in_key (Slot x.slot ∷ []) es) s.rows) ins_at in
    let same_keys : keys (map named_row vs) ≡ keys s.rows = sym (bare_keys (map named_row vs)) ∙ ap (λ l. keys (bare_rows l)) rows ∙ ap keys (loosen_labels (only in_key (Slot x.slot ∷ []) (row s x.peer).ins) s.rows) ∙ bare_keys s.rows in
    let there = found_as us vs x.peer i r q same_keys at here in
    let f' = relabel_in (Slot x.slot) (replaced_state x) in
    let y : AccountView = record q { row = f' q.row } in
    let ws = set vs i y in
    let freed_now : map named_row ws ≡ freed s c =
    found_set vs x.peer i q y f' there refl refl
    ∙ ap (at_row x.peer f') rows
    ∙ sym (labelled x.peer x.slot (replaced_state x) (only in_key (Slot x.slot ∷ []) (row s x.peer).ins) s.rows)
    in
    let fr : IsFreed l c ws i y = record { rows = freed_now; here = set_here vs i y (found_within vs x.peer i q there) } in
    record {
      in_room = omega (arith, room_in l c x.peer i 2 0 r f room, room_here us vs x.peer i r q at here loose.rooms);
      made = λ w n sums a b.
          let made : Makes (view_of l) ws c i l.issued n w = makes_in l c x.peer i l.issued n r y w ws refl (record { settings = refl; own = refl; kept = refl; snapped = refl; chosen = refl }) f fr a
          (b ∙ sym (row_still x.deal l.changes y.row))
          refl
          (λ z m. names_more z (changed s c z) m (λ k. chunk_stays out_key [] z.outs m ∙ k) (debts_stay z.debts) (λ k. k))
          (omega (arith, sums, ap (row_use s) b)) in
          let same : moved (view_of l) ws i l.issued w l.own.items ≡ moved (view_of l) vs i l.issued w l.own.items = ap (λ zs. plain_state (l.changes + 1) l.settings zs l.issued (mine l)) (set_again vs i y w) in
          record { after_is = sym same ∙ made.after_is; sound = subst (IsSound n) same made.sound };
    }
