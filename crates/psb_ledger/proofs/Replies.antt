-- An own deal that is proposed, and its reply: what the account needs, and what is left.
use Rattle.std.proofs.Common.{◌≡◌, ℕ, zero, suc, ◌+◌, ◌*◌, ◌≤◌, ◌<◌, ◌^◌, Bool, true, false, not, ◌&&◌, List, [], ◌∷◌, map, length, get_or, Option, Some, None, refl, sym, ap, ◌∙◌, subst, arith}
use Rattle.std.specs.Prelude.{◌==◌, option_to_list, is_none}
use Rattle.std.proofs.lemmas.Bool.{and_parts, eqb-true, leb-true, false≢true}
use Rattle.psb_bytes.specs.declared.ids.Object.TheVariants.{Chunk, Slot}
use Rattle.psb_model.specs.declared.entries.OwnEntry.{OwnEntry}
use Rattle.psb_model.specs.declared.entries.OutEntry.{OutEntry}
use Rattle.psb_model.specs.declared.deals.Deal.{Deal}
use Rattle.psb_model.specs.declared.deals.DealWhat.{DealWhat}
use Rattle.psb_model.specs.declared.deals.DealWhat.TheVariants.{Fresh, Swap, Cancel, PutBack, Forward, Return}
use Rattle.psb_model.specs.declared.change.Change.TheVariants.{Proposed}
use Rattle.psb_model.specs.Words.{units, name_eq, name_listed, listed, slots, has, only, without, occurs, all_of, units_at}
use Rattle.psb_model.specs.State.{Row, State, row, in_key, in_size, out_key, out_size, own_len, own_marked, coming, held_units, used}
use Rattle.psb_model.specs.Grammar.{ascend, body_fits, numbers_listed, is_count}
use Rattle.psb_model.specs.Conditions.{tests, capacity, propose_tests, each_slot, most_claims, may_settle_row}
use Rattle.psb_model.specs.Move.{still, after_move}
use Rattle.psb_model.specs.Effects.{is_named, chunk_out, loosen, settle_states, settle_move, own_slots, deal_name, pending_name, was_turned, issued_after}
use Rattle.psb_model.proofs.ByObject.{has-occurs, by_cases}
use Rattle.psb_model.proofs.Held.{chunk_stays, has_less}
use Rattle.psb_model.proofs.Own.{name_same, name_refl}
use Rattle.psb_model.proofs.Parts.{ascend-distinct, sum-own_slots}
use Rattle.psb_model.proofs.Steps.{parts, Before}
use Rattle.psb_model.proofs.Tidy.{IsTidy, weighs, total}
use Rattle.psb_model.proofs.Rows.{Alike, tidy_alike, stands_alike}
use Rattle.psb_model.proofs.Freed.{only_none}
use Rattle.psb_model.proofs.Standing.{StandsFor, CancelStands, settle_swap_move, settle_cancel_move, settle_put_back_move, units_of_ones}
use Rattle.psb_model.proofs.Steady.{allows, row_use}
use Rattle.psb_model.proofs.Bare.{changed}
use Rattle.psb_model.specs.declared.change.Change.TheVariants as change
use Rattle.psb_model.specs.declared.kinds.Settled.{Settled}
use Rattle.psb_model.specs.declared.kinds.Turned.{Turned}
use Rattle.psb_ledger.specs.declared.ledger.Ledger.TheInside.{Inside}
use Rattle.own_deals.specs.OwnDeals.{ins_of, outs_of}
use Rattle.accounts.specs.Freeing.{row_at, StatesSet}
use Rattle.peer_account.specs.View.{AccountView, named_row, settled_deal, settled_by, settled_row, ins_settled, outs_settled}
use Rattle.psb_ledger.specs.View.{HasListRoom, HasTurnRoom}
use Rattle.accounts.specs.Table.{account_in}
use Rattle.peer_lists.specs.Entries.{in_order, lacks_all}
use Rattle.own_chunks.specs.OwnList.{own_key, released, own_units}
use Rattle.peer_account.specs.OwnDeals.{row_names, placed_name, coming_name, drawn}
use Rattle.peer_account.specs.Settling.{SettlesFresh, SettlesSwap, SettlesPutBack, SettlesDeal, Settles}
use Rattle.peer_lists.proofs.Trees.{without_none}
use Rattle.own_chunks.proofs.OwnTrees.{ordered_kept}
use Rattle.psb_ledger.proofs.OwnStays.{is_but, names_more, has_with_all}
use Rattle.accounts.proofs.Places.{Found, found_here, found_peer, found_account}
use Rattle.accounts.proofs.Loosened.{found_row_at}
use Rattle.psb_ledger.proofs.Sound.{state_of, view_of, good_of}
use Rattle.psb_ledger.specs.Moves.{StandsIn, proposing, CanPropose, CanSettle, CanTurn}
use Rattle.psb_ledger.proofs.Peers.{IsAt, IsFreed, unfreed, makes_own, released_at, sound_small, row_of_peer, use_of, debts_stay}
use Rattle.psb_ledger.proofs.Leaving.{freed_alike, room_here}
use Rattle.psb_ledger.proofs.LettingGo.{lacks_direct}

-- WHAT A DEAL NAMES

-- what a pending Fresh will use
pub coming_is : (s : State) (o : Option Deal) → coming s o ≡ own_units s.own (coming_name o)
coming_is s None = refl
coming_is s (Some d) = by_what d.what
  where
    by_what : (w : DealWhat) → coming s (Some (record { number = d.number; what = w })) ≡ own_units s.own (coming_name (Some (record { number = d.number; what = w })))
    by_what (Fresh name) = refl
    by_what (Swap name numbers) = refl
    by_what (Cancel name numbers) = refl
    by_what (PutBack name first) = refl
    by_what (Forward slot entry) = refl
    by_what (Return slot) = refl

-- a name that is not that of the deal is none of its names
other_deal : (o : Option (List ℕ)) (names : List (List ℕ)) (n : List ℕ) → option_to_list o ≡ names → is_but o n ≡ false → name_listed names n ≡ true → ⊥
other_deal None names n is other h = false≢true (ap (λ l. name_listed l n) is ∙ h)
other_deal (Some m) names n is other h =
    let listed : name_listed (m ∷ []) n ≡ true = ap (λ l. name_listed l n) is ∙ h in
    by_cases (name_eq m n)
    (λ k. false≢true (sym other ∙ ap (λ x. name_eq x m) (sym (name_same m n k)) ∙ name_refl m))
    (λ k. let bad = rw k at listed in false≢true bad)

-- own stays in order
pub ordered_released : (rows : List (ℕ × Row)) (o : Option (List ℕ)) (own : List OwnEntry) → in_order own_key own ≡ true → in_order own_key (released rows o own) ≡ true
ordered_released rows None own h = h
ordered_released rows (Some n) own h = by_cases (own_marked own n && not (is_named rows n))
    (λ k. rw k (ordered_kept (λ e. not (name_eq e.name n)) own h))
    (λ k. rw k h)

pub and_true : (b : Bool) → (b && true) ≡ b
and_true true = refl
and_true false = refl

-- A DEAL THAT IS TURNED DOWN

row_turned : (change why : ℕ) (r : Row) → was_turned change why (after_move still r) ≡ was_turned change why r
row_turned change why r = λ i. was_turned change why (record r { ins = without_none in_key r.ins i; outs = without_none out_key r.outs i; debts = debts_stay r.debts i })

pub can_turn : (l : Inside) (x : Turned) (i : ℕ) (r : AccountView) → IsAt l (change.Turned x) x.peer i r → in_order own_key l.own.items ≡ true → HasTurnRoom (view_of l) x.peer → CanTurn (view_of l) x i r
can_turn l x i r f ordered room =
    let s = state_of l in
    let c = change.Turned x in
    let vs = l.accounts.items in
    let at = found_here vs x.peer i r f.place f.here in
    let peer = found_peer vs x.peer i r at in
    let account = found_account vs x.peer i r at in
    record {
      barred = subst (λ (y : AccountView). 1 ≤ y.barred_room) account (room.barred peer);
      cancels = subst (λ (y : AccountView). 1 ≤ y.cancel_room) account (room.cancels peer);
      enough = omega (arith, use_of l c x.peer i r f, coming_is s r.row.pending);
      made = λ w o total own is sums own_is a b.
          let b' : w.row ≡ changed s c r.row = b ∙ sym (row_turned l.changes x.why r.row) in
          let names : (n : List ℕ) → is_but o n ≡ false → row_names r.row n ≡ true → row_names (changed s c r.row) n ≡ true = λ n other h. names_more r.row (changed s c r.row) n (λ k. chunk_stays out_key [] r.row.outs n ∙ k) (debts_stay r.row.debts) (λ k. absurd (other_deal o (pending_name deal_name r.row.pending) n is other k)) h in
          makes_own l c x.peer i l.issued total r r w l.accounts.items own refl (record { settings = refl; own = refl; kept = refl; snapped = refl; chosen = refl }) f (unfreed l c i x.peer r refl f) a b' refl
          (omega (arith, sums, coming_is s r.row.pending, ap (row_use s) b))
          (own_is ∙ released_at l c x.peer i r r w l.accounts.items o f (unfreed l c i x.peer r refl f) a b' ordered names);
    }

-- A DEAL THAT IS SETTLED

-- what settles a row, with the units of its own deal
pub coming_own : (s : State) (p u : ℕ) (r : Row) → row s p ≡ r → u ≡ own_units s.own (coming_name r.pending) → u ≡ coming s (row s p).pending
coming_own s p u r q e = e ∙ sym (coming_is s r.pending) ∙ ap (λ (y : Row). coming s y.pending) (sym q)

-- the row after what the deal moves
row_settled : (s : State) (r : Row) (o : Option Deal) (u : ℕ) (ns : List ℕ) → u ≡ own_units s.own (placed_name o) → record (after_move (settle_move s r o ns) r) { pending = None } ≡ settled_by u ns r o
row_settled s r None u ns e = λ i. record r { pending = None; ins = without_none in_key r.ins i; outs = without_none out_key r.outs i; debts = debts_stay r.debts i }
row_settled s r (Some d) u ns e = by_what d.what e
  where
    by_what : (w : DealWhat) → u ≡ own_units s.own (placed_name (Some (record { number = d.number; what = w }))) → record (after_move (settle_move s r (Some (record { number = d.number; what = w })) ns) r) { pending = None } ≡ settled_by u ns r (Some (record { number = d.number; what = w }))
    by_what (Fresh name) e = λ i. settled_deal (sym e i) ns (record r { pending = None; ins = without_none in_key r.ins i; outs = without_none out_key r.outs i; debts = debts_stay r.debts i }) (Fresh name)
    by_what (Swap name numbers) e = λ i. settled_deal (sym e i) ns (record r { pending = None; ins = without_none in_key r.ins i; debts = debts_stay r.debts i }) (Swap name numbers)
    by_what (Cancel name theirs) e = λ i. settled_deal u ns (record r { pending = None; debts = debts_stay r.debts i }) (Cancel name theirs)
    by_what (PutBack name first) e = λ i. settled_deal u ns (record r { pending = None; ins = without_none in_key r.ins i; debts = debts_stay r.debts i }) (PutBack name first)
    by_what (Forward slot entry) e = λ i. record r { pending = None; ins = without_none in_key r.ins i; outs = without_none out_key r.outs i; debts = debts_stay r.debts i }
    by_what (Return slot) e = λ i. record r { pending = None; ins = without_none in_key r.ins i; outs = without_none out_key r.outs i; debts = debts_stay r.debts i }

-- own slots of numbers that stand nowhere
lacks_range : (first u : ℕ) (outs : List OutEntry) → ((n : ℕ) → first ≤ n → n < first + u → occurs out_key outs (Slot n) ≡ 0) → lacks_all out_key (own_slots first u) outs ≡ true
lacks_range first zero outs free = refl
lacks_range first (suc u) outs free =
    let none : has out_key outs (Slot first) ≡ false = by_cases (has out_key outs (Slot first)) (λ k. absurd (omega (arith, free first (omega arith) (omega arith), has-occurs out_key outs (Slot first) k))) (λ k. k) in
    rw none (lacks_range (first + 1) u outs (λ n le lt. free n (omega (arith, le)) (omega (arith, lt))))

absent_out : (r : Row) (name : List ℕ) → total r (Chunk name) ≡ 0 → has out_key r.outs (Chunk name) ≡ false
absent_out r name h = by_cases (has out_key r.outs (Chunk name)) (λ k. absurd (omega (arith, h, has-occurs out_key r.outs (Chunk name) k))) (λ k. k)

-- what the account needs
pub settles_deal : (issued : ℕ) (own : List OwnEntry) (v : AccountView) (d : Deal) (u : ℕ) (ns : List ℕ) → IsTidy issued v.row → StandsFor issued own v.row d.what → may_settle_row (own_units own (coming_name (Some d))) v.row (Some d) ns ≡ true → ascend ns ≡ true → length ns + ins_settled (Some d) ≤ v.in_room → outs_settled (Some d) ≤ v.out_room → u ≡ own_units own (placed_name (Some d)) → held_units v.row + own_units own (coming_name (Some d)) < 2 ^ 32 → issued < 2 ^ 32 → SettlesDeal v u ns d.what
settles_deal issued own v d u ns tidy stands may asc ins outs uis fits small = by_what d.what stands may ins outs uis fits
  where
    deal : DealWhat → Deal
    deal w = record { number = d.number; what = w }

    by_what : (w : DealWhat) → StandsFor issued own v.row w → may_settle_row (own_units own (coming_name (Some (deal w)))) v.row (Some (deal w)) ns ≡ true → length ns + ins_of w ≤ v.in_room → outs_of w ≤ v.out_room → u ≡ own_units own (placed_name (Some (deal w))) → held_units v.row + own_units own (coming_name (Some (deal w))) < 2 ^ 32 → SettlesDeal v u ns w
    by_what (Fresh name) st may ins outs uis fits =
        let both = and_parts (length ns == units (own_len own name)) (each_slot (λ o. not (has in_key v.row.ins o)) ns) may in
        let long : length ns ≡ units (own_len own name) = eqb-true (length ns) (units (own_len own name)) both.0 in
        record {
          in_room = omega (arith, ins);
          out_room = outs;
          ascends = asc;
          absent = absent_out v.row name st;
          free = lacks_direct ns v.row.ins both.1;
          held = omega (arith, long, fits);
          back = omega (arith, fits, uis, tidy.balanced);
        }
    by_what (Swap name numbers) st may ins outs uis fits =
        let w = weighs v.row (settle_swap_move name u numbers) refl (ascend-distinct numbers st.ascends) (omega arith) in
        record {
          out_room = outs;
          absent = absent_out v.row name st.absent;
          same = omega (arith, w.back, units_of_ones out_key out_size v.row.outs numbers tidy.outs_ones st.here, st.long, uis);
        }
    by_what (Cancel name theirs) st may ins outs uis fits =
        let w = weighs v.row (settle_cancel_move name theirs) (ascend-distinct theirs st.ascends) refl (omega arith) in
        record {
          in_room = omega (arith, ins);
          held = omega (arith, w.held, units_of_ones in_key in_size v.row.ins theirs tidy.ins_ones st.here);
          back = omega (arith, w.back, st.long);
        }
    by_what (PutBack name first) st may ins outs uis fits =
        let n = units_at out_key out_size v.row.outs (Chunk name) in
        let w = weighs v.row (settle_put_back_move name first n) refl refl (omega arith) in
        record {
          out_room = outs;
          numbers = omega (arith, st.drawn, small);
          free = lacks_range first n v.row.outs (λ m le lt. omega (arith, st.free m le lt));
          same = omega (arith, w.back, sum-own_slots first n);
        }
    by_what (Forward slot entry) st may ins outs uis fits = tt
    by_what (Return slot) st may ins outs uis fits = tt

-- a chunk of another name stays
still_there : (o : Option (List ℕ)) (name : List ℕ) (outs : List OutEntry) (n : List ℕ) → option_to_list o ≡ name ∷ [] → is_but o n ≡ false → has out_key outs (Chunk n) ≡ true → has out_key (without out_key (Chunk name ∷ []) outs) (Chunk n) ≡ true
still_there o name outs n is other k =
    let none : name_listed (name ∷ []) n ≡ false = by_cases (name_listed (name ∷ []) n) (λ j. absurd (other_deal o (name ∷ []) n is other j)) (λ j. j) in
    let gone : listed (Chunk name ∷ []) (Chunk n) ≡ false = none in
    has_less out_key (Chunk name ∷ []) outs (Chunk n) ∙ rw (k, gone) refl

-- the chunks that are there but for that of the deal
settled_names : (r r' : Row) (o : Option (List ℕ)) (d : Option Deal) (u : ℕ) (ns : List ℕ) → r.pending ≡ d → r' ≡ settled_by u ns r d → option_to_list o ≡ pending_name deal_name d → (n : List ℕ) → is_but o n ≡ false → row_names r n ≡ true → row_names r' n ≡ true
settled_names r r' o None u ns e is named n other h = ap (λ y. row_names y n) is ∙ names_more r (record r { pending = None }) n (λ k. k) refl (λ k. absurd (other_deal o (pending_name deal_name r.pending) n (named ∙ ap (pending_name deal_name) (sym e)) other k)) h
settled_names r r' o (Some d) u ns e is named n other h = ap (λ y. row_names y n) is ∙ by_what d.what named e
  where
    deal : DealWhat → Deal
    deal w = record { number = d.number; what = w }

    not_named : (w : DealWhat) → option_to_list o ≡ pending_name deal_name (Some (deal w)) → r.pending ≡ Some (deal w) → name_listed (pending_name deal_name r.pending) n ≡ true → ⊥
    not_named w named e k = other_deal o (pending_name deal_name r.pending) n (named ∙ ap (pending_name deal_name) (sym e)) other k

    by_what : (w : DealWhat) → option_to_list o ≡ pending_name deal_name (Some (deal w)) → r.pending ≡ Some (deal w) → row_names (settled_deal u ns (record r { pending = None }) w) n ≡ true
    by_what (Fresh name) named e = names_more r (settled_deal u ns (record r { pending = None }) (Fresh name)) n (λ k. has_with_all (chunk_out name u ∷ []) r.outs (Chunk n) k) refl (λ k. absurd (not_named (Fresh name) named e k)) h
    by_what (Swap name numbers) named e = names_more r (settled_deal u ns (record r { pending = None }) (Swap name numbers)) n (λ k. has_with_all (chunk_out name u ∷ []) (without out_key (slots numbers) r.outs) (Chunk n) (chunk_stays out_key numbers r.outs n ∙ k)) refl (λ k. absurd (not_named (Swap name numbers) named e k)) h
    by_what (Cancel name theirs) named e = names_more r (settled_deal u ns (record r { pending = None }) (Cancel name theirs)) n (λ k. still_there o name r.outs n named other k) refl (λ k. absurd (not_named (Cancel name theirs) named e k)) h
    by_what (PutBack name first) named e =
        let v = units_at out_key out_size r.outs (Chunk name) in
        names_more r (settled_deal u ns (record r { pending = None }) (PutBack name first)) n (λ k. has_with_all (own_slots first v) (without out_key (Chunk name ∷ []) r.outs) (Chunk n) (still_there o name r.outs n named other k)) refl (λ k. absurd (not_named (PutBack name first) named e k)) h
    by_what (Forward slot entry) named e = names_more r (record r { pending = None }) n (λ k. k) refl (λ k. absurd (not_named (Forward slot entry) named e k)) h
    by_what (Return slot) named e = names_more r (record r { pending = None }) n (λ k. k) refl (λ k. absurd (not_named (Return slot) named e k)) h

-- the move looks at what is there by objects and units alone
move_alike : (s : State) (r r' : Row) (o : Option Deal) (ns : List ℕ) → Alike r r' → settle_move s r o ns ≡ settle_move s r' o ns
move_alike s r r' None ns a = refl
move_alike s r r' (Some d) ns a = by_what d.what
  where
    by_what : (w : DealWhat) → settle_move s r (Some (record { number = d.number; what = w })) ns ≡ settle_move s r' (Some (record { number = d.number; what = w })) ns
    by_what (Fresh name) = refl
    by_what (Swap name mine) = refl
    by_what (Cancel name theirs) = refl
    by_what (PutBack name first) = ap (λ n. settle_put_back_move name first n) (sym (a.sizes (Chunk name)))
    by_what (Forward slot entry) = refl
    by_what (Return slot) = refl

-- the accounts in which the deal has set its states are those of the definition
states_are : (s : State) (vs ws : List AccountView) (p i : ℕ) (r : Row) (o : Option Deal) (ns : List ℕ) → (row_at vs i).ins ≡ r.ins → s.rows ≡ map named_row vs → StatesSet vs p i o ws → map named_row ws ≡ loosen (only in_key (settle_move s r o ns).in_gone r.ins) (settle_states p o s.rows)
states_are s vs ws p i r None ns ins rows set = ap (map named_row) set ∙ sym rows ∙ sym (ap (λ es. loosen es s.rows) (only_none in_key r.ins))
states_are s vs ws p i r (Some d) ns ins rows set = by_what d.what set
  where
    by_what : (w : DealWhat) → StatesSet vs p i (Some (record { number = d.number; what = w })) ws → map named_row ws ≡ loosen (only in_key (settle_move s r (Some (record { number = d.number; what = w })) ns).in_gone r.ins) (settle_states p (Some (record { number = d.number; what = w })) s.rows)
    by_what (Fresh name) k = ap (map named_row) k ∙ sym rows ∙ sym (ap (λ es. loosen es s.rows) (only_none in_key r.ins))
    by_what (Swap name mine) k = ap (map named_row) k ∙ sym rows ∙ sym (ap (λ es. loosen es s.rows) (only_none in_key r.ins))
    by_what (Cancel name theirs) k = k.rows ∙ ap (λ es. loosen (only in_key (slots theirs) es) (map named_row vs)) ins ∙ ap (loosen (only in_key (slots theirs) r.ins)) (sym rows)
    by_what (PutBack name first) k = ap (map named_row) k ∙ sym rows ∙ sym (ap (λ es. loosen es s.rows) (only_none in_key r.ins))
    by_what (Forward slot entry) k = k ∙ ap (settle_states p (Some (record { number = d.number; what = Forward slot entry }))) (sym rows) ∙ sym (ap (λ es. loosen es (settle_states p (Some (record { number = d.number; what = Forward slot entry })) s.rows)) (only_none in_key r.ins))
    by_what (Return slot) k = k ∙ ap (settle_states p (Some (record { number = d.number; what = Return slot }))) (sym rows) ∙ sym (ap (λ es. loosen es (settle_states p (Some (record { number = d.number; what = Return slot })) s.rows)) (only_none in_key r.ins))

-- the account is the one that stood there, but for a deal that sets states; and for a Cancel it has its room
same_account : (vs : List AccountView) (p i : ℕ) (r q : AccountView) → Found vs p i r → StandsIn vs i q → r ≡ q
same_account [] p i r q f at = absurd f
same_account (v ∷ vs) p zero r q f at = sym f.1 ∙ sym at
same_account (v ∷ vs) p (suc i) r q f at = same_account vs p i r q f.1 at

-- what the account needs, once the deal has set its states
settles_now : (issued : ℕ) (own : List OwnEntry) (vs ws : List AccountView) (p i : ℕ) (r q : AccountView) (o : Option Deal) (u : ℕ) (ns : List ℕ) → StatesSet vs p i o ws → Found vs p i r → StandsIn ws i q → Alike r.row q.row
    → Settles r u ns o → (length ns + ins_settled o ≤ r.in_room) → IsTidy issued r.row → ((d : Deal) → o ≡ Some d → StandsFor issued own r.row d.what) → Settles q u ns o
settles_now issued own vs ws p i r q None u ns set f at alike was room tidy stands = tt
settles_now issued own vs ws p i r q (Some d) u ns set f at alike was room tidy stands = by_what d.what set was room (stands d refl)
  where
    by_what : (w : DealWhat) → StatesSet vs p i (Some (record { number = d.number; what = w })) ws → SettlesDeal r u ns w → length ns + ins_of w ≤ r.in_room → StandsFor issued own r.row w → SettlesDeal q u ns w
    by_what (Fresh name) k needs le st = subst (λ (v : AccountView). SettlesFresh v u ns name) (same_account vs p i r q f (at ∙ ap (λ l. get_or l i q) k)) needs
    by_what (Swap name mine) k needs le st = subst (λ (v : AccountView). SettlesSwap v u name mine) (same_account vs p i r q f (at ∙ ap (λ l. get_or l i q) k)) needs
    by_what (Cancel name theirs) k needs le st =
        let stands_now : CancelStands q.row name theirs = stands_alike issued own r.row q.row (Cancel name theirs) alike st in
        let tidy_now : IsTidy issued q.row = tidy_alike issued r.row q.row alike tidy in
        let w = weighs q.row (settle_cancel_move name theirs) (ascend-distinct theirs stands_now.ascends) refl (omega arith) in
        record {
          in_room = omega (arith, le, room_here vs ws p i r q f at k.rooms);
          held = omega (arith, w.held, units_of_ones in_key in_size q.row.ins theirs tidy_now.ins_ones stands_now.here);
          back = omega (arith, w.back, stands_now.long);
        }
    by_what (PutBack name first) k needs le st = subst (λ (v : AccountView). SettlesPutBack v name first (units_at out_key out_size v.row.outs (Chunk name))) (same_account vs p i r q f (at ∙ ap (λ l. get_or l i q) k)) needs
    by_what (Forward slot entry) k needs le st = tt
    by_what (Return slot) k needs le st = tt

pub can_settle : (l : Inside) (x : Settled) (i u : ℕ) (r q : AccountView) (vs : List AccountView) → IsAt l (change.Settled x) x.peer i r → StatesSet l.accounts.items x.peer i (row_at l.accounts.items i).pending vs → StandsIn vs i q → in_order own_key l.own.items ≡ true → HasListRoom (view_of l) x.peer (length x.slots + ins_settled (row (state_of l) x.peer).pending) (outs_settled (row (state_of l) x.peer).pending) → l.issued < 2 ^ 32 → u ≡ own_units l.own.items (placed_name q.row.pending) → CanSettle (view_of l) vs x i u q
can_settle l x i u r q vs f set here ordered room small uis' =
    let s = state_of l in
    let c = change.Settled x in
    let us = l.accounts.items in
    let at = found_here us x.peer i r f.place f.here in
    let peer = found_peer us x.peer i r at in
    let account = found_account us x.peer i r at in
    let was : row s x.peer ≡ r.row = row_of_peer l c x.peer i r f in
    let row_there : row_at us i ≡ row s x.peer = sym (found_row_at us x.peer i r at) ∙ sym was in
    let set' : StatesSet us x.peer i (row s x.peer).pending vs = subst (λ (y : Row). StatesSet us x.peer i y.pending vs) row_there set in
    let fr : IsFreed l c vs i q = record { rows = states_are s us vs x.peer i (row s x.peer) (row s x.peer).pending x.slots (ap (λ (y : Row). y.ins) row_there) refl set'; here = here } in
    let alike : Alike (row s x.peer) q.row = freed_alike l c x.peer i r q vs f fr in
    let uis : u ≡ own_units l.own.items (placed_name r.row.pending) = uis' ∙ ap (λ o. own_units l.own.items (placed_name o)) (alike.pending ∙ ap (λ (y : Row). y.pending) was) in
    let ts = parts (tests s c) (allows s c f.may).tests in
    let asc : ascend x.slots ≡ true = (and_parts (ascend x.slots) (is_count (length x.slots)) (and_parts (body_fits (512 * length x.slots) x.body) (numbers_listed x.slots) f.grammar).1).0 in
    let before : held_units r.row + own_units l.own.items (coming_name r.row.pending) ≤ used s = omega (arith, use_of l c x.peer i r f, coming_is s r.row.pending) in
    let used_small : used s < 2 ^ 32 = omega (arith, f.sound.used_is, sound_small l.used s f.sound) in
    let ins : length x.slots + ins_settled r.row.pending ≤ r.in_room = subst (λ (y : AccountView). length x.slots + ins_settled r.row.pending ≤ y.in_room) account (subst (λ (y : Row). length x.slots + ins_settled y.pending ≤ (account_in us x.peer).in_room) was (room.in_room peer)) in
    let outs : outs_settled r.row.pending ≤ r.out_room = subst (λ (y : AccountView). outs_settled r.row.pending ≤ y.out_room) account (subst (λ (y : Row). outs_settled y.pending ≤ (account_in us x.peer).out_room) was (room.out_room peer)) in
    let b : Before s x.peer = (good_of s f.sound.reached).rows x.peer in
    let tidy : IsTidy l.issued r.row = subst (IsTidy l.issued) was b.tidy in
    let may : may_settle_row (own_units s.own (coming_name r.row.pending)) r.row r.row.pending x.slots ≡ true = ap (λ n. may_settle_row n r.row r.row.pending x.slots) (sym (coming_is s r.row.pending)) ∙ ap (λ (y : Row). may_settle_row (coming s y.pending) y y.pending x.slots) (sym was) ∙ ts.1.0 in
    let was_settling : Settles r u x.slots r.row.pending = needs_of s r u x.slots r.row.pending refl was b tidy may asc ins outs uis (omega (arith, before, used_small)) small in
    let pending_now : r.row.pending ≡ q.row.pending = ap (λ (y : Row). y.pending) (sym was) ∙ sym alike.pending in
    record {
      needs = subst (Settles q u x.slots) pending_now
          (settles_now l.issued l.own.items us vs x.peer i r q r.row.pending u x.slots (subst (λ (y : Row). StatesSet us x.peer i y.pending vs) was set') at here (subst (λ (y : Row). Alike y q.row) was alike)
          was_settling ins tidy (λ d e. subst (λ (y : Row). StandsFor l.issued l.own.items y d.what) was (b.stands d (ap (λ (y : Row). y.pending) was ∙ e))));
      before = omega (arith, before, alike.held, ap held_units was, ap (λ o. own_units l.own.items (coming_name o)) pending_now);
      small = used_small;
      made = λ w o total own is sums own_is a e.
          let row_is : changed s c q.row ≡ settled_row u x.slots q.row =
          ap (λ m. record (after_move m q.row) { pending = None }) (move_alike s (row s x.peer) q.row (row s x.peer).pending x.slots alike)
          ∙ ap (λ d. record (after_move (settle_move s q.row d x.slots) q.row) { pending = None }) (sym alike.pending)
          ∙ row_settled s q.row q.row.pending u x.slots uis' in
          let e' : w.row ≡ changed s c q.row = e ∙ sym row_is in
          makes_own l c x.peer i l.issued total r q w vs own refl (record { settings = refl; own = refl; kept = refl; snapped = refl; chosen = refl }) f fr a e' refl
          (omega (arith, sums, coming_is s q.row.pending, settled_use s w.row (ap (λ (y : Row). y.pending) e')))
          (own_is ∙ released_at l c x.peer i r q w vs o f fr a e' ordered (settled_names q.row (changed s c q.row) o q.row.pending u x.slots refl row_is is));
    }
  where
    settled_use : (s : State) (y : Row) → y.pending ≡ None → row_use s y ≡ held_units y
    settled_use s y h = omega (arith, ap (coming s) h)

    needs_of : (s : State) (r : AccountView) (u : ℕ) (ns : List ℕ) (o : Option Deal) → r.row.pending ≡ o → row s x.peer ≡ r.row → Before s x.peer → IsTidy s.issued r.row → may_settle_row (own_units s.own (coming_name o)) r.row o ns ≡ true → ascend ns ≡ true → length ns + ins_settled o ≤ r.in_room → outs_settled o ≤ r.out_room → u ≡ own_units s.own (placed_name o) → held_units r.row + own_units s.own (coming_name o) < 2 ^ 32 → s.issued < 2 ^ 32 → Settles r u ns o
    needs_of s r u ns None e was b tidy may asc ins outs uis fits small = tt
    needs_of s r u ns (Some d) e was b tidy may asc ins outs uis fits small =
        let stands : StandsFor s.issued s.own r.row d.what = subst (λ (y : Row). StandsFor s.issued s.own y d.what) was (b.stands d (ap (λ (y : Row). y.pending) was ∙ e)) in
        settles_deal s.issued s.own r d u ns tidy stands may asc ins outs uis fits small

-- A DEAL THAT IS PROPOSED

row_proposed : (d : Deal) (r : Row) → record (after_move still r) { pending = Some d; mine = d.number } ≡ record r { pending = Some d; mine = d.number }
row_proposed d r = λ i. record r { ins = without_none in_key r.ins i; outs = without_none out_key r.outs i; debts = debts_stay r.debts i; pending = Some d; mine = d.number }

drawn_is : (s : State) (p : ℕ) (d : Deal) → s.issued + drawn (row s p) d.what ≡ issued_after s (proposing p d)
drawn_is s p d = by_what d.what
  where
    by_what : (w : DealWhat) → s.issued + drawn (row s p) w ≡ issued_after s (Proposed (record { peer = p; deal = d.number; what = w }))
    by_what (Fresh name) = omega arith
    by_what (Swap name numbers) = omega arith
    by_what (Cancel name numbers) = omega arith
    by_what (PutBack name first) = refl
    by_what (Forward slot entry) = omega arith
    by_what (Return slot) = omega arith

drawn_fits : (s : State) (p : ℕ) (w : DealWhat) → all_of (propose_tests s p w) ≡ true → s.issued < 2 ^ 32 → s.issued + drawn (row s p) w < 2 ^ 32
drawn_fits s p (PutBack name first) h small =
    let ts = parts (propose_tests s p (PutBack name first)) h in
    let fits = leb-true (s.issued + units_at out_key out_size (row s p).outs (Chunk name)) most_claims ts.1.1.1.1.0 in
    omega (arith, fits)
drawn_fits s p (Fresh name) h small = omega (arith, small)
drawn_fits s p (Swap name numbers) h small = omega (arith, small)
drawn_fits s p (Cancel name numbers) h small = omega (arith, small)
drawn_fits s p (Forward slot entry) h small = omega (arith, small)
drawn_fits s p (Return slot) h small = omega (arith, small)

fits_deal : (s : State) (p : ℕ) (w : DealWhat) → all_of (propose_tests s p w) ≡ true → capacity s.settings < 2 ^ 32 → used s < 2 ^ 32 → used s + own_units s.own (coming_name (Some (record { number = 0; what = w }))) < 2 ^ 32
fits_deal s p (Fresh name) h most small =
    let ts = parts (propose_tests s p (Fresh name)) h in
    omega (arith, most, leb-true (used s + units (own_len s.own name)) (capacity s.settings) ts.1.0)
fits_deal s p (Swap name numbers) h most small = omega (arith, small)
fits_deal s p (Cancel name numbers) h most small = omega (arith, small)
fits_deal s p (PutBack name first) h most small = omega (arith, small)
fits_deal s p (Forward slot entry) h most small = omega (arith, small)
fits_deal s p (Return slot) h most small = omega (arith, small)

no_deal : (o : Option Deal) → is_none o ≡ true → o ≡ None
no_deal None h = refl
no_deal (Some d) h = absurd (false≢true h)

pub can_propose : (l : Inside) (p : ℕ) (d : Deal) (i : ℕ) (r : AccountView) → IsAt l (proposing p d) p i r → in_order own_key l.own.items ≡ true → l.issued < 2 ^ 32 → CanPropose (view_of l) p d i r
can_propose l p d i r f ordered small =
    let s = state_of l in
    let c = proposing p d in
    let q : row s p ≡ r.row = row_of_peer l c p i r f in
    let ts = parts (tests s c) (allows s c f.may).tests in
    let none : r.row.pending ≡ None = ap (λ (y : Row). y.pending) (sym q) ∙ no_deal (row s p).pending ts.1.0 in
    record {
      total_small = omega (arith, fits_deal s p d.what ts.1.1.0 f.sound.small (omega (arith, f.sound.used_is, sound_small l.used s f.sound)));
      issued_small = omega (arith, drawn_fits s p d.what ts.1.1.0 small, ap (λ (y : Row). drawn y d.what) q);
      made = λ w n m sums issued a b.
          let b' : w.row ≡ changed s c r.row = b ∙ sym (row_proposed d r.row) in
          let names : (n : List ℕ) → is_but None n ≡ false → row_names r.row n ≡ true → row_names (changed s c r.row) n ≡ true = λ n other h. names_more r.row (changed s c r.row) n (λ k. chunk_stays out_key [] r.row.outs n ∙ k) (debts_stay r.row.debts) (λ k. absurd (false≢true (ap (λ o. name_listed (pending_name deal_name o) n) (sym none) ∙ k))) h in
          makes_own l c p i m n r r w l.accounts.items l.own.items refl (record { settings = refl; own = refl; kept = refl; snapped = refl; chosen = refl }) f (unfreed l c i p r refl f) a b'
          (omega (arith, issued, drawn_is s p d, ap (λ (y : Row). drawn y d.what) q))
          (omega (arith, sums, coming_is s (Some d), ap (coming s) none, ap (row_use s) b))
          (released_at l c p i r r w l.accounts.items None f (unfreed l c i p r refl f) a b' ordered names);
    }
