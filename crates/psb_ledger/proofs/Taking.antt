-- A chunk that may be taken against new slots, and a deal that may be refused: what the account needs, and
-- what is left.
use Rattle.std.proofs.Common.{◌≡◌, ℕ, zero, suc, ◌+◌, ◌<◌, ◌≤◌, ◌^◌, true, false, List, [], refl, sym, ap, ◌∙◌, subst, arith}
use Rattle.std.proofs.lemmas.Bool.{eqb-true, leb-true}
use Rattle.psb_bytes.specs.declared.ids.Object.TheVariants.{Chunk, Slot}
use Rattle.psb_model.specs.declared.entries.OutEntry.{OutEntry}
use Rattle.psb_model.specs.Words.{units, occurs, has, with_one, with_all, without}
use Rattle.psb_model.specs.State.{Row, row, in_key, in_size, out_key, held_units, back_units, used}
use Rattle.psb_model.specs.Conditions.{capacity, most_claims, tests}
use Rattle.psb_model.specs.Move.{still, after_move}
use Rattle.psb_model.specs.Effects.{chunk_in, own_slots, took_deal}
use Rattle.psb_model.proofs.ByObject.{sum_by-with_one, has-occurs, by_cases}
use Rattle.psb_model.proofs.Held.{chunk_stays}
use Rattle.psb_model.proofs.Steady.{allows, row_use}
use Rattle.psb_model.proofs.Bare.{changed}
use Rattle.psb_model.proofs.Steps.{parts}
use Rattle.psb_model.proofs.Tidy.{fresh_move}
use Rattle.psb_model.specs.declared.change.Change.TheVariants as change
use Rattle.psb_model.specs.declared.kinds.Refused.{Refused}
use Rattle.psb_model.specs.declared.kinds.TookFresh.{TookFresh}
use Rattle.psb_ledger.specs.declared.ledger.Ledger.TheInside.{Inside}
use Rattle.peer_account.specs.View.{AccountView, fresh_row}
use Rattle.psb_ledger.specs.View.{HasListRoom}
use Rattle.peer_lists.specs.Entries.{lacks_all}
use Rattle.peer_lists.proofs.Ordered.{is_false}
use Rattle.peer_lists.proofs.Trees.{without_none}
use Rattle.accounts.proofs.Places.{found_here, found_peer, found_account}
use Rattle.psb_ledger.proofs.OwnStays.{names_more, has_with_all}
use Rattle.psb_ledger.proofs.Sound.{state_of, view_of, good_of}
use Rattle.psb_ledger.specs.Moves.{Makes, CanTake}
use Rattle.psb_ledger.proofs.Peers.{IsAt, makes, row_of_peer, within_used, debts_stay}

-- ROWS

pub row_fresh : (name : List ℕ) (u first deal change : ℕ) (r : Row) → took_deal deal change (after_move (fresh_move first u name) r) ≡ fresh_row name u first deal change r
row_fresh name u first deal change r =
    let a : with_one in_key (chunk_in name u) (without in_key [] r.ins) ≡ with_one in_key (chunk_in name u) r.ins = ap (with_one in_key (chunk_in name u)) (without_none in_key r.ins) in
    let b : with_all out_key (own_slots first u) (without out_key [] r.outs) ≡ with_all out_key (own_slots first u) r.outs = ap (with_all out_key (own_slots first u)) (without_none out_key r.outs) in
    λ i. took_deal deal change (record r { ins = a i; outs = b i; debts = debts_stay r.debts i })

pub row_still : (deal change : ℕ) (r : Row) → took_deal deal change (after_move still r) ≡ took_deal deal change r
row_still deal change r = λ i. took_deal deal change (record r { ins = without_none in_key r.ins i; outs = without_none out_key r.outs i; debts = debts_stay r.debts i })

-- WHAT THE ACCOUNT NEEDS

-- own slots of numbers that were not drawn
lacks_own : (first u : ℕ) (outs : List OutEntry) → ((n : ℕ) → first ≤ n → occurs out_key outs (Slot n) ≡ 0) → lacks_all out_key (own_slots first u) outs ≡ true
lacks_own first zero outs free = refl
lacks_own first (suc u) outs free =
    let none : has out_key outs (Slot first) ≡ false = by_cases (has out_key outs (Slot first)) (λ k. absurd (omega (arith, free first (omega arith), has-occurs out_key outs (Slot first) k))) (λ k. k) in
    rw none (lacks_own (first + 1) u outs (λ n le. free n (omega (arith, le))))

pub can_take : (l : Inside) (x : TookFresh) (i u : ℕ) (r : AccountView) → IsAt l (change.TookFresh x) x.peer i r → HasListRoom (view_of l) x.peer 1 1 → u ≡ units x.len → CanTake (view_of l) x i u r
can_take l x i u r f room same =
    let s = state_of l in
    let c = change.TookFresh x in
    let vs = l.accounts.items in
    let at = found_here vs x.peer i r f.place f.here in
    let peer = found_peer vs x.peer i r at in
    let account = found_account vs x.peer i r at in
    let q = row_of_peer l c x.peer i r f in
    let ts = parts (tests s c) (allows s c f.may).tests in
    let tidy = ((good_of s f.sound.reached).rows x.peer).tidy in
    let first : x.first ≡ l.issued = eqb-true x.first l.issued ts.1.1.1.1.1.0 in
    let fits : used s + units x.len ≤ capacity l.settings = leb-true (used s + units x.len) (capacity l.settings) ts.1.1.1.1.0 in
    let total : used s + u < 2 ^ 32 = omega (arith, fits, same, f.sound.small) in
    let issued : l.issued + u < 2 ^ 32 = omega (arith, same, leb-true (l.issued + units x.len) most_claims ts.1.1.1.1.1.1.0) in
    let held : held_units r.row + u < 2 ^ 32 = omega (arith, total, within_used l c x.peer i r f) in
    record {
      needs = record {
        in_room = subst (λ (y : AccountView). 1 ≤ y.in_room) account (room.in_room peer);
        out_room = subst (λ (y : AccountView). 1 ≤ y.out_room) account (room.out_room peer);
        slots = omega (arith, first, issued);
        held = held;
        back = omega (arith, held, tidy.balanced, ap held_units q, ap back_units q);
        absent = ap (λ y. has in_key y.ins (Chunk x.name)) (sym q) ∙ is_false (has in_key (row s x.peer).ins (Chunk x.name)) ts.1.0;
        absent_slots = ap (λ (y : Row). lacks_all out_key (own_slots x.first u) y.outs) (sym q) ∙ lacks_own x.first u (row s x.peer).outs (λ n le. omega (arith, tidy.below n (omega (arith, first, le))));
      };
      total_small = total;
      issued_small = issued;
      made = λ w n sums a b.
          let b' : w.row ≡ fresh_row x.name (units x.len) x.first x.deal l.changes r.row = b ∙ ap (λ n. fresh_row x.name n x.first x.deal l.changes r.row) same in
          makes l c x.peer i (l.issued + u) n r w refl refl (record { settings = refl; own = refl; kept = refl; snapped = refl; chosen = refl }) f a
          (b' ∙ sym (row_fresh x.name (units x.len) x.first x.deal l.changes r.row))
          (ap (λ n. l.issued + n) same)
          (λ y n. names_more y (changed s c y) n (λ k. has_with_all (own_slots x.first (units x.len)) (without out_key [] y.outs) (Chunk n) (chunk_stays out_key [] y.outs n ∙ k)) (debts_stay y.debts) (λ k. k))
          (omega (arith, sums, ap (row_use s) b', same, sum_by-with_one in_key in_size (chunk_in x.name (units x.len)) r.row.ins));
    }

-- A REFUSAL

pub refused_one : (l : Inside) (x : Refused) (i n : ℕ) (r w : AccountView) → IsAt l (change.Refused x) x.peer i r → n ≡ used (state_of l) → w.id ≡ r.id → w.row ≡ took_deal x.deal l.changes r.row → Makes (view_of l) l.accounts.items (change.Refused x) i l.issued n w
refused_one l x i n r w f sums a b = makes l (change.Refused x) x.peer i l.issued n r w refl refl (record { settings = refl; own = refl; kept = refl; snapped = refl; chosen = refl }) f a (b ∙ sym (row_still x.deal l.changes r.row)) refl (λ y n. names_more y (changed (state_of l) (change.Refused x) y) n (λ k. chunk_stays out_key [] y.outs n ∙ k) (debts_stay y.debts) (λ k. k)) (omega (arith, sums, ap (row_use (state_of l)) b))
