-- A chunk that may be let go against slots, or put back into slots: what the account needs, and what is left.
use Rattle.std.proofs.Common.{◌≡◌, ℕ, ◌+◌, ◌*◌, ◌≤◌, ◌<◌, ◌^◌, true, not, List, [], ◌∷◌, length, refl, sym, ap, ◌∙◌, subst, arith}
use Rattle.std.proofs.lemmas.Bool.{and_parts, eqb-true, ltb-true}
use Rattle.psb_bytes.specs.declared.ids.Object.TheVariants.{Chunk, Slot}
use Rattle.psb_model.specs.declared.entries.InEntry.{InEntry}
use Rattle.psb_model.specs.Words.{slots, has, units_at}
use Rattle.psb_model.specs.State.{Row, row, in_key, in_size, out_key, debt_size, held_units, back_units}
use Rattle.psb_model.specs.Grammar.{ascend, body_fits, numbers_listed, is_count}
use Rattle.psb_model.specs.Conditions.{tests, each_slot}
use Rattle.psb_model.specs.Move.{Move, still, after_move}
use Rattle.psb_model.specs.Effects.{direct_slots, took_deal}
use Rattle.psb_model.proofs.Balance.{steps}
use Rattle.psb_model.proofs.Held.{chunk_stays}
use Rattle.psb_model.proofs.Steady.{allows, row_use}
use Rattle.psb_model.proofs.Bare.{changed}
use Rattle.psb_model.proofs.Steps.{parts, Step}
use Rattle.psb_model.proofs.Tidy.{none_returned}
use Rattle.psb_model.specs.declared.change.Change.TheVariants as change
use Rattle.psb_model.specs.declared.kinds.LetGo.{LetGo}
use Rattle.psb_model.specs.declared.kinds.LetGoBack.{LetGoBack}
use Rattle.psb_ledger.specs.declared.ledger.Ledger.TheInside.{Inside}
use Rattle.peer_account.specs.View.{AccountView, let_go_row, put_back_row}
use Rattle.psb_ledger.specs.View.{HasListRoom}
use Rattle.peer_lists.specs.Entries.{lacks_all}
use Rattle.peer_lists.proofs.Trees.{without_none}
use Rattle.accounts.proofs.Places.{found_here, found_peer, found_account}
use Rattle.psb_ledger.proofs.OwnStays.{names_more}
use Rattle.psb_ledger.proofs.Sound.{state_of, view_of, good_of, chunk_unfreed}
use Rattle.psb_ledger.specs.Moves.{CanLetGo, CanPutBack}
use Rattle.psb_ledger.proofs.Peers.{IsAt, makes_in, row_of_peer, within_used, debts_stay}

-- the slots that a record lists can be counted
pub listed_count : (ns : List ℕ) → numbers_listed ns ≡ true → length ns < 2 ^ 32
listed_count ns h = ltb-true (length ns) (2 ^ 32) (and_parts (ascend ns) (is_count (length ns)) h).1

-- AGAINST SLOTS

abbrev let_go_move : List ℕ → List ℕ → Move
let_go_move name ns = record still { in_gone = Chunk name ∷ []; out_gone = slots ns }

pub row_let_go : (name ns : List ℕ) (deal change : ℕ) (r : Row) → took_deal deal change (after_move (let_go_move name ns) r) ≡ let_go_row name ns deal change r
row_let_go name ns deal change r = λ i. let_go_row name ns deal change (record r { debts = debts_stay r.debts i })

pub can_let_go : (l : Inside) (x : LetGo) (i u : ℕ) (r : AccountView) → IsAt l (change.LetGo x) x.peer i r → HasListRoom (view_of l) x.peer 0 (2 * length x.slots) → u ≡ length x.slots → CanLetGo (view_of l) x i u r
can_let_go l x i u r f room count =
    let s = state_of l in
    let vs = l.accounts.items in
    let at = found_here vs x.peer i r f.place f.here in
    let c = change.LetGo x in
    let q = row_of_peer l c x.peer i r f in
    let tests_hold = (allows s c f.may).tests in
    let ts = parts (tests s c) tests_hold in
    let good = good_of s f.sound.reached in
    let step : Step s c x.peer = steps s c good f.grammar tests_hold in
    let long : length x.slots ≡ units_at in_key in_size (row s x.peer).ins (Chunk x.name) = eqb-true (length x.slots) (units_at in_key in_size (row s x.peer).ins (Chunk x.name)) ts.1.1.1.1.0 in
    let moved : took_deal x.deal l.changes (after_move (let_go_move x.name x.slots) (row s x.peer)) ≡ let_go_row x.name x.slots x.deal l.changes r.row = row_let_go x.name x.slots x.deal l.changes (row s x.peer) ∙ ap (let_go_row x.name x.slots x.deal l.changes) q in
    let held : held_units (let_go_row x.name x.slots x.deal l.changes r.row) + length x.slots ≡ held_units r.row = omega (arith, ap held_units moved, ap held_units q, step.weighs.held, long) in
    record {
      needs = record {
        out_room = subst (λ (y : AccountView). 2 * length x.slots ≤ y.out_room) (found_account vs x.peer i r at) (room.out_room (found_peer vs x.peer i r at));
        held = omega (arith, held, count);
        back = omega (arith, held, count, ap held_units moved, ap back_units moved, ap held_units q, ap back_units q, step.tidy.balanced, (good.rows x.peer).tidy.balanced, step.weighs.debt, none_returned debt_size (row s x.peer).debts);
      };
      enough = omega (arith, held, count, within_used l c x.peer i r f);
      made = λ w total sums a b. makes_in l c x.peer i l.issued total r r w l.accounts.items refl (record { settings = refl; own = refl; kept = refl; snapped = refl; chosen = refl }) f (record { rows = sym (chunk_unfreed s x.peer x.name s.rows f.sound.reached); here = f.here }) a
          (b ∙ sym (row_let_go x.name x.slots x.deal l.changes r.row))
          refl
          (λ y n. names_more y (changed s c y) n (λ k. chunk_stays out_key x.slots y.outs n ∙ k) (debts_stay y.debts) (λ k. k))
          (omega (arith, ap (row_use s) b, held, count, sums));
    }

-- INTO SLOTS

abbrev put_back_move : List ℕ → List ℕ → Move
put_back_move name ns = record still { in_gone = Chunk name ∷ []; in_new = direct_slots ns }

pub row_put_back : (name ns : List ℕ) (deal change : ℕ) (r : Row) → took_deal deal change (after_move (put_back_move name ns) r) ≡ put_back_row name ns deal change r
row_put_back name ns deal change r = λ i. put_back_row name ns deal change (record r { outs = without_none out_key r.outs i; debts = debts_stay r.debts i })

-- slots that are none of the list, as entries
pub lacks_direct : (ns : List ℕ) (l : List InEntry) → each_slot (λ o. not (has in_key l o)) ns ≡ true → lacks_all in_key (direct_slots ns) l ≡ true
lacks_direct [] l h = refl
lacks_direct (n ∷ ns) l h =
    let a = and_parts (not (has in_key l (Slot n))) (each_slot (λ o. not (has in_key l o)) ns) h in
    rw a.0 (lacks_direct ns l a.1)

pub can_put_back : (l : Inside) (x : LetGoBack) (i : ℕ) (r : AccountView) → IsAt l (change.LetGoBack x) x.peer i r → HasListRoom (view_of l) x.peer (length x.slots) 0 → CanPutBack (view_of l) x i r
can_put_back l x i r f room =
    let s = state_of l in
    let c = change.LetGoBack x in
    let vs = l.accounts.items in
    let at = found_here vs x.peer i r f.place f.here in
    let q = row_of_peer l c x.peer i r f in
    let tests_hold = (allows s c f.may).tests in
    let ts = parts (tests s c) tests_hold in
    let good = good_of s f.sound.reached in
    let step : Step s c x.peer = steps s c good f.grammar tests_hold in
    let moved : took_deal x.deal l.changes (after_move (put_back_move x.name x.slots) (row s x.peer)) ≡ put_back_row x.name x.slots x.deal l.changes r.row = row_put_back x.name x.slots x.deal l.changes (row s x.peer) ∙ ap (put_back_row x.name x.slots x.deal l.changes) q in
    let held : held_units (put_back_row x.name x.slots x.deal l.changes r.row) ≡ held_units r.row = omega (arith, ap held_units moved, ap held_units q, step.tidy.balanced, (good.rows x.peer).tidy.balanced, step.weighs.back, step.weighs.debt, none_returned debt_size (row s x.peer).debts) in
    record {
      needs = record {
        in_room = subst (λ (y : AccountView). length x.slots ≤ y.in_room) (found_account vs x.peer i r at) (room.in_room (found_peer vs x.peer i r at));
        ascend = (and_parts (ascend x.slots) (is_count (length x.slots)) (and_parts (body_fits (512 * length x.slots) x.body) (numbers_listed x.slots) f.grammar).1).0;
        absent = ap (λ (y : Row). lacks_all in_key (direct_slots x.slots) y.ins) (sym q) ∙ lacks_direct x.slots (row s x.peer).ins ts.1.1.0;
        same = held;
      };
      made = λ w n sums a b. makes_in l c x.peer i l.issued n r r w l.accounts.items refl (record { settings = refl; own = refl; kept = refl; snapped = refl; chosen = refl }) f (record { rows = sym (chunk_unfreed s x.peer x.name s.rows f.sound.reached); here = f.here }) a
          (b ∙ sym (row_put_back x.name x.slots x.deal l.changes r.row))
          refl
          (λ y n. names_more y (changed s c y) n (λ k. chunk_stays out_key [] y.outs n ∙ k) (debts_stay y.debts) (λ k. k))
          (omega (arith, sums, ap (row_use s) b, held));
    }
