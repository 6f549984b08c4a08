-- A chunk that may be taken in the place of slots: what the account needs, and what is left.
use Rattle.std.proofs.Common.{◌+◌, ◌*◌, ◌≡◌, ℕ, ◌≤◌, List, [], length, sum_by, refl, sym, ap, ◌∙◌, subst, arith}
use Rattle.psb_bytes.specs.declared.ids.Object.TheVariants.{Chunk}
use Rattle.psb_model.specs.Words.{units, has, slots, with_one, without}
use Rattle.psb_model.specs.State.{Row, row, in_key, in_size, out_key, debt_size, held_units}
use Rattle.psb_model.specs.Conditions.{tests}
use Rattle.psb_model.specs.Move.{after_move}
use Rattle.psb_model.specs.Effects.{chunk_in, took_deal}
use Rattle.psb_model.proofs.Balance.{steps}
use Rattle.psb_model.proofs.Held.{chunk_stays}
use Rattle.psb_model.proofs.Steady.{allows, row_use}
use Rattle.psb_model.proofs.Bare.{changed}
use Rattle.psb_model.proofs.Steps.{parts, Step}
use Rattle.psb_model.proofs.Tidy.{swap_move, none_returned}
use Rattle.psb_model.specs.declared.change.Change.TheVariants as change
use Rattle.psb_model.specs.declared.kinds.TookSwap.{TookSwap}
use Rattle.psb_ledger.specs.declared.ledger.Ledger.TheInside.{Inside}
use Rattle.peer_account.specs.View.{AccountView, swap_row}
use Rattle.psb_ledger.specs.View.{HasListRoom}
use Rattle.peer_lists.proofs.Ordered.{is_false}
use Rattle.peer_lists.proofs.Trees.{without_none}
use Rattle.psb_ledger.proofs.OwnStays.{names_more}
use Rattle.psb_ledger.proofs.Sound.{state_of, view_of, good_of}
use Rattle.accounts.specs.Freeing.{Freed}
use Rattle.psb_ledger.specs.Moves.{StandsIn, CanSwap}
use Rattle.psb_ledger.proofs.Peers.{IsAt, makes_in, debts_stay}
use Rattle.psb_ledger.proofs.Leaving.{leaves_as, room_in}

pub row_swap : (name : List ℕ) (u : ℕ) (ns : List ℕ) (deal change : ℕ) (r : Row) → took_deal deal change (after_move (swap_move ns name u) r) ≡ swap_row name u ns deal change r
row_swap name u ns deal change r = λ i. swap_row name u ns deal change (record r { outs = without_none out_key r.outs i; debts = debts_stay r.debts i })

pub can_swap : (l : Inside) (x : TookSwap) (i u : ℕ) (r q : AccountView) (vs : List AccountView) → IsAt l (change.TookSwap x) x.peer i r → Freed l.accounts.items i (slots x.slots) vs → StandsIn vs i q → HasListRoom (view_of l) x.peer (1 + 2 * length x.slots) 0 → u ≡ units x.len → CanSwap (view_of l) vs x i u q
can_swap l x i u r q vs f loose here room same =
    let s = state_of l in
    let c = change.TookSwap x in
    let now = leaves_as l c x.peer i r q vs (slots x.slots) f loose here refl in
    let tests_hold = (allows s c f.may).tests in
    let ts = parts (tests s c) tests_hold in
    let good = good_of s f.sound.reached in
    let step : Step s c x.peer = steps s c good f.grammar tests_hold in
    let m = swap_move x.slots x.name (units x.len) in
    let moved : took_deal x.deal l.changes (after_move m (row s x.peer)) ≡ swap_row x.name u x.slots x.deal l.changes (row s x.peer) = row_swap x.name (units x.len) x.slots x.deal l.changes (row s x.peer) ∙ (λ j. swap_row x.name (sym same j) x.slots x.deal l.changes (row s x.peer)) in
    let held : held_units (swap_row x.name u x.slots x.deal l.changes q.row) ≡ held_units q.row = omega (arith, ap held_units moved, ap (λ es. sum_by in_size (with_one in_key (chunk_in x.name u) (without in_key (slots x.slots) es))) now.ins, ap (sum_by in_size) now.ins, step.tidy.balanced, (good.rows x.peer).tidy.balanced, step.weighs.back, step.weighs.debt, none_returned debt_size (row s x.peer).debts) in
    record {
      needs = record {
        in_room = subst (λ n. 1 + 2 * length x.slots ≤ n) (sym now.in_room) (room_in l c x.peer i (1 + 2 * length x.slots) 0 r f room);
        absent = ap (λ es. has in_key es (Chunk x.name)) now.ins ∙ is_false (has in_key (row s x.peer).ins (Chunk x.name)) ts.1.0;
        same = held;
      };
      made = λ w n sums a b. makes_in l c x.peer i l.issued n r q w vs refl (record { settings = refl; own = refl; kept = refl; snapped = refl; chosen = refl }) f now.freed a
          (b ∙ ap (λ n. swap_row x.name n x.slots x.deal l.changes q.row) same ∙ sym (row_swap x.name (units x.len) x.slots x.deal l.changes q.row))
          refl
          (λ y n. names_more y (changed s c y) n (λ k. chunk_stays out_key [] y.outs n ∙ k) (debts_stay y.debts) (λ k. k))
          (omega (arith, sums, ap (row_use s) b, held));
    }
