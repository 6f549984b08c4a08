-- A probe and its outcomes: what the account needs, and what is left. What is answered for stays, and a name that
-- stands there or is owed does so still.
use Rattle.std.proofs.Common.{◌≡◌, ℕ, ◌+◌, ◌*◌, ◌≤◌, ◌<◌, ◌^◌, Bool, true, false, not, ◌||◌, List, [], ◌∷◌, ◌++◌, length, filter, Option, Some, None, refl, sym, ap, ◌∙◌, subst, arith, append-nil}
use Rattle.std.specs.Prelude.{◌==◌, slice_get, option_to_list}
use Rattle.psb_bytes.specs.declared.ids.Object.{Object}
use Rattle.psb_bytes.specs.declared.ids.Object.TheVariants.{Chunk}
use Rattle.psb_model.specs.declared.change.Change.{Change}
use Rattle.psb_model.specs.declared.change.Change.TheVariants as change
use Rattle.psb_model.specs.declared.kinds.Asked.{Asked}
use Rattle.psb_model.specs.declared.kinds.Passed.{Passed}
use Rattle.psb_model.specs.declared.kinds.Failed.{Failed}
use Rattle.psb_model.specs.declared.kinds.Declined.{Declined}
use Rattle.psb_model.specs.Words.{name_listed, objects_distinct, has, with_all, without}
use Rattle.psb_model.specs.State.{Row, row, in_key, out_key, debt_key, held_units, back_units, debt_units, coming, used}
use Rattle.psb_model.specs.Conditions.{peer_of, at_places, asked_objects, objects_at}
use Rattle.psb_model.specs.Move.{after_move, still}
use Rattle.psb_model.specs.Effects.{loses, regains, lost_rows, is_whole_listed, was_passed, was_failed, failed_again, deal_name, pending_name, issued_after}
use Rattle.psb_model.proofs.ByObject.{by_cases}
use Rattle.psb_model.proofs.Parts.{numbers_ascend, objects_apart}
use Rattle.psb_model.proofs.Balance.{declined_distinct}
use Rattle.psb_model.proofs.Lent.{lent}
use Rattle.psb_model.proofs.Passing.{releases, noted_lent, row_lends}
use Rattle.psb_model.proofs.Bare.{changed}
use Rattle.psb_model.proofs.Freed.{frees_none}
use Rattle.psb_ledger.specs.declared.ledger.Ledger.TheInside.{Inside}
use Rattle.peer_account.specs.OwnDeals.{row_names}
use Rattle.peer_account.specs.View.{AccountView, asked_row, passed_row, lost_row, failed_row, declined_row, out_anew}
use Rattle.peer_account.specs.Probing.{StandOnce}
use Rattle.psb_ledger.specs.View.{HasListRoom, HasDebtRoom}
use Rattle.peer_lists.specs.Entries.{in_order}
use Rattle.peer_lists.proofs.Trees.{without_none}
use Rattle.own_chunks.specs.OwnList.{own_key}
use Rattle.psb_ledger.specs.Moves.{Makes, CanPass, CanFail, CanDecline}
use Rattle.accounts.proofs.Places.{found_here, found_peer, found_account}
use Rattle.psb_ledger.proofs.Sound.{state_of, view_of, good_of}
use Rattle.psb_ledger.proofs.Peers.{IsAt, IsOfRows, unfreed, makes_own, released_at, row_of_peer, within_used, sound_small, debts_stay, kept_all}

-- ---- what such a change leaves

or_less : (a b c a' b' : Bool) → ((a || b) ≡ true → (a' || b') ≡ true) → (a || b || c) ≡ true → (a' || b' || c) ≡ true
or_less true b c a' b' f h = rw (f refl) refl
or_less false true c a' b' f h = rw (f refl) refl
or_less false false c a' b' f h = rw h (last (a' || b'))
  where
    last : (x : Bool) → (x || true) ≡ true
    last true = refl
    last false = refl

-- a change of a peer that moves nothing of what is answered for, and whose row still names what it named
pub makes_lent : (l : Inside) (c : Change) (p i total : ℕ) (r w : AccountView) → frees_none c ≡ true → peer_of c ≡ Some p → IsOfRows (state_of l) c → IsAt l c p i r → in_order own_key l.own.items ≡ true → releases (state_of l) c ≡ false → (changed (state_of l) c r.row).pending ≡ r.row.pending → held_units w.row ≡ held_units r.row → l.issued ≡ issued_after (state_of l) c → total ≡ used (state_of l) → w.id ≡ r.id → w.row ≡ changed (state_of l) c r.row → Makes (view_of l) l.accounts.items c i l.issued total w
makes_lent l c p i total r w none peer beside f ordered stays pending held drawn sums same row_is =
    let s = state_of l in
    let q = row_of_peer l c p i r f in
    let deals : w.row.pending ≡ r.row.pending = ap (λ (y : Row). y.pending) row_is ∙ pending in
    let names : (n : List ℕ) → row_names r.row n ≡ true → row_names (changed s c r.row) n ≡ true = λ n h.
    let lends : lent r.row (Chunk n) ≡ true → lent (changed s c r.row) (Chunk n) ≡ true =
    subst (λ (y : Row). lent y (Chunk n) ≡ true → lent (changed s c y) (Chunk n) ≡ true) q (λ k. noted_lent s c (row s p) n (row_lends s c p n peer stays k))
    in
    ap (λ o. has out_key (changed s c r.row).outs (Chunk n) || has debt_key (changed s c r.row).debts (Chunk n) || name_listed (pending_name deal_name o) n) pending
    ∙ or_less (has out_key r.row.outs (Chunk n)) (has debt_key r.row.debts (Chunk n)) (name_listed (pending_name deal_name r.row.pending) n) (has out_key (changed s c r.row).outs (Chunk n)) (has debt_key (changed s c r.row).debts (Chunk n)) lends h
    in
    makes_own l c p i l.issued total r r w l.accounts.items l.own.items peer beside f (unfreed l c i p r none f) same row_is drawn
    (omega (arith, sums, held, ap (λ o. coming s o) deals))
    (released_at l c p i r r w l.accounts.items None f (unfreed l c i p r none f) same row_is ordered (λ n k h. names n h))

-- ---- asking

row_asked : (change : ℕ) (objects : List Object) (r : Row) → record (after_move still r) { asked = Some (change, objects) } ≡ asked_row change objects r
row_asked change objects r = λ i. asked_row change objects (record r { ins = without_none in_key r.ins i; outs = without_none out_key r.outs i; debts = debts_stay r.debts i })

pub may_ask : (l : Inside) (x : Asked) (i : ℕ) (r : AccountView) → IsAt l (change.Asked x) x.peer i r → in_order own_key l.own.items ≡ true → (w : AccountView) (n : ℕ) → n ≡ used (state_of l) → w.id ≡ r.id → w.row ≡ asked_row l.changes x.objects r.row → Makes (view_of l) l.accounts.items (change.Asked x) i l.issued n w
may_ask l x i r f ordered w n sums a b =
    makes_lent l (change.Asked x) x.peer i n r w refl refl (record { settings = refl; own = refl; kept = refl; snapped = refl; chosen = refl }) f ordered refl refl (ap held_units b) refl sums a (b ∙ sym (row_asked l.changes x.objects r.row))

-- ---- passing

row_passed : (asked : ℕ) (objects : List Object) (r : Row) → was_passed asked (after_move (regains objects r) r) ≡ passed_row asked objects r
row_passed asked objects r = λ i. was_passed asked (record r { ins = without_none in_key r.ins i; outs = with_all out_key (out_anew objects r.debts) (without_none out_key r.outs i); debts = append-nil (filter (λ d. not (is_whole_listed objects d)) r.debts) i })

passed_held : (asked : ℕ) (objects : List Object) (r : Row) → held_units (passed_row asked objects r) ≡ held_units r
passed_held asked objects r = by_cases (asked == 0) (λ k. rw k refl) (λ k. rw k refl)

passed_pending : (asked : ℕ) (objects : List Object) (r y : Row) → (was_passed asked (after_move (regains objects y) r)).pending ≡ r.pending
passed_pending asked objects r y = by_cases (asked == 0) (λ k. rw k refl) (λ k. rw k refl)

-- what stands there and what is owed is less than four bytes count
small_row : (l : Inside) (c : Change) (p i : ℕ) (r : AccountView) → IsAt l c p i r → back_units r.row + debt_units r.row < 2 ^ 32
small_row l c p i r f =
    let q = row_of_peer l c p i r f in
    let tidy = ((good_of (state_of l) f.sound.reached).rows p).tidy in
    omega (arith, ap held_units q, ap back_units q, ap debt_units q, tidy.balanced, within_used l c p i r f, sound_small l.used (state_of l) f.sound, f.sound.used_is)

pub can_pass : (l : Inside) (x : Passed) (i : ℕ) (r : AccountView) → IsAt l (change.Passed x) x.peer i r → in_order own_key l.own.items ≡ true → HasListRoom (view_of l) x.peer 0 (length (filter (is_whole_listed x.objects) (row (state_of l) x.peer).debts)) → CanPass (view_of l) x i r
can_pass l x i r f ordered room =
    let s = state_of l in
    let c = change.Passed x in
    let vs = l.accounts.items in
    let at = found_here vs x.peer i r f.place f.here in
    let q = row_of_peer l c x.peer i r f in
    let good = good_of s f.sound.reached in
    let moved : changed s c r.row ≡ passed_row x.asked x.objects r.row =
    subst (λ (y : Row). was_passed x.asked (after_move (regains x.objects (row s x.peer)) y) ≡ passed_row x.asked x.objects y) q (row_passed x.asked x.objects (row s x.peer))
    in
    record {
      needs = record {
        out_room = subst (λ (y : AccountView). length (filter (is_whole_listed x.objects) r.row.debts) ≤ y.out_room) (found_account vs x.peer i r at)
            (omega (arith, room.out_room (found_peer vs x.peer i r at), ap (λ (y : Row). length (filter (is_whole_listed x.objects) y.debts)) q));
        once = subst (λ (y : Row). StandOnce y.outs y.debts) q (good.rows x.peer).tidy.outs_once;
        small = small_row l c x.peer i r f;
      };
      made = λ w n sums a b. makes_lent l c x.peer i n r w refl refl (record { settings = refl; own = refl; kept = refl; snapped = refl; chosen = refl }) f ordered refl (passed_pending x.asked x.objects r.row (row s x.peer))
          (ap held_units b ∙ passed_held x.asked x.objects r.row) refl sums a (b ∙ sym moved);
    }

-- ---- failing and declining

row_lost : (change : ℕ) (declined : Bool) (objects : List Object) (r : Row) → after_move (loses change declined objects r) r ≡ lost_row change declined objects r
row_lost change declined objects r = λ i. record r { ins = without_none in_key r.ins i; outs = without out_key objects r.outs; debts = kept_all r.debts i ++ lost_rows change declined objects r.outs }

pub can_fail : (l : Inside) (x : Failed) (i : ℕ) (r : AccountView) → IsAt l (change.Failed x) x.peer i r → in_order own_key l.own.items ≡ true → HasDebtRoom (view_of l) x.peer (length x.objects) → CanFail (view_of l) x i r
can_fail l x i r f ordered room =
    let s = state_of l in
    let c = change.Failed x in
    let vs = l.accounts.items in
    let at = found_here vs x.peer i r f.place f.here in
    let q = row_of_peer l c x.peer i r f in
    let moved : changed s c r.row ≡ failed_row l.changes x.asked x.objects r.row =
    subst (λ (y : Row). was_failed x.asked (after_move (loses l.changes false x.objects (row s x.peer)) y) ≡ failed_row l.changes x.asked x.objects y) q (ap (was_failed x.asked) (row_lost l.changes false x.objects (row s x.peer)))
    in
    record {
      needs = record {
        out_room = subst (λ (y : AccountView). 2 * length x.objects ≤ y.out_room) (found_account vs x.peer i r at) (room.out_room (found_peer vs x.peer i r at));
        debt_room = subst (λ (y : AccountView). length x.objects ≤ y.debt_room) (found_account vs x.peer i r at) (room.debt_room (found_peer vs x.peer i r at));
        distinct = objects_apart x.objects f.grammar;
        small = small_row l c x.peer i r f;
      };
      made = λ w n sums a b. makes_lent l c x.peer i n r w refl refl (record { settings = refl; own = refl; kept = refl; snapped = refl; chosen = refl }) f ordered refl refl
          (ap held_units b) refl sums a (b ∙ sym moved);
    }

-- as many objects at most as places
at_most : (os : List Object) (ks : List ℕ) → length (at_places os ks) ≤ length ks
at_most os [] = omega arith
at_most os (k ∷ ks) = one (slice_get os k) (at_most os ks)
  where
    one : (o : Option Object) → length (at_places os ks) ≤ length ks → length (option_to_list o ++ at_places os ks) ≤ length (k ∷ ks)
    one None le = omega (arith, le)
    one (Some x) le = omega (arith, le)

at_most_asked : (r : Row) (asked : ℕ) (ks : List ℕ) → length (objects_at r asked ks) ≤ length ks
at_most_asked r asked ks = one (asked_objects r.asked asked)
  where
    one : (o : Option (List Object)) → length {A = Object} (elim o [ None ↦ [] | Some os ↦ at_places os ks ]) ≤ length ks
    one None = omega arith
    one (Some os) = at_most os ks

pub can_decline : (l : Inside) (x : Declined) (i : ℕ) (r : AccountView) → IsAt l (change.Declined x) x.peer i r → in_order own_key l.own.items ≡ true → HasDebtRoom (view_of l) x.peer (length x.places) → CanDecline (view_of l) x i r
can_decline l x i r f ordered room =
    let s = state_of l in
    let c = change.Declined x in
    let vs = l.accounts.items in
    let at = found_here vs x.peer i r f.place f.here in
    let q = row_of_peer l c x.peer i r f in
    let good = good_of s f.sound.reached in
    let moved : changed s c r.row ≡ declined_row l.changes x.asked x.places r.row =
    subst (λ (y : Row). failed_again (after_move (loses l.changes true (objects_at (row s x.peer) x.asked x.places) (row s x.peer)) y) ≡ declined_row l.changes x.asked x.places y) q (ap failed_again (row_lost l.changes true (objects_at (row s x.peer) x.asked x.places) (row s x.peer)))
    in
    let most = at_most_asked r.row x.asked x.places in
    record {
      needs = record {
        out_room = subst (λ (y : AccountView). 2 * length (objects_at r.row x.asked x.places) ≤ y.out_room) (found_account vs x.peer i r at) (omega (arith, room.out_room (found_peer vs x.peer i r at), most));
        debt_room = subst (λ (y : AccountView). length (objects_at r.row x.asked x.places) ≤ y.debt_room) (found_account vs x.peer i r at) (omega (arith, room.debt_room (found_peer vs x.peer i r at), most));
        distinct = subst (λ (y : Row). objects_distinct (objects_at y x.asked x.places) ≡ true) q (declined_distinct s x.peer x.asked x.places (good.asked x.peer) (numbers_ascend x.places f.grammar));
        small = small_row l c x.peer i r f;
      };
      made = λ w n sums a b. makes_lent l c x.peer i n r w refl refl (record { settings = refl; own = refl; kept = refl; snapped = refl; chosen = refl }) f ordered refl refl
          (ap held_units b) refl sums a (b ∙ sym moved);
    }
