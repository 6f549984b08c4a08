-- A change of a peer: its condition, and the state after it, in the words of the accounts.
use Rattle.std.proofs.Common.{◌≡◌, ℕ, zero, suc, ◌+◌, ◌≤◌, ◌<◌, ◌^◌, true, false, not, ◌||◌, List, [], ◌∷◌, ◌++◌, map, filter, set, Option, Some, None, refl, sym, ap, ◌∙◌, subst, arith, append-nil}
use Rattle.std.specs.Prelude.{◌==◌, position}
use Rattle.std.specs.List.{list_any, list_all}
use Rattle.std.proofs.lemmas.Bool.{false≢true, and_parts}
use Rattle.psb_bytes.specs.declared.ids.Object.{Object}
use Rattle.psb_model.specs.declared.entries.DebtEntry.{DebtEntry}
use Rattle.psb_model.specs.declared.entries.OwnEntry.{OwnEntry}
use Rattle.psb_model.specs.declared.change.Change.{Change}
use Rattle.psb_model.specs.Words.{has}
use Rattle.psb_model.specs.State.{Row, State, row, has_row, at_row, in_key, held_units, ties_in, own_has, own_len, used}
use Rattle.psb_model.specs.Grammar.{in_grammar}
use Rattle.psb_model.specs.Conditions.{allowed, peer_of, of_a_peer}
use Rattle.psb_model.specs.Effects.{after, all_rows_after, own_after, is_named, given_up, issued_after, settings_after, kept_after, snapped_after, chosen_after}
use Rattle.psb_model.proofs.Own.{named_keeps}
use Rattle.psb_model.proofs.Held.{filter_has}
use Rattle.psb_model.proofs.Steady.{allows, row_use, rows_use, use_within, use_at_row, KeepsNamed, uses_kept, is_kept}
use Rattle.psb_model.proofs.Freed.{freed, rows_freed, freed_bare, freed_uses, frees_none, freed_none}
use Rattle.psb_model.proofs.Bare.{bare_rows, changed, named_bare}
use Rattle.psb_ledger.specs.declared.ledger.Ledger.TheInside.{Inside}
use Rattle.peer_account.specs.View.{AccountView, named_row}
use Rattle.psb_ledger.specs.View.{LedgerView, IsReached, IsSound}
use Rattle.peer_lists.specs.Entries.{in_order}
use Rattle.own_chunks.specs.OwnList.{own_key, released}
use Rattle.peer_account.specs.OwnDeals.{row_names}
use Rattle.psb_ledger.specs.Moves.{moved, MakesOwn, Makes, StandsIn, StandsAt}
use Rattle.psb_ledger.proofs.OwnStays.{is_but, FirstIs, names_at_row, names_one, own_stays, released_is}
use Rattle.accounts.proofs.Places.{Found, found_row, found_peer, found_here, found_set}
use Rattle.psb_ledger.proofs.Sound.{state_of, view_of, steady_of, reached_after}

-- whose chunks have the name
pub held_names : (vs : List AccountView) (o : Object) → list_any (λ (v : AccountView). has in_key v.row.ins o) vs ≡ list_any (λ (x : ℕ × Row). has in_key x.1.ins o) (map named_row vs)
held_names [] o = refl
held_names (v ∷ vs) o = ap (λ b. has in_key v.row.ins o || b) (held_names vs o)

-- whose pending deals tie an object
pub tied_names : (vs : List AccountView) (q : ℕ) (o : Object) → list_any (λ (v : AccountView). ties_in v.id v.row.pending q o) vs ≡ list_any (λ (x : ℕ × Row). ties_in x.0 x.1.pending q o) (map named_row vs)
tied_names [] q o = refl
tied_names (v ∷ vs) q o = ap (λ b. ties_in v.id v.row.pending q o || b) (tied_names vs q o)

-- the peer of a change that is allowed has an account
pub peer_there : (l : Inside) (v : LedgerView) (c : Change) (p : ℕ) → view_of l ≡ v → peer_of c ≡ Some p → allowed v.state c ≡ true → has_row (map named_row l.accounts.items) p ≡ true
peer_there l v c p view peer may = ap (of_a_peer (state_of l)) (sym peer) ∙ (allows (state_of l) c (ap (λ (w : LedgerView). allowed w.state c) view ∙ may)).peer

-- THE STATE AFTER IT

-- the change leaves all beside the rows, the numbers that were drawn and what is given up
pub record IsOfRows (s : State) (c : Change) : Type 0 where
  pub settings : settings_after s c ≡ s.settings
  pub own : own_after s c ≡ s.own
  pub kept : kept_after s c ≡ s.kept
  pub snapped : snapped_after s c ≡ s.snapped
  pub chosen : chosen_after s c ≡ s.chosen

-- the change at the place of its peer's account
pub record IsAt (l : Inside) (c : Change) (p i : ℕ) (r : AccountView) : Type 0 where
  pub sound : IsSound l.used (state_of l)
  pub place : Some i ≡ position (λ (y : AccountView). y.id == p) l.accounts.items
  pub here : StandsAt (view_of l) i r
  pub may : allowed (state_of l) c ≡ true
  pub grammar : in_grammar c ≡ true

pub at_place : (l : Inside) (v : LedgerView) (c : Change) (p i : ℕ) (r : AccountView) → view_of l ≡ v → IsSound l.used (state_of l) → Some i ≡ position (λ (y : AccountView). y.id == p) l.accounts.items → allowed v.state c ≡ true → in_grammar c ≡ true → StandsAt (view_of l) i r → IsAt l c p i r
at_place l v c p i r view sound place may grammar here = record {
  sound = sound;
  place = place;
  here = here;
  may = ap (λ (w : LedgerView). allowed w.state c) view ∙ may;
  grammar = grammar;
}

-- its row, before the change
pub row_of_peer : (l : Inside) (c : Change) (p i : ℕ) (r : AccountView) → IsAt l c p i r → row (state_of l) p ≡ r.row
row_of_peer l c p i r f = found_row l.accounts.items p i r (found_here l.accounts.items p i r f.place f.here)

-- what one row uses is among what all use
pub use_of : (l : Inside) (c : Change) (p i : ℕ) (r : AccountView) → IsAt l c p i r → row_use (state_of l) r.row ≤ used (state_of l)
use_of l c p i r f =
    let s = state_of l in
    omega (arith, use_within s s.rows p, ap (row_use s) (row_of_peer l c p i r f))

pub within_used : (l : Inside) (c : Change) (p i : ℕ) (r : AccountView) → IsAt l c p i r → held_units r.row ≤ used (state_of l)
within_used l c p i r f = omega (arith, use_of l c p i r f)

-- what own keeps was there before, as long, where nothing comes
was_own : (s : State) (c : Change) → own_after s c ≡ s.own → KeepsNamed (after s c).own s.own (all_rows_after s c)
was_own s c same n named here =
    let there : own_has (own_after s c) n ≡ true = filter_has (is_kept (all_rows_after s c)) (own_after s c) n here in
    let keeps = named_keeps (all_rows_after s c) (own_after s c) n named there in
    record { has = ap (λ l. own_has l n) (sym same) ∙ there; len = ap (λ l. own_len l n) (sym same) ∙ sym keeps.len }

-- ---- the accounts in which the change has changed states

pub record IsFreed (l : Inside) (c : Change) (vs : List AccountView) (i : ℕ) (q : AccountView) : Type 0 where
  pub rows : map named_row vs ≡ freed (state_of l) c
  pub here : StandsIn vs i q

abbrev pub keys : List (ℕ × Row) → List ℕ
keys rows = map (λ (x : ℕ × Row). x.0) rows

pub bare_keys : (rows : List (ℕ × Row)) → keys (bare_rows rows) ≡ keys rows
bare_keys [] = refl
bare_keys (x ∷ xs) = ap (λ l. x.0 ∷ l) (bare_keys xs)

-- they stand where they stood
pub found_as : (us vs : List AccountView) (p i : ℕ) (r q : AccountView) → keys (map named_row vs) ≡ keys (map named_row us) → Found us p i r → StandsIn vs i q → Found vs p i q
found_as [] vs p i r q same f at = absurd f
found_as (u ∷ us) [] p i r q same f at = absurd (cc (same))
found_as (u ∷ us) (v ∷ vs) p zero r q same f at = let one : v.id ≡ u.id = cc (same) in (ap (λ n. n == p) one ∙ f.0, sym at)
found_as (u ∷ us) (v ∷ vs) p (suc i) r q same f at =
    let one : v.id ≡ u.id = cc (same) in
    let rest : keys (map named_row vs) ≡ keys (map named_row us) = cc (same) in
    (ap (λ n. n == p) one ∙ f.0, found_as us vs p i r q rest f.1 at)

pub found_freed : (l : Inside) (c : Change) (p i : ℕ) (r q : AccountView) (vs : List AccountView) → IsAt l c p i r → IsFreed l c vs i q → Found vs p i q
found_freed l c p i r q vs f fr =
    let s = state_of l in
    let same : keys (map named_row vs) ≡ keys s.rows = sym (bare_keys (map named_row vs)) ∙ ap (λ rows. keys (bare_rows rows)) fr.rows ∙ ap keys (freed_bare s c) ∙ bare_keys s.rows in
    found_as l.accounts.items vs p i r q same (found_here l.accounts.items p i r f.place f.here) fr.here

-- a change that changes no state leaves them as they are
pub unfreed : (l : Inside) (c : Change) (i p : ℕ) (r : AccountView) → frees_none c ≡ true → IsAt l c p i r → IsFreed l c l.accounts.items i r
unfreed l c i p r none f = record { rows = sym (freed_none (state_of l) c none); here = f.here }

kept_freed : (l : Inside) (c : Change) (i : ℕ) (q : AccountView) (vs : List AccountView) (own : List OwnEntry) → IsFreed l c vs i q → list_all (is_kept (state_of l).rows) own ≡ true → list_all (is_kept (map named_row vs)) own ≡ true
kept_freed l c i q vs [] fr h = refl
kept_freed l c i q vs (e ∷ es) fr h =
    let s = state_of l in
    let two = and_parts (is_kept s.rows e) (list_all (is_kept s.rows) es) h in
    let same : is_named (map named_row vs) e.name ≡ is_named s.rows e.name = sym (named_bare (map named_row vs) e.name) ∙ ap (λ rows. is_named (bare_rows rows) e.name) fr.rows ∙ ap (λ rows. is_named rows e.name) (freed_bare s c) ∙ named_bare s.rows e.name in
    rw (ap (λ b. not e.marked || b) same ∙ two.0) (kept_freed l c i q vs es fr two.1)

pub makes_own : (l : Inside) (c : Change) (p i issued total : ℕ) (r q w : AccountView) (vs : List AccountView) (own : List OwnEntry) → peer_of c ≡ Some p → IsOfRows (state_of l) c → IsAt l c p i r → IsFreed l c vs i q → w.id ≡ q.id → w.row ≡ changed (state_of l) c q.row → issued ≡ issued_after (state_of l) c → total + row_use (state_of l) q.row ≡ used (state_of l) + row_use (state_of l) w.row → own ≡ given_up (map named_row (set vs i w)) l.own.items → MakesOwn (view_of l) vs c i issued total w own
makes_own l c p i issued total r q w vs own peer beside f fr same row_is drawn sums own_is =
    let s = state_of l in
    let ws = set vs i w in
    let at = found_freed l c p i r q vs f fr in
    let rows : map named_row ws ≡ at_row p (changed s c) (map named_row vs) = found_set vs p i q w (changed s c) at same row_is in
    let then_is : at_row p (changed s c) (map named_row vs) ≡ all_rows_after s c = ap (at_row p (changed s c)) fr.rows ∙ sym (rows_freed s c p peer) in
    let rows_are : map named_row ws ≡ all_rows_after s c = rows ∙ then_is in
    let own_are : own ≡ (after s c).own = own_is ∙ (λ j. given_up (rows_are j) (sym beside.own j)) in
    let now = moved (view_of l) vs i issued w own in
    let is_after : now ≡ after s c = λ j. record { changes = l.changes + 1; settings = sym beside.settings j; rows = rows_are j; issued = drawn j; own = own_are j; kept = sym beside.kept j; snapped = sym beside.snapped j; chosen = sym beside.chosen j } in
    let reached_then : IsReached (after s c) = reached_after s c f.sound.reached f.grammar f.may in
    let reached : IsReached now = subst IsReached (sym is_after) reached_then in
    let row_here = found_row vs p i q at in
    let use_now : used now ≡ used (after s c) = ap used is_after in
    let use_then : rows_use s (all_rows_after s c) ≡ used (after s c) = uses_kept (after s c) s (all_rows_after s c) (was_own s c beside.own) (steady_of (after s c) reached_then).coming in
    let use_row = use_at_row s p (changed s c) (map named_row vs) (found_peer vs p i q at) in
    let use_was : rows_use s (map named_row vs) ≡ used s = ap (rows_use s) fr.rows ∙ freed_uses s c in
    record {
      after_is = is_after;
      sound = record {
        used_is = omega (arith, sums, use_now, use_then, ap (rows_use s) then_is, use_row, use_was, ap (row_use s) row_here, ap (row_use s) row_is, ap (λ y. row_use s (changed s c y)) row_here);
        reached = reached;
        small = f.sound.small;
      };
    }

-- the row of the account is the first of its peer
first_is : (vs : List AccountView) (p i : ℕ) (r : AccountView) → Found vs p i r → FirstIs (map named_row vs) p r.row
first_is [] p i r f = tt
first_is (x ∷ xs) p zero r f = ((λ k. ap (λ (y : AccountView). y.row) f.1), (λ k. absurd (false≢true (sym k ∙ f.0))))
first_is (x ∷ xs) p (suc i) r f = ((λ k. absurd (false≢true (sym f.0 ∙ k))), (λ k. first_is xs p i r f.1))

-- what the change leaves of own, where it names all that it named but for a name, if there is one
pub released_at : (l : Inside) (c : Change) (p i : ℕ) (r q w : AccountView) (vs : List AccountView) (o : Option (List ℕ)) → IsAt l c p i r → IsFreed l c vs i q → w.id ≡ q.id → w.row ≡ changed (state_of l) c q.row → in_order own_key l.own.items ≡ true → ((n : List ℕ) → is_but o n ≡ false → row_names q.row n ≡ true → row_names (changed (state_of l) c q.row) n ≡ true) → released (map named_row (set vs i w)) o l.own.items ≡ given_up (map named_row (set vs i w)) l.own.items
released_at l c p i r q w vs o f fr same row_is ordered names =
    let s = state_of l in
    let at = found_freed l c p i r q vs f fr in
    let rows : map named_row (set vs i w) ≡ at_row p (changed s c) (map named_row vs) = found_set vs p i q w (changed s c) at same row_is in
    let most = names_one o p (changed s c) (map named_row vs) q.row (first_is vs p i q at) names in
    subst (λ (rs : List (ℕ × Row)). released rs o l.own.items ≡ given_up rs l.own.items) (sym rows) (released_is o (map named_row vs) (at_row p (changed s c) (map named_row vs)) l.own.items ordered most (kept_freed l c i q vs l.own.items fr (steady_of s f.sound.reached).named))

-- what is used fits its type
pub sound_small : (total : ℕ) (s : State) → IsSound total s → total < 2 ^ 32
sound_small total s f = omega (arith, f.used_is, (steady_of s f.reached).used, f.small)

-- where the row names what it named, no own chunk leaves
pub makes_in : (l : Inside) (c : Change) (p i issued total : ℕ) (r q w : AccountView) (vs : List AccountView) → peer_of c ≡ Some p → IsOfRows (state_of l) c → IsAt l c p i r → IsFreed l c vs i q → w.id ≡ q.id → w.row ≡ changed (state_of l) c q.row → issued ≡ issued_after (state_of l) c → ((x : Row) (n : List ℕ) → row_names x n ≡ true → row_names (changed (state_of l) c x) n ≡ true) → total + row_use (state_of l) q.row ≡ used (state_of l) + row_use (state_of l) w.row → Makes (view_of l) vs c i issued total w
makes_in l c p i issued total r q w vs peer beside f fr same row_is drawn names sums =
    let s = state_of l in
    let at = found_freed l c p i r q vs f fr in
    let rows : map named_row (set vs i w) ≡ at_row p (changed s c) (map named_row vs) = found_set vs p i q w (changed s c) at same row_is in
    let most = names_at_row None p (changed s c) (map named_row vs) (λ x n k. names x n) in
    makes_own l c p i issued total r q w vs l.own.items peer beside f fr same row_is drawn sums
    (sym (ap (λ (rs : List (ℕ × Row)). given_up rs l.own.items) rows ∙ own_stays (map named_row vs) (at_row p (changed s c) (map named_row vs)) l.own.items most (kept_freed l c i q vs l.own.items fr (steady_of s f.sound.reached).named)))

-- and where no state changes
pub makes : (l : Inside) (c : Change) (p i issued total : ℕ) (r w : AccountView) → frees_none c ≡ true → peer_of c ≡ Some p → IsOfRows (state_of l) c → IsAt l c p i r → w.id ≡ r.id → w.row ≡ changed (state_of l) c r.row → issued ≡ issued_after (state_of l) c → ((x : Row) (n : List ℕ) → row_names x n ≡ true → row_names (changed (state_of l) c x) n ≡ true) → total + row_use (state_of l) r.row ≡ used (state_of l) + row_use (state_of l) w.row → Makes (view_of l) l.accounts.items c i issued total w
makes l c p i issued total r w none peer beside f same row_is drawn names sums = makes_in l c p i issued total r r w l.accounts.items peer beside f (unfreed l c i p r none f) same row_is drawn names sums

-- ROWS

pub kept_all : {E : Type 0} (l : List E) → filter (λ (e : E). true) l ≡ l
kept_all [] = refl
kept_all (e ∷ es) = ap (λ l. e ∷ l) (kept_all es)

-- no row of debt comes or goes
pub debts_stay : (l : List DebtEntry) → filter (λ (d : DebtEntry). true) l ++ [] ≡ l
debts_stay l = append-nil (filter (λ (d : DebtEntry). true) l) ∙ kept_all l
