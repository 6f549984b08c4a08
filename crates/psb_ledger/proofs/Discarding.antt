-- A discard: which entries the node's own words take, entry by entry, and what the change leaves.
use Rattle.std.proofs.Common.{◌≡◌, ℕ, zero, suc, ◌+◌, ◌-◌, ◌*◌, ◌≤◌, ◌<◌, ◌^◌, Bool, true, false, not, ◌&&◌, ◌||◌, cond, List, [], ◌∷◌, ◌++◌, length, filter, sum_by, Option, Some, None, refl, sym, ap, ◌∙◌, subst, arith, append-nil}
use Rattle.std.specs.Prelude.{◌==◌, ◌%◌, nat_le, nat_lt}
use Rattle.std.specs.List.{list_all}
use Rattle.std.proofs.lemmas.Bool.{and_parts, leb-true}
use Rattle.std.proofs.lemmas.Bool.Decides.{nat_tests}
use Rattle.psb_bytes.specs.declared.ids.Object.{Object}
use Rattle.psb_bytes.specs.declared.ids.Object.TheVariants.{Chunk}
use Rattle.psb_digest.specs.Words.{Reader, own_word}
use Rattle.psb_settings.specs.declared.settings.Settings.{Settings}
use Rattle.psb_model.specs.declared.entries.InEntry.{InEntry}
use Rattle.psb_model.specs.declared.entries.DebtEntry.{DebtEntry}
use Rattle.psb_model.specs.declared.change.Change.TheVariants as change
use Rattle.psb_model.specs.declared.kinds.Discarded.{Discarded}
use Rattle.psb_model.specs.Words.{name_listed, has, only, without}
use Rattle.psb_model.specs.State.{Row, State, row, tied_in, in_key, in_size, out_key, debt_key, held_units, debt_units, coming}
use Rattle.psb_model.specs.Discards.{is_picked, picks, one_in, discards, seed}
use Rattle.psb_model.specs.Conditions.{same_objects, capacity}
use Rattle.psb_model.specs.Move.{Move, still, use_up, after_move}
use Rattle.psb_model.specs.Effects.{deal_name, pending_name}
use Rattle.psb_model.proofs.ByObject.{by_cases, all_kept}
use Rattle.psb_model.proofs.Balance.{steps}
use Rattle.psb_model.proofs.Steady.{allows}
use Rattle.psb_model.proofs.Steps.{Step}
use Rattle.psb_model.proofs.Bare.{changed}
use Rattle.discard_policy.specs.Drawing.{drawn}
use Rattle.discard_policy.proofs.Draws.{own_reader, own_picks}
use Rattle.peer_lists.specs.Entries.{in_order}
use Rattle.peer_lists.proofs.Trees.{without_none}
use Rattle.peer_account.specs.View.{AccountView, discarded_row}
use Rattle.peer_account.specs.OwnDeals.{row_names}
use Rattle.own_chunks.specs.OwnList.{own_key}
use Rattle.psb_ledger.specs.declared.ledger.Ledger.TheInside.{Inside}
use Rattle.psb_ledger.specs.View.{HasListRoom, IsReached}
use Rattle.psb_ledger.specs.Moves.{StandsIn, CanDiscard}
use Rattle.accounts.specs.Table.{untied as untied_by}
use Rattle.accounts.specs.Freeing.{Freed}
use Rattle.psb_ledger.proofs.Sound.{state_of, view_of, good_of}
use Rattle.psb_ledger.proofs.Peers.{IsAt, makes_own, released_at, row_of_peer, within_used, kept_all, tied_names}
use Rattle.psb_ledger.proofs.Leaving.{leaves_as, freed_alike, room_in}
use Rattle.psb_ledger.proofs.Weights.{weighs, weigh_row, few_ins}

pub none_listed : (os : List Object) → (length os == 0) ≡ same_objects os []
none_listed [] = refl
none_listed (x ∷ xs) = grind (arith, nat_tests)

-- THE WORDS OF THE CHANGE

-- the entries that no pending deal ties, of a state
abbrev pub untied : State → ℕ → List InEntry → List InEntry
untied s p = filter (λ (e : InEntry). not (tied_in s p e.object))

-- of its accounts they are the same
pub untied_same : (l : Inside) (p : ℕ) (es : List InEntry) → untied_by l.accounts.items p es ≡ untied (state_of l) p es
untied_same l p [] = refl
untied_same l p (e ∷ es) = ap (λ b. cond (not b) (e ∷ untied_by l.accounts.items p es) (untied_by l.accounts.items p es)) (tied_names l.accounts.items p e.object) ∙ ap (λ xs. cond (not (tied_in (state_of l) p e.object)) (e ∷ xs) xs) (untied_same l p es)

filter_few : (q : InEntry → Bool) (l : List InEntry) → length (filter q l) ≤ length l
filter_few q [] = omega arith
filter_few q (e ∷ es) = by_cases (q e) (λ k. rw k (omega (arith, filter_few q es))) (λ k. rw k (omega (arith, filter_few q es)))

none_of : (l : List InEntry) → length l ≤ 0 → l ≡ []
none_of [] le = refl
none_of (e ∷ es) le = absurd (omega (arith, le))

pub none_taken : (s : State) (p : ℕ) → IsReached s → s.settings ≡ None → discards s p ≡ []
none_taken s p reached none =
    let q : InEntry → Bool = λ e. not (tied_in s p e.object) in
    let few : length (row s p).ins ≤ 0 = omega (arith, few_ins s p reached, ap capacity none) in
    ap (λ (l : List InEntry). picks (own_word (seed s.settings) s.changes) (one_in (row s p).fails) 0 (debt_units (row s p)) 1048576 (filter q l)) (none_of (row s p).ins few)

-- where nothing is owed, no entry is within the debt
none_within : (words : ℕ → ℕ) (every j room : ℕ) (es : List InEntry) → list_all weighs es ≡ true → picks words every j 0 room es ≡ []
none_within words every j room [] h = refl
none_within words every j room (e ∷ es) h =
    let two = and_parts (weighs e) (list_all weighs es) h in
    by_cases (is_picked every (words j) 0 room e)
    (λ k.
    let fits = and_parts (nat_lt 0 every && words j % every == 0) (nat_le e.units 0) (and_parts (nat_lt 0 every && words j % every == 0 && nat_le e.units 0) (nat_lt 0 room) k).0 in
    absurd (omega (arith, leb-true e.units 0 fits.1, leb-true 1 e.units two.0)))
    (λ k. rw k (none_within words every (j + 1) room es two.1))

pub none_owed : (s : State) (p : ℕ) → IsReached s → debt_units (row s p) ≡ 0 → discards s p ≡ []
none_owed s p reached none =
    let q : InEntry → Bool = λ e. not (tied_in s p e.object) in
    let words = own_word (seed s.settings) s.changes in
    let every = one_in (row s p).fails in
    ap (λ (n : ℕ). picks words every 0 n 1048576 (untied s p (row s p).ins)) none
    ∙ none_within words every 0 1048576 (untied s p (row s p).ins) (all_kept weighs q (row s p).ins (weigh_row s p reached))

pub own_taken : (s : State) (p : ℕ) (x : Settings) (t : Reader) (every left room : ℕ) (r : Row) (ins : List InEntry) → IsReached s → capacity s.settings < 2 ^ 32 → s.settings ≡ Some x → t ≡ own_reader x.seed s.changes → r ≡ row s p → every ≡ one_in r.fails → left ≡ debt_units r → room ≡ 1048576 → ins ≡ r.ins
    → picks (drawn t) every 0 left room (untied s p ins) ≡ discards s p
own_taken s p x t every left room r ins reached small is reads row_is grade_is debt_is most ins_are =
    let es = untied s p (row s p).ins in
    let few : length es ≤ 2 ^ 68 = omega (arith, filter_few (λ (e : InEntry). not (tied_in s p e.object)) (row s p).ins, few_ins s p reached, small) in
    (λ i. picks (drawn (reads i)) (grade_is i) 0 (debt_is i) (most i) (untied s p (ins_are i)))
    ∙ ap (λ (y : Row). picks (drawn (own_reader x.seed s.changes)) (one_in y.fails) 0 (debt_units y) 1048576 (untied s p y.ins)) row_is
    ∙ own_picks x.seed s.changes (one_in (row s p).fails) (debt_units (row s p)) 1048576 es few
    ∙ ap (λ (o : Option Settings). picks (own_word (seed o) s.changes) (one_in (row s p).fails) 0 (debt_units (row s p)) 1048576 es) (sym is)

-- WHAT IS LEFT

abbrev discard_move : List Object → ℕ → Move
discard_move objects units = record still { in_gone = objects; used_up = units }

row_discarded : (objects : List Object) (r : Row) → (let m = after_move (discard_move objects (sum_by in_size (only in_key objects r.ins))) r in let y : Row = record m { due = false } in y) ≡ discarded_row objects r
row_discarded objects r = λ i. record r { ins = without in_key objects r.ins; outs = without_none out_key r.outs i; debts = left_debts (sum_by in_size (only in_key objects r.ins)) r.debts i; due = false }
  where
    left_debts : (n : ℕ) (ds : List DebtEntry) → use_up n (filter (λ d. true) ds) ++ [] ≡ use_up n ds
    left_debts n ds = append-nil (use_up n (filter (λ d. true) ds)) ∙ ap (use_up n) (kept_all ds)

-- rows of debt of which none is gone have the objects that they had
used_fewer : (n : ℕ) (ds : List DebtEntry) → length (use_up n ds) ≤ length ds
used_fewer zero ds = omega arith
used_fewer (suc n) [] = omega arith
used_fewer (suc n) (d ∷ ds) = by_cases (nat_le d.left (suc n)) (λ k. rw k (omega (arith, used_fewer (suc n - d.left) ds))) (λ k. rw k (omega arith))

used_keeps : (n : ℕ) (ds : List DebtEntry) (o : Object) → length ds ≤ length (use_up n ds) → has debt_key (use_up n ds) o ≡ has debt_key ds o
used_keeps zero ds o le = refl
used_keeps (suc n) [] o le = refl
used_keeps (suc n) (d ∷ ds) o le = by_cases (nat_le d.left (suc n))
    (λ k. absurd (omega (arith, used_fewer (suc n - d.left) ds, rw k at le)))
    (λ k. rw k refl)

pub can_discard : (l : Inside) (x : Discarded) (i : ℕ) (r q : AccountView) (vs : List AccountView) → IsAt l (change.Discarded x) x.peer i r → Freed l.accounts.items i x.objects vs → StandsIn vs i q → in_order own_key l.own.items ≡ true → HasListRoom (view_of l) x.peer (2 * length x.objects) 0 → CanDiscard (view_of l) vs x i q
can_discard l x i r q vs f loose here ordered room =
    let s = state_of l in
    let c = change.Discarded x in
    let now = leaves_as l c x.peer i r q vs x.objects f loose here refl in
    let alike = freed_alike l c x.peer i r q vs f now.freed in
    let step : Step s c x.peer = steps s c (good_of s f.sound.reached) f.grammar (allows s c f.may).tests in
    let moved : changed s c q.row ≡ discarded_row x.objects q.row =
    ap (λ es. let m = after_move (discard_move x.objects (sum_by in_size (only in_key x.objects es))) q.row in let z : Row = record m { due = false } in z) (sym now.ins) ∙ row_discarded x.objects q.row
    in
    record {
      needs = record {
        in_room = subst (λ n. 2 * length x.objects ≤ n) (sym now.in_room) (room_in l c x.peer i (2 * length x.objects) 0 r f room);
        owed = omega (arith, step.weighs.debt, alike.debt, ap (λ es. sum_by in_size (only in_key x.objects es)) now.ins);
      };
      before = omega (arith, within_used l c x.peer i r f, alike.held, ap held_units (row_of_peer l c x.peer i r f));
      stays = λ w a b le.
          let same : (n : List ℕ) → row_names (changed s c q.row) n ≡ row_names q.row n = λ n.
          ap (λ (y : Row). row_names y n) moved
          ∙ ap (λ t. has out_key q.row.outs (Chunk n) || t || name_listed (pending_name deal_name q.row.pending) n)
          (used_keeps (sum_by in_size (only in_key x.objects q.row.ins)) q.row.debts (Chunk n) (omega (arith, le, ap (λ (y : Row). length y.debts) b)))
          in
          sym (released_at l c x.peer i r q w vs None f now.freed a (b ∙ sym moved) ordered (λ n _ h. same n ∙ h));
      made = λ w n own sums own_is a b. makes_own l c x.peer i l.issued n r q w vs own refl (record { settings = refl; own = refl; kept = refl; snapped = refl; chosen = refl }) f now.freed a (b ∙ sym moved) refl
          (omega (arith, sums, ap (λ (y : Row). coming s y.pending) b)) own_is;
    }

-- as many rows are left as there were, or more
pub not_fewer : (a b : ℕ) → nat_lt a b ≡ false → b ≤ a
not_fewer a b h = grind (arith, nat_tests)
