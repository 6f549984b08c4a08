-- A chunk that is kept, and a snapshot that is made or forgotten: what each leaves.
use Rattle.std.proofs.Common.{◌≡◌, ℕ, ◌+◌, Bool, true, false, not, ◌&&◌, ◌||◌, List, [], ◌∷◌, ◌++◌, map, Option, Some, None, refl, sym, ap, ◌∙◌, subst, arith}
use Rattle.std.specs.Prelude.{◌==◌, nat_lt}
use Rattle.std.specs.List.{list_any, list_all}
use Rattle.std.specs.Ordering.{nat_cmp, is_lt}
use Rattle.std.specs.Cmp.Lexicographic.{slice_cmp}
use Rattle.std.proofs.lemmas.Bool.{and_parts, lt-ltb}
use Rattle.psb_model.specs.declared.entries.OwnEntry.{OwnEntry}
use Rattle.psb_model.specs.declared.snapshots.Snapshot.{Snapshot}
use Rattle.psb_model.specs.declared.entries.SnapMark.{SnapMark}
use Rattle.psb_model.specs.declared.change.Change.{Change}
use Rattle.psb_model.specs.declared.change.Change.TheVariants.{Snapped, Forgot, Chose}
use Rattle.psb_model.specs.declared.entries.Candidate.{Candidate}
use Rattle.psb_model.specs.Words.{all_of, name_listed}
use Rattle.psb_model.specs.State.{Row, State, own_has, used}
use Rattle.psb_model.specs.Grammar.{in_grammar}
use Rattle.psb_model.specs.Conditions.{allowed, tests, names_ascend}
use Rattle.psb_model.specs.Effects.{after, chosen_after, all_rows_after, own_after, given_up, is_named, set_marks, own_with, kept_without}
use Rattle.psb_model.proofs.Steps.{parts}
use Rattle.psb_model.proofs.Own.{own_after_keeps, keeps_then, named_keeps}
use Rattle.psb_model.proofs.Steady.{allows, KeepsNamed, rows_use, uses_kept, is_kept}
use Rattle.psb_model.proofs.ByObject.{by_cases}
use Rattle.psb_model.specs.declared.change.Change.TheVariants as change
use Rattle.psb_model.specs.declared.kinds.Kept.{Kept}
use Rattle.psb_model.specs.declared.kinds.Snapped.{Snapped as MadeSnapshot}
use Rattle.psb_ledger.specs.declared.ledger.Ledger.TheInside.{Inside}
use Rattle.psb_ledger.specs.View.{LedgerView, Mine, plain_state, IsMine, IsReached, IsSound}
use Rattle.peer_account.specs.View.{named_row}
use Rattle.peer_lists.specs.Entries.{in_order}
use Rattle.own_chunks.specs.OwnList.{own_key, lifts, marks}
use Rattle.own_chunks.specs.Snapshots.{count_of}
use Rattle.psb_ledger.specs.Snapping.{change_of}
use Rattle.psb_ledger.proofs.Spelled.{all_end}
use Rattle.peer_lists.proofs.Ordered.{is_false}
use Rattle.own_chunks.proofs.OwnTrees.{ordered_with, ordered_kept, ordered_marks}
use Rattle.psb_ledger.proofs.Sound.{mine, state_of, view_of, steady_of, reached_after}
use Rattle.psb_ledger.proofs.OwnStays.{all_stay}

-- the state one change later, with these own chunks and snapshots
abbrev pub state_with : Inside → Mine → State
state_with l m = plain_state (l.changes + 1) l.settings l.accounts.items l.issued m

-- what the change leaves
pub record Makes (l : Inside) (v : LedgerView) (c : Change) (m : Mine) : Type 0 where
  pub after_is : state_with l m ≡ after v.state c
  pub sound : IsSound l.used (state_with l m)
  pub own_part : IsMine m

-- own keeps what the rows name
keeps_named : (s : State) (c : Change) → all_of (tests s c) ≡ true → KeepsNamed s.own (after s c).own (all_rows_after s c)
keeps_named s c h n named own_n =
    let k = own_after_keeps s c n h own_n in
    keeps_then s.own (own_after s c) (after s c).own n k (named_keeps (all_rows_after s c) (own_after s c) n named k.has)

-- no row changes, so as much is used as before
pub makes : (l : Inside) (v : LedgerView) (c : Change) (m : Mine) → view_of l ≡ v → IsSound l.used (state_of l) → in_grammar c ≡ true → allowed (state_of l) c ≡ true → all_rows_after (state_of l) c ≡ (state_of l).rows → state_with l m ≡ after (state_of l) c → IsMine m → Makes l v c m
makes l v c m view sound grammar may rows is part =
    let s = state_of l in
    let reached : IsReached (state_with l m) = subst IsReached (sym is) (reached_after s c sound.reached grammar may) in
    let keeps : KeepsNamed s.own (after s c).own s.rows = subst (KeepsNamed s.own (after s c).own) rows (keeps_named s c (allows s c may).tests) in
    let same : rows_use (after s c) s.rows ≡ rows_use s s.rows = uses_kept s (after s c) s.rows keeps (steady_of s sound.reached).coming in
    record {
      after_is = is ∙ ap (λ (w : LedgerView). after w.state c) view;
      sound = record { used_is = omega (arith, sound.used_is, same, ap (rows_use (after s c)) rows, ap used is); reached = reached; small = sound.small };
      own_part = part;
    }

-- A CHUNK

abbrev pub new_entry : Kept → OwnEntry
new_entry x = record { name = x.name; len = x.len; marked = false }

-- a chunk that comes without a mark stays, as all others do
kept_with_one : (rows : List (ℕ × Row)) (e : OwnEntry) (l : List OwnEntry) → is_kept rows e ≡ true → list_all (is_kept rows) l ≡ true → list_all (is_kept rows) (own_with e l) ≡ true
kept_with_one rows e [] k h = rw k refl
kept_with_one rows e (x ∷ xs) k h =
    let two = and_parts (is_kept rows x) (list_all (is_kept rows) xs) h in
    by_cases (is_lt (slice_cmp nat_cmp e.name x.name)) (λ j. rw (j, k) h) (λ j. rw (j, two.0) (kept_with_one rows e xs k two.1))

pub kept_one : (l : Inside) (v : LedgerView) (x : Kept) (own : List OwnEntry) → view_of l ≡ v → IsSound l.used (state_of l) → IsMine (mine l) → in_grammar (change.Kept x) ≡ true → allowed v.state (change.Kept x) ≡ true → own ≡ own_with (new_entry x) l.own.items → Makes l v (change.Kept x) (record { own = own; kept = l.kept.items; snapped = l.snapped; chosen = l.chosen.items })
kept_one l v x own view sound part grammar may is =
    let s = state_of l in
    let c = change.Kept x in
    let may' : allowed s c ≡ true = ap (λ (w : LedgerView). allowed w.state c) view ∙ may in
    let ts = parts (tests s c) (allows s c may').tests in
    let absent : own_has l.own.items x.name ≡ false = is_false (own_has l.own.items x.name) ts.0 in
    let more = own_with (new_entry x) l.own.items in
    let next : own ≡ given_up s.rows more = is ∙ sym (all_stay s.rows more (kept_with_one s.rows (new_entry x) l.own.items refl (steady_of s sound.reached).named)) in
    makes l v c (record { own = own; kept = l.kept.items; snapped = l.snapped; chosen = l.chosen.items }) view sound grammar may' refl
    (λ i. record { changes = l.changes + 1; settings = l.settings; rows = s.rows; issued = l.issued; own = next i; kept = l.kept.items; snapped = l.snapped; chosen = l.chosen.items })
    (record { own_ordered = subst (λ (o : List OwnEntry). in_order own_key o ≡ true) (sym is) (ordered_with (new_entry x) l.own.items part.own_ordered absent); names_ordered = part.names_ordered })

-- MARKS

-- where marks are lifted, all that was kept is
kept_lifted : (rows : List (ℕ × Row)) (names : List (List ℕ)) (l : List OwnEntry) → list_all (is_kept rows) l ≡ true → list_all (is_kept rows) (set_marks (lifts names) l) ≡ true
kept_lifted rows names [] h = refl
kept_lifted rows names (x ∷ xs) h =
    let two = and_parts (is_kept rows x) (list_all (is_kept rows) xs) h in
    rw (one x.marked (not (name_listed names x.name)) (is_named rows x.name) two.0) (kept_lifted rows names xs two.1)
  where
    one : (a b n : Bool) → (not a || n) ≡ true → (not (a && b) || n) ≡ true
    one true true n k = k
    one true false n k = refl
    one false b n k = refl

-- A SNAPSHOT

abbrev ascends : Snapshot → Bool
ascends k = names_ascend k.names

pub snapped_one : (l : Inside) (v : LedgerView) (k : Snapshot) (kept : List Snapshot) (own : List OwnEntry) → view_of l ≡ v → IsSound l.used (state_of l) → IsMine (mine l) → in_grammar (change_of k) ≡ true → allowed v.state (change_of k) ≡ true → kept ≡ l.kept.items ++ k ∷ [] → own ≡ set_marks (lifts k.names) l.own.items → Makes l v (change_of k) (record { own = own; kept = kept; snapped = Some (record { number = k.number; change = l.changes }); chosen = l.chosen.items })
snapped_one l v k kept own view sound part grammar may is own_is =
    let s = state_of l in
    let c = change_of k in
    let may' : allowed s c ≡ true = ap (λ (w : LedgerView). allowed w.state c) view ∙ may in
    let ts = parts (tests s c) (allows s c may').tests in
    let lifted = set_marks (lifts k.names) l.own.items in
    let next : own ≡ given_up s.rows lifted = own_is ∙ sym (all_stay s.rows lifted (kept_lifted s.rows k.names l.own.items (steady_of s sound.reached).named)) in
    makes l v c (record { own = own; kept = kept; snapped = Some (record { number = k.number; change = l.changes }); chosen = l.chosen.items }) view sound grammar may' refl
    (λ i. record { changes = l.changes + 1; settings = l.settings; rows = s.rows; issued = l.issued; own = next i; kept = is i; snapped = Some (record { number = k.number; change = l.changes }); chosen = l.chosen.items })
    (record { own_ordered = ap (in_order own_key) own_is ∙ ordered_marks (lifts k.names) l.own.items ∙ part.own_ordered; names_ordered = ap (list_all ascends) is ∙ all_end ascends l.kept.items k part.names_ordered ts.1.0 })

-- its names ascend
pub ascending : (l : Inside) (v : LedgerView) (k : Snapshot) → view_of l ≡ v → allowed v.state (change_of k) ≡ true → names_ascend k.names ≡ true
ascending l v k view may =
    let may' : allowed (state_of l) (change_of k) ≡ true = ap (λ (w : LedgerView). allowed w.state (change_of k)) view ∙ may in
    (parts (tests (state_of l) (change_of k)) (allows (state_of l) (change_of k) may').tests).1.0

-- A CHOICE OF BUDDIES

pub chosen_one : (l : Inside) (v : LedgerView) (cs : List Candidate) (chosen : List ℕ) → view_of l ≡ v → IsSound l.used (state_of l) → IsMine (mine l) → in_grammar (Chose (record { candidates = cs })) ≡ true → allowed v.state (Chose (record { candidates = cs })) ≡ true → chosen ≡ chosen_after v.state (Chose (record { candidates = cs })) → Makes l v (Chose (record { candidates = cs })) (record { own = l.own.items; kept = l.kept.items; snapped = l.snapped; chosen = chosen })
chosen_one l v cs chosen view sound part grammar may is =
    let s = state_of l in
    let c = Chose (record { candidates = cs }) in
    let may' : allowed s c ≡ true = ap (λ (w : LedgerView). allowed w.state c) view ∙ may in
    let is' : chosen ≡ chosen_after s c = is ∙ ap (λ (w : LedgerView). chosen_after w.state c) (sym view) in
    let next : l.own.items ≡ given_up s.rows l.own.items = sym (all_stay s.rows l.own.items (steady_of s sound.reached).named) in
    makes l v c (record { own = l.own.items; kept = l.kept.items; snapped = l.snapped; chosen = chosen }) view sound grammar may' refl
    (λ i. record { changes = l.changes + 1; settings = l.settings; rows = s.rows; issued = l.issued; own = next i; kept = l.kept.items; snapped = l.snapped; chosen = is' i })
    (record { own_ordered = part.own_ordered; names_ordered = part.names_ordered })

-- A SNAPSHOT LESS

all_less : (n : ℕ) (ks : List Snapshot) → list_all ascends ks ≡ true → list_all ascends (kept_without n ks) ≡ true
all_less n [] h = refl
all_less n (x ∷ xs) h =
    let a = and_parts (ascends x) (list_all ascends xs) h in
    by_cases (not (x.number == n)) (λ k. rw k (rw a.0 (all_less n xs a.1))) (λ k. rw k (all_less n xs a.1))

pub less_ordered : (l : Inside) (n : ℕ) (kept : List Snapshot) → IsMine (mine l) → kept ≡ kept_without n l.kept.items → list_all ascends kept ≡ true
less_ordered l n kept part is = ap (list_all ascends) is ∙ all_less n l.kept.items part.names_ordered

pub forgot_one : (l : Inside) (v : LedgerView) (n : ℕ) (kept : List Snapshot) (own : List OwnEntry) → view_of l ≡ v → IsSound l.used (state_of l) → IsMine (mine l) → allowed v.state (Forgot (record { number = n })) ≡ true → kept ≡ kept_without n l.kept.items → own ≡ given_up (map named_row l.accounts.items) (set_marks (marks kept) l.own.items) → Makes l v (Forgot (record { number = n })) (record { own = own; kept = kept; snapped = l.snapped; chosen = l.chosen.items })
forgot_one l v n kept own view sound part may less is =
    let s = state_of l in
    let c = Forgot (record { number = n }) in
    let may' : allowed s c ≡ true = ap (λ (w : LedgerView). allowed w.state c) view ∙ may in
    let next : own ≡ given_up s.rows (own_after s c) = is ∙ ap (λ (ks : List Snapshot). given_up s.rows (set_marks (marks ks) l.own.items)) less in
    makes l v c (record { own = own; kept = kept; snapped = l.snapped; chosen = l.chosen.items }) view sound refl may' refl
    (λ i. record { changes = l.changes + 1; settings = l.settings; rows = s.rows; issued = l.issued; own = next i; kept = less i; snapped = l.snapped; chosen = l.chosen.items })
    (record { own_ordered = subst (λ (o : List OwnEntry). in_order own_key o ≡ true) (sym is) (ordered_kept (is_kept s.rows) (set_marks (marks kept) l.own.items) (ordered_marks (marks kept) l.own.items ∙ part.own_ordered)); names_ordered = less_ordered l n kept part less })

-- THE CONDITIONS

pub counted : (o : Option SnapMark) → count_of o ≡ elim o [ None ↦ 0 | Some mark ↦ mark.number ]
counted None = refl
counted (Some mark) = refl

pub allowed_snapped : (l : Inside) (v : LedgerView) (x : MadeSnapshot) (b : Bool) → view_of l ≡ v → (l.changes ≡ 0 → ⊥) → b ≡ all_of ((x.number == count_of l.snapped + 1) ∷ names_ascend x.names ∷ list_all (own_has l.own.items) x.names ∷ []) → b ≡ allowed v.state (Snapped x)
allowed_snapped l v x b view begun is =
    let later : nat_lt 0 l.changes ≡ true = lt-ltb 0 l.changes (omega arith) in
    is ∙ ap (λ n. all_of ((x.number == n + 1) ∷ names_ascend x.names ∷ list_all (own_has l.own.items) x.names ∷ [])) (counted l.snapped) ∙ sym (rw later refl) ∙ ap (λ (w : LedgerView). allowed w.state (Snapped x)) view

pub allowed_forgot : (l : Inside) (v : LedgerView) (n : ℕ) (b : Bool) → view_of l ≡ v → (l.changes ≡ 0 → ⊥) → b ≡ list_any (λ (k : Snapshot). k.number == n) l.kept.items → b ≡ allowed v.state (Forgot (record { number = n }))
allowed_forgot l v n b view begun is =
    let later : nat_lt 0 l.changes ≡ true = lt-ltb 0 l.changes (omega arith) in
    is ∙ sym (and_true (list_any (λ (k : Snapshot). k.number == n) l.kept.items)) ∙ sym (rw later refl) ∙ ap (λ (w : LedgerView). allowed w.state (Forgot (record { number = n }))) view
  where
    and_true : (b : Bool) → (b && true) ≡ b
    and_true true = refl
    and_true false = refl
