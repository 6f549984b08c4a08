-- The order that a state keeps: own chunks in the order of their names, the names of each kept snapshot too, and a row
-- for each peer.
use Rattle.std.proofs.Common.{◌≡◌, ℕ, Bool, true, false, not, ◌||◌, ◌&&◌, ◌==◌, List, [], ◌∷◌, ◌++◌, Option, Some, None, refl, sym, ◌∙◌, ap, arith}
use Rattle.std.specs.List.{list_all}
use Rattle.std.proofs.lemmas.Bool.{false≢true, and_parts, eqb-true}
use Rattle.psb_bytes.specs.declared.ids.Object.TheVariants.{Chunk}
use Rattle.psb_settings.specs.declared.settings.Settings.{Settings}
use Rattle.psb_settings.specs.declared.settings.PeerRow.{PeerRow}
use Rattle.psb_settings.specs.Settings.{have_distinct_ids, has_id}
use Rattle.psb_settings.proofs.Ranges.{settings_of-are}
use Rattle.psb_model.specs.declared.snapshots.Snapshot.{Snapshot}
use Rattle.psb_model.specs.declared.change.Change.{Change}
use Rattle.psb_model.specs.declared.change.Change.TheVariants.{Begun, Kept, Snapped, Forgot}
use Rattle.psb_model.specs.Words.{all_of, name_listed, has}
use Rattle.psb_model.specs.declared.entries.OwnEntry.{OwnEntry}
use Rattle.psb_bytes.specs.declared.ids.Object.{Object}
use Rattle.psb_bytes.specs.Objects.{object_cmp}
use Rattle.std.specs.Ordering.{is_lt}
use Rattle.psb_model.specs.State.{Row, State, nothing_yet, row_in, has_row, at_row, in_key, own_has}
use Rattle.psb_model.specs.Conditions.{allowed, tests, names_ascend, settings_of_body, peer_of}
use Rattle.psb_model.specs.Effects.{after, rows_after, all_rows_after, own_after, set_marks, blank_rows, first_rows, kept_lists, kept_without}
use Rattle.psb_model.specs.History.{state, state_from, lawful_from, is_lawful}
use Rattle.psb_model.proofs.ByObject.{by_cases}
use Rattle.psb_model.proofs.Steps.{parts}
use Rattle.psb_model.proofs.Rows.{has_row-at_row}
use Rattle.psb_model.proofs.Prefixes.{lawful_cons}
use Rattle.psb_model.proofs.Steady.{is_kept, allows}
use Rattle.psb_model.proofs.Bare.{bare_rows, changed, rows_bare}
use Rattle.psb_model.proofs.Held.{held_in}
use Rattle.peer_lists.specs.Entries.{in_order}
use Rattle.own_chunks.specs.OwnList.{own_key}
use Rattle.own_chunks.proofs.OwnTrees.{ordered_with, ordered_kept}

not_true : (a : Bool) → not a ≡ true → a ≡ false
not_true true h = absurd (false≢true h)
not_true false h = refl

-- ---- rows with ids of their own

abbrev pub are_distinct : List (ℕ × Row) → Bool
are_distinct [] = true
are_distinct (x ∷ xs) = not (has_row xs x.0) && are_distinct xs

distinct_at_row : (p : ℕ) (f : Row → Row) (rows : List (ℕ × Row)) → are_distinct rows ≡ true → are_distinct (at_row p f rows) ≡ true
distinct_at_row p f [] h = refl
distinct_at_row p f (x ∷ xs) h =
    let a = and_parts (not (has_row xs x.0)) (are_distinct xs) h in
    by_cases (x.0 == p)
    (λ k. rw k h)
    (λ k. rw k (rw (ap not (has_row-at_row p x.0 f xs) ∙ a.0) (distinct_at_row p f xs a.1)))

-- the states of entries do not matter
bare_has : (rows : List (ℕ × Row)) (q : ℕ) → has_row (bare_rows rows) q ≡ has_row rows q
bare_has [] q = refl
bare_has (x ∷ xs) q = ap (λ b. (x.0 == q) || b) (bare_has xs q)

distinct_bare : (rows : List (ℕ × Row)) → are_distinct (bare_rows rows) ≡ are_distinct rows
distinct_bare [] = refl
distinct_bare (x ∷ xs) = ap (λ b. not b && are_distinct (bare_rows xs)) (bare_has xs x.0) ∙ ap (λ b. not (has_row xs x.0) && b) (distinct_bare xs)

-- a change leaves each peer its one row
distinct_after : (s : State) (c : Change) (o : Option ℕ) → are_distinct s.rows ≡ true → are_distinct (elim o [ None ↦ s.rows | Some p ↦ rows_after s c p ]) ≡ true
distinct_after s c None d = d
distinct_after s c (Some p) d = sym (distinct_bare (rows_after s c p)) ∙ ap are_distinct (rows_bare s c p) ∙ distinct_bare (at_row p (changed s c) s.rows) ∙ distinct_at_row p (changed s c) s.rows d

blank_has : (ps : List PeerRow) (q : ℕ) → has_row (blank_rows ps) q ≡ has_id q ps
blank_has [] q = refl
blank_has (r ∷ ps) q = ap (λ b. (r.id == q) || b) (blank_has ps q)

distinct_blank : (ps : List PeerRow) → have_distinct_ids ps ≡ true → are_distinct (blank_rows ps) ≡ true
distinct_blank [] h = refl
distinct_blank (r ∷ ps) h =
    let a = and_parts (not (has_id r.id ps)) (have_distinct_ids ps) h in
    rw (ap not (blank_has ps r.id) ∙ a.0) (distinct_blank ps a.1)

distinct_first : (body : Option (List ℕ)) → are_distinct (first_rows (settings_of_body body)) ≡ true
distinct_first None = refl
distinct_first (Some text) = by_settings (settings_of_body (Some text)) refl
  where
    by_settings : (o : Option Settings) → settings_of_body (Some text) ≡ o → are_distinct (first_rows o) ≡ true
    by_settings None is = refl
    by_settings (Some st) is = distinct_blank st.peers (settings_of-are text st is).distinct

or_parts : (a b : Bool) → (a || b) ≡ false → (a ≡ false) × (b ≡ false)
or_parts true b h = absurd (false≢true (sym h))
or_parts false b h = (refl, h)

-- where no row has the chunk, that of no peer does
pub none_in_row : (rows : List (ℕ × Row)) (q : List ℕ) (p : ℕ) → held_in rows q ≡ false → has in_key (row_in rows p).ins (Chunk q) ≡ false
none_in_row [] q p h = refl
none_in_row (x ∷ xs) q p h =
    let two = or_parts (has in_key x.1.ins (Chunk q)) (held_in xs q) h in
    by_cases (x.0 == p) (λ k. rw k two.0) (λ k. rw k (none_in_row xs q p two.1))

lacks_row : (x : ℕ × Row) (xs : List (ℕ × Row)) (p : ℕ) → has_row xs x.0 ≡ false → has_row xs p ≡ true → (x.0 == p) ≡ false
lacks_row x xs p lacks here = by_cases (x.0 == p) (λ k. absurd (false≢true (sym lacks ∙ ap (has_row xs) (eqb-true x.0 p k) ∙ here))) (λ k. k)

stranger : (rows : List (ℕ × Row)) (q : List ℕ) (p : ℕ) → has_row rows p ≡ false → has in_key (row_in rows p).ins (Chunk q) ≡ false
stranger [] q p h = refl
stranger (x ∷ xs) q p h = let two = or_parts (x.0 == p) (has_row xs p) h in rw two.0 (stranger xs q p two.1)

-- and where that of no peer does, no row has it, if each peer has one row
pub none_in_rows : (rows : List (ℕ × Row)) (q : List ℕ) → are_distinct rows ≡ true → ((p : ℕ) → has in_key (row_in rows p).ins (Chunk q) ≡ false) → held_in rows q ≡ false
none_in_rows [] q d none = refl
none_in_rows (x ∷ xs) q d none =
    let a = and_parts (not (has_row xs x.0)) (are_distinct xs) d in
    let own = none x.0 in
    let first : has in_key x.1.ins (Chunk q) ≡ false = rw (same x.0) at own in
    rw first (none_in_rows xs q a.1 (λ p. by_cases (has_row xs p)
    (λ here.
    let of_peer = none p in
    let other = lacks_row x xs p (not_true (has_row xs x.0) a.0) here in
    rw other at of_peer)
    (λ away. stranger xs q p away)))
  where
    same : (n : ℕ) → (n == n) ≡ true
    same n = grind (arith)

-- ---- what each state keeps in order

abbrev ascends : Snapshot → Bool
ascends k = names_ascend k.names

pub record IsOrdered (s : State) : Type 0 where
  pub own : in_order own_key s.own ≡ true
  pub kept : list_all (λ (k : Snapshot). names_ascend k.names) s.kept ≡ true
  pub rows : are_distinct s.rows ≡ true

all_end : (ks : List Snapshot) (k : Snapshot) → list_all ascends ks ≡ true → ascends k ≡ true → list_all ascends (ks ++ k ∷ []) ≡ true
all_end [] k h e = rw e refl
all_end (x ∷ xs) k h e = let a = and_parts (ascends x) (list_all ascends xs) h in rw a.0 (all_end xs k a.1 e)

all_less : (n : ℕ) (ks : List Snapshot) → list_all ascends ks ≡ true → list_all ascends (kept_without n ks) ≡ true
all_less n [] h = refl
all_less n (x ∷ xs) h =
    let a = and_parts (ascends x) (list_all ascends xs) h in
    by_cases (not (x.number == n)) (λ k. rw k (rw a.0 (all_less n xs a.1))) (λ k. rw k (all_less n xs a.1))

-- marks leave the order of own chunks
marks_behind : (mark : OwnEntry → Bool) (o : Object) (l : List OwnEntry) → list_all (λ (x : OwnEntry). is_lt (object_cmp o (own_key x))) (set_marks mark l) ≡ list_all (λ (x : OwnEntry). is_lt (object_cmp o (own_key x))) l
marks_behind mark o [] = refl
marks_behind mark o (e ∷ es) = ap (λ b. is_lt (object_cmp o (own_key e)) && b) (marks_behind mark o es)

marks_ordered : (mark : OwnEntry → Bool) (l : List OwnEntry) → in_order own_key l ≡ true → in_order own_key (set_marks mark l) ≡ true
marks_ordered mark [] h = refl
marks_ordered mark (e ∷ es) h =
    let a = and_parts (list_all (λ (x : OwnEntry). is_lt (object_cmp (own_key e) (own_key x))) es) (in_order own_key es) h in
    rw (marks_behind mark (own_key e) es ∙ a.0, marks_ordered mark es a.1) refl

own_after_ordered : (s : State) (c : Change) → all_of (tests s c) ≡ true → in_order own_key s.own ≡ true → in_order own_key (own_after s c) ≡ true
own_after_ordered s (Kept x) h o = ordered_with (record { name = x.name; len = x.len; marked = false }) s.own o (not_true (own_has s.own x.name) (parts (tests s (Kept x)) h).0)
own_after_ordered s (Snapped x) h o = marks_ordered (λ e. e.marked && not (name_listed x.names e.name)) s.own o
own_after_ordered s (Forgot x) h o = marks_ordered (λ e. e.marked || not (kept_lists (kept_without x.number s.kept) e.name)) s.own o
own_after_ordered s _ h o = o

-- so does what is given up
ordered_own : (s : State) (c : Change) → allowed s c ≡ true → in_order own_key s.own ≡ true → in_order own_key (after s c).own ≡ true
ordered_own s c h o = ordered_kept (is_kept (all_rows_after s c)) (own_after s c) (own_after_ordered s c (allows s c h).tests o)

pub ordered_after : (s : State) (c : Change) → allowed s c ≡ true → IsOrdered s → IsOrdered (after s c)
ordered_after s (Begun x) h o = record { own = ordered_own s (Begun x) h o.own; kept = o.kept; rows = distinct_first x.body }
ordered_after s (Snapped x) h o =
    let c : Change = Snapped x in
    let ts = parts (tests s c) (allows s c h).tests in
    record {
      own = ordered_own s c h o.own;
      kept = all_end s.kept (record { number = x.number; ticket = x.ticket; files = x.files; folders = x.folders; bytes = x.bytes; left = x.left; names = x.names }) o.kept ts.1.0;
      rows = o.rows;
    }
ordered_after s (Forgot x) h o = record { own = ordered_own s (Forgot x) h o.own; kept = all_less x.number s.kept o.kept; rows = o.rows }
ordered_after s c h o = record { own = ordered_own s c h o.own; kept = o.kept; rows = distinct_after s c (peer_of c) o.rows }

ordered_from : (s : State) (h : List Change) → lawful_from s h ≡ true → IsOrdered s → IsOrdered (state_from s h)
ordered_from s [] v o = o
ordered_from s (c ∷ cs) v o =
    let l = lawful_cons s c cs v in
    ordered_from (after s c) cs l.rest (ordered_after s c l.allows o)

-- the state of a lawful history is in order
pub ordered_state : (h : List Change) → is_lawful h ≡ true → IsOrdered (state h)
ordered_state h v = ordered_from nothing_yet h v (record { own = refl; kept = refl; rows = refl })
