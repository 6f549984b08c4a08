-- The tree of own chunks, as the list of them in byte order.
use Rattle.std.proofs.Common.{◌≡◌, ℕ, Bool, true, false, not, ◌||◌, ◌&&◌, cond, List, [], ◌∷◌, map, filter, Option, Some, None, refl, sym, ap, subst, ◌∙◌}
use Rattle.std.specs.Prelude.{is_some, find}
use Rattle.std.specs.List.{list_all}
use Rattle.psb_bytes.specs.Objects.{object_cmp}
use Rattle.psb_bytes.specs.declared.ids.Object.{Object}
use Rattle.std.specs.Map.{lookup, remove_entry}
use Rattle.std.specs.Map.Calls.{RetainsPairs}
use Rattle.std.specs.BTreeMap.{is_at, insert_entry}
use Rattle.std.specs.declared.cmp.Ordering.{Ordering}
use Rattle.std.specs.Ordering.{nat_cmp, is_lt, is_le, is_eq}
use Rattle.std.specs.BTreeMap.Range.{is_from_start, entries_between}
use Rattle.std.specs.declared.ops.Bound.{Bound}
use Rattle.std.specs.declared.ops.Bound.TheVariants.{Included, Excluded, Unbounded}
use Rattle.std.specs.Cmp.Lexicographic.{slice_cmp}
use Rattle.std.proofs.lemmas.Bool.{true≢false, false≢true}
use Rattle.psb_bytes.specs.declared.ids.Object.TheVariants.{Chunk}
use Rattle.psb_model.specs.declared.entries.OwnEntry.{OwnEntry}
use Rattle.psb_model.specs.declared.snapshots.Snapshot.{Snapshot}
use Rattle.psb_model.specs.Words.{units, name_eq, with_one}
use Rattle.psb_model.specs.State.{Row, own_has, own_len, own_marked}
use Rattle.psb_model.specs.Effects.{own_with, set_marks, given_up, is_named}
use Rattle.psb_model.proofs.Own.{name_same, name_refl, own_with_other}
use Rattle.psb_model.proofs.Held.{own_with_is}
use Rattle.psb_model.proofs.ByObject.{by_cases}
use Rattle.psb_model.proofs.Steady.{neither}
use Rattle.psb_model.proofs.ObjectOrder.{less_then}
use Rattle.own_deals.proofs.NameOrder.{IsNameOrder, same_name}
use Rattle.own_chunks.specs.declared.own.OwnChunk.{OwnChunk}
use Rattle.peer_lists.specs.Entries.{in_order}
use Rattle.own_chunks.specs.OwnList.{own_key, own_entry, with_newest, is_newest, newest_len, newest_marked, newest_other, newest_lifted, newest_left, newest_named, lifts, marks, without_name, newest_behind, nearer, is_behind, known_len, next_own}
use Rattle.peer_lists.proofs.Ordered.{in_order_with, or_false, apart, in_order_but, in_order_kept, kept_with}
use Rattle.peer_lists.proofs.Trees.{by_order}
use Rattle.peer_lists.proofs.Found.{none_behind, rest_ordered}

-- own chunks are a list of entries, each at its object
pub with_is_one : (e : OwnEntry) (l : List OwnEntry) → own_with e l ≡ with_one own_key e l
with_is_one e [] = refl
with_is_one e (x ∷ xs) = by_cases (is_lt (slice_cmp nat_cmp e.name x.name)) (λ k. rw k refl) (λ k. rw k (ap (λ l. x ∷ l) (with_is_one e xs)))

pub ordered_with : (e : OwnEntry) (l : List OwnEntry) → in_order own_key l ≡ true → own_has l e.name ≡ false → in_order own_key (own_with e l) ≡ true
ordered_with e l h absent = ap (in_order own_key) (with_is_one e l) ∙ in_order_with own_key e l h absent

apart_own : (e : OwnEntry) (l : List OwnEntry) → in_order own_key (own_with e l) ≡ true → own_has l e.name ≡ false
apart_own e l h = apart own_key e l (ap (in_order own_key) (sym (with_is_one e l)) ∙ h)

-- WHAT A TREE FINDS

found_own : (cmp : List ℕ → List ℕ → Ordering) → IsNameOrder cmp → (es : List (List ℕ × OwnChunk)) (n : List ℕ) → is_some (lookup (is_at (cmp n)) es) ≡ own_has (map own_entry es) n
found_own cmp law [] n = refl
found_own cmp law (e ∷ es) n =
    let same = same_name cmp law n e.0 in
    by_cases (name_eq e.0 n) (λ k. rw (same ∙ k, k) refl) (λ k. rw (same ∙ k, k) (found_own cmp law es n))

has_newest : (newest : Option OwnEntry) (l : List OwnEntry) (n : List ℕ) → (own_has l n || is_newest newest n) ≡ own_has (with_newest newest l) n
has_newest None l n = or_false (own_has l n)
has_newest (Some c) l n = sym (own_with_is c l n)

pub tree_has_own : (cmp : List ℕ → List ℕ → Ordering) → IsNameOrder cmp → (newest : Option OwnEntry) (es : List (List ℕ × OwnChunk)) (n : List ℕ) → (is_some (lookup (is_at (cmp n)) es) || is_newest newest n) ≡ own_has (with_newest newest (map own_entry es)) n
tree_has_own cmp law newest es n = ap (λ b. b || is_newest newest n) (found_own cmp law es n) ∙ has_newest newest (map own_entry es) n

-- LENGTHS

-- what is said of the chunk of a name by a test on its entry: its length, or its mark
abbrev len_in : Option OwnChunk → Option ℕ
len_in None = None
len_in (Some x) = Some x.len

len_found : (cmp : List ℕ → List ℕ → Ordering) → IsNameOrder cmp → (es : List (List ℕ × OwnChunk)) (n : List ℕ) → len_in (lookup (is_at (cmp n)) es) ≡ known_len (map own_entry es) n
len_found cmp law [] n = refl
len_found cmp law (e ∷ es) n =
    let same = same_name cmp law n e.0 in
    by_cases (name_eq e.0 n) (λ k. rw (same ∙ k, k) refl) (λ k. rw (same ∙ k, k) (len_found cmp law es n))

abbrev marked_in : Option OwnChunk → Bool
marked_in None = false
marked_in (Some x) = x.marked

marked_found : (cmp : List ℕ → List ℕ → Ordering) → IsNameOrder cmp → (es : List (List ℕ × OwnChunk)) (n : List ℕ) → marked_in (lookup (is_at (cmp n)) es) ≡ own_marked (map own_entry es) n
marked_found cmp law [] n = refl
marked_found cmp law (e ∷ es) n =
    let same = same_name cmp law n e.0 in
    by_cases (name_eq e.0 n) (λ k. rw (same ∙ k, k) refl) (λ k. rw (same ∙ k, k) (marked_found cmp law es n))

len_put : (e : OwnEntry) (l : List OwnEntry) → own_has l e.name ≡ false → own_len (own_with e l) e.name ≡ e.len
len_put e [] absent = rw (name_refl e.name) refl
len_put e (x ∷ xs) absent =
    let n = neither (name_eq x.name e.name) (own_has xs e.name) absent in
    by_cases (is_lt (slice_cmp nat_cmp e.name x.name))
    (λ k. rw (k, name_refl e.name) refl)
    (λ k. rw (k, n.0) (len_put e xs n.1))

marked_put : (e : OwnEntry) (l : List OwnEntry) → own_has l e.name ≡ false → own_marked (own_with e l) e.name ≡ e.marked
marked_put e [] absent = rw (name_refl e.name) refl
marked_put e (x ∷ xs) absent =
    let n = neither (name_eq x.name e.name) (own_has xs e.name) absent in
    by_cases (is_lt (slice_cmp nat_cmp e.name x.name))
    (λ k. rw (k, name_refl e.name) refl)
    (λ k. rw (k, n.0) (marked_put e xs n.1))

len_other : (c : OwnEntry) (l : List OwnEntry) (n : List ℕ) → name_eq c.name n ≡ false → known_len (own_with c l) n ≡ known_len l n
len_other c l n h = let o = own_with_other c l n h in rw (o.0, o.1) refl

-- the tree has no chunk of the name of the newest
not_newest : (cmp : List ℕ → List ℕ → Ordering) → IsNameOrder cmp → (c : OwnEntry) (es : List (List ℕ × OwnChunk)) (n : List ℕ) (x : OwnChunk) → lookup (is_at (cmp n)) es ≡ Some x → in_order own_key (own_with c (map own_entry es)) ≡ true → name_eq c.name n ≡ false
not_newest cmp law c es n x found ordered =
    let l = map own_entry es in
    let here : own_has l n ≡ true = sym (found_own cmp law es n) ∙ ap is_some found in
    by_cases (name_eq c.name n)
    (λ k. absurd (false≢true (sym (apart_own c l ordered) ∙ ap (own_has l) (name_same c.name n k) ∙ here)))
    (λ k. k)

-- the length that the tree has, and where it has none, that of the newest
pub len_in_tree : (cmp : List ℕ → List ℕ → Ordering) → IsNameOrder cmp → (newest : Option OwnEntry) (es : List (List ℕ × OwnChunk)) (n : List ℕ) (x : OwnChunk) → lookup (is_at (cmp n)) es ≡ Some x → in_order own_key (with_newest newest (map own_entry es)) ≡ true → Some x.len ≡ known_len (with_newest newest (map own_entry es)) n
len_in_tree cmp law None es n x found ordered = ap len_in (sym found) ∙ len_found cmp law es n
len_in_tree cmp law (Some c) es n x found ordered =
    sym (len_other c (map own_entry es) n (not_newest cmp law c es n x found ordered) ∙ sym (len_found cmp law es n) ∙ ap len_in found)

pub len_of_newest : (cmp : List ℕ → List ℕ → Ordering) → IsNameOrder cmp → (newest : Option OwnEntry) (es : List (List ℕ × OwnChunk)) (n : List ℕ) → lookup (is_at (cmp n)) es ≡ None → in_order own_key (with_newest newest (map own_entry es)) ≡ true → newest_len newest n ≡ known_len (with_newest newest (map own_entry es)) n
len_of_newest cmp law None es n none ordered = ap len_in (sym none) ∙ len_found cmp law es n
len_of_newest cmp law (Some c) es n none ordered =
    let l = map own_entry es in
    by_cases (name_eq c.name n)
    (λ k.
    let here : own_has (own_with c l) n ≡ true = own_with_is c l n ∙ ap (λ b. own_has l n || b) k ∙ or_true (own_has l n) in
    let len : own_len (own_with c l) n ≡ c.len = ap (own_len (own_with c l)) (sym (name_same c.name n k)) ∙ len_put c l (apart_own c l ordered) in
    rw (k, here, len) refl)
    (λ k. rw k (ap len_in (sym none) ∙ len_found cmp law es n ∙ sym (len_other c l n k)))
  where
    or_true : (a : Bool) → (a || true) ≡ true
    or_true true = refl
    or_true false = refl

-- and the mark
pub marked_in_tree : (cmp : List ℕ → List ℕ → Ordering) → IsNameOrder cmp → (newest : Option OwnEntry) (es : List (List ℕ × OwnChunk)) (n : List ℕ) (x : OwnChunk) → lookup (is_at (cmp n)) es ≡ Some x → in_order own_key (with_newest newest (map own_entry es)) ≡ true → x.marked ≡ own_marked (with_newest newest (map own_entry es)) n
marked_in_tree cmp law None es n x found ordered = ap marked_in (sym found) ∙ marked_found cmp law es n
marked_in_tree cmp law (Some c) es n x found ordered =
    sym ((own_with_other c (map own_entry es) n (not_newest cmp law c es n x found ordered)).2 ∙ sym (marked_found cmp law es n) ∙ ap marked_in found)

pub marked_of_newest : (cmp : List ℕ → List ℕ → Ordering) → IsNameOrder cmp → (newest : Option OwnEntry) (es : List (List ℕ × OwnChunk)) (n : List ℕ) → lookup (is_at (cmp n)) es ≡ None → in_order own_key (with_newest newest (map own_entry es)) ≡ true → newest_marked newest n ≡ own_marked (with_newest newest (map own_entry es)) n
marked_of_newest cmp law None es n none ordered = ap marked_in (sym none) ∙ marked_found cmp law es n
marked_of_newest cmp law (Some c) es n none ordered =
    let l = map own_entry es in
    by_cases (name_eq c.name n)
    (λ k. rw k (sym (ap (own_marked (own_with c l)) (sym (name_same c.name n k)) ∙ marked_put c l (apart_own c l ordered))))
    (λ k. rw k (ap marked_in (sym none) ∙ marked_found cmp law es n ∙ sym (own_with_other c l n k).2))

-- AN ENTRY THAT GOES IN

put_own : (cmp : List ℕ → List ℕ → Ordering) → IsNameOrder cmp → (es : List (List ℕ × OwnChunk)) (n : List ℕ) (x : OwnChunk) → own_has (map own_entry es) n ≡ false → map own_entry (insert_entry cmp es n x) ≡ own_with (own_entry (n, x)) (map own_entry es)
put_own cmp law [] n x absent = refl
put_own cmp law (e ∷ es) n x absent =
    let a = neither (name_eq e.0 n) (own_has (map own_entry es) n) absent in
    by_order (cmp n e.0)
    (λ k. let lt : is_lt (slice_cmp nat_cmp n e.0) ≡ true = ap is_lt (sym (law n e.0) ∙ k) in rw (k, lt) refl)
    (λ k. absurd (true≢false (sym (ap is_eq k) ∙ same_name cmp law n e.0 ∙ a.0)))
    (λ k. let lt : is_lt (slice_cmp nat_cmp n e.0) ≡ false = ap is_lt (sym (law n e.0) ∙ k) in rw (k, lt) (ap (λ l. own_entry e ∷ l) (put_own cmp law es n x a.1)))

-- the newest goes into the tree
pub newest_put : (cmp : List ℕ → List ℕ → Ordering) → IsNameOrder cmp → (es ns : List (List ℕ × OwnChunk)) (newest : Option OwnEntry) (c : OwnEntry) → newest ≡ Some c → in_order own_key (with_newest newest (map own_entry es)) ≡ true → ns ≡ insert_entry cmp es c.name (record { len = c.len; marked = c.marked }) → map own_entry ns ≡ with_newest newest (map own_entry es)
newest_put cmp law es ns newest c is ordered put =
    let ordered' = rw is at ordered in
    ap (map own_entry) put ∙ put_own cmp law es c.name (record { len = c.len; marked = c.marked }) (apart_own c (map own_entry es) ordered') ∙ ap (λ x. with_newest x (map own_entry es)) (sym is)

-- WHAT IS KEPT

pub ordered_kept : (q : OwnEntry → Bool) (l : List OwnEntry) → in_order own_key l ≡ true → in_order own_key (filter q l) ≡ true
ordered_kept q l h = in_order_kept own_key q l h

filter_with : (q : OwnEntry → Bool) (e : OwnEntry) (l : List OwnEntry) → in_order own_key l ≡ true → cond (q e) (own_with e (filter q l)) (filter q l) ≡ filter q (own_with e l)
filter_with q e l h = ap (λ (m : List OwnEntry). cond (q e) m (filter q l)) (with_is_one e (filter q l)) ∙ kept_with own_key q e l h ∙ ap (filter q) (sym (with_is_one e l))

-- marks change no name, so they change no place
all_marked : (mark : OwnEntry → Bool) (o : Object) (l : List OwnEntry) → list_all (λ (x : OwnEntry). is_lt (object_cmp o (own_key x))) (set_marks mark l) ≡ list_all (λ (x : OwnEntry). is_lt (object_cmp o (own_key x))) l
all_marked mark o [] = refl
all_marked mark o (x ∷ xs) = ap (λ b. is_lt (object_cmp o (own_key x)) && b) (all_marked mark o xs)

pub ordered_marks : (mark : OwnEntry → Bool) (l : List OwnEntry) → in_order own_key (set_marks mark l) ≡ in_order own_key l
ordered_marks mark [] = refl
ordered_marks mark (x ∷ xs) = λ i. all_marked mark (own_key x) xs i && ordered_marks mark xs i

abbrev marked_so : (OwnEntry → Bool) → OwnEntry → OwnEntry
marked_so mark e = record e { marked = mark e }

marks_with : (mark : OwnEntry → Bool) (e : OwnEntry) (l : List OwnEntry) → own_with (marked_so mark e) (set_marks mark l) ≡ set_marks mark (own_with e l)
marks_with mark e [] = refl
marks_with mark e (x ∷ xs) = by_cases (is_lt (slice_cmp nat_cmp e.name x.name)) (λ k. rw k refl) (λ k. rw k (ap (λ l. marked_so mark x ∷ l) (marks_with mark e xs)))

-- what a walk over the tree leaves that changes marks and drops some
pub marked_pairs : {F : Type 0} (T : F → List ℕ → OwnChunk → Bool → OwnChunk → F → Type 0) (q mark : OwnEntry → Bool) (f : F) → ((k : List ℕ) (v : OwnChunk) (b : Bool) (w : OwnChunk) (f' : F) → T f k v b w f' → (own_entry (k, w) ≡ marked_so mark (own_entry (k, v))) × (b ≡ q (marked_so mark (own_entry (k, v)))) × (f' ≡ f)) → (es kept : List (List ℕ × OwnChunk)) → RetainsPairs T f es kept → map own_entry kept ≡ filter q (set_marks mark (map own_entry es))
marked_pairs T q mark f told [] kept r = ap (map own_entry) r
marked_pairs T q mark f told (e ∷ es) kept r =
    let t = told e.0 e.1 r.0 r.1 r.2 r.4 in
    let rest = marked_pairs T q mark f told es r.3 (subst (λ u. RetainsPairs T u es r.3) t.2 r.5) in
    ap (map own_entry) r.6 ∙ each r.0 (e.0, r.1) r.3 ∙ (λ i. cond (t.1 i) (t.0 i ∷ rest i) (rest i))
  where
    each : (b : Bool) (x : List ℕ × OwnChunk) (xs : List (List ℕ × OwnChunk)) → map own_entry (cond b (x ∷ xs) xs) ≡ cond b (own_entry x ∷ map own_entry xs) (map own_entry xs)
    each true x xs = refl
    each false x xs = refl

-- the tree and the newest each by itself
with_choice : (b : Bool) (c : OwnEntry) (l : List OwnEntry) → with_newest (cond b (Some c) None) l ≡ cond b (own_with c l) l
with_choice true c l = refl
with_choice false c l = refl

before_newest : (c : OwnEntry) (l : List OwnEntry) → in_order own_key (own_with c l) ≡ true → in_order own_key l ≡ true
before_newest c l h = in_order_but own_key c l (ap (in_order own_key) (sym (with_is_one c l)) ∙ h)

pub left_marked : (kept : List Snapshot) (rows : List (ℕ × Row)) (es ns : List (List ℕ × OwnChunk)) (newest after : Option OwnEntry) → in_order own_key (with_newest newest (map own_entry es)) ≡ true → map own_entry ns ≡ given_up rows (set_marks (marks kept) (map own_entry es)) → after ≡ newest_left kept rows newest → with_newest after (map own_entry ns) ≡ given_up rows (set_marks (marks kept) (with_newest newest (map own_entry es)))
left_marked kept rows es ns None after ordered tree is = (λ i. with_newest (is i) (tree i))
left_marked kept rows es ns (Some c) after ordered tree is =
    let l = map own_entry es in
    let q : OwnEntry → Bool = λ e. not e.marked || is_named rows e.name in
    let m = set_marks (marks kept) l in
    (λ i. with_newest (is i) (tree i))
    ∙ with_choice (q (marked_so (marks kept) c)) (marked_so (marks kept) c) (filter q m)
    ∙ filter_with q (marked_so (marks kept) c) m (ordered_marks (marks kept) l ∙ before_newest c l ordered)
    ∙ ap (filter q) (marks_with (marks kept) c l)

pub marks_same : (l : List OwnEntry) → set_marks (λ e. e.marked) l ≡ l
marks_same [] = refl
marks_same (e ∷ es) = ap (λ l. e ∷ l) (marks_same es)

pub left_named : (rows : List (ℕ × Row)) (es ns : List (List ℕ × OwnChunk)) (newest after : Option OwnEntry) → in_order own_key (with_newest newest (map own_entry es)) ≡ true → map own_entry ns ≡ given_up rows (map own_entry es) → after ≡ newest_named rows newest → with_newest after (map own_entry ns) ≡ given_up rows (with_newest newest (map own_entry es))
left_named rows es ns None after ordered tree is = (λ i. with_newest (is i) (tree i))
left_named rows es ns (Some c) after ordered tree is =
    let l = map own_entry es in
    let q : OwnEntry → Bool = λ e. not e.marked || is_named rows e.name in
    (λ i. with_newest (is i) (tree i)) ∙ with_choice (q c) c (filter q l) ∙ filter_with q c l (before_newest c l ordered)

all_pass : (l : List OwnEntry) → filter (λ (e : OwnEntry). true) l ≡ l
all_pass [] = refl
all_pass (e ∷ es) = ap (λ l. e ∷ l) (all_pass es)

pub lifted_marks : (names : List (List ℕ)) (es ns : List (List ℕ × OwnChunk)) (newest after : Option OwnEntry) → map own_entry ns ≡ filter (λ (e : OwnEntry). true) (set_marks (lifts names) (map own_entry es)) → after ≡ newest_lifted names newest → with_newest after (map own_entry ns) ≡ set_marks (lifts names) (with_newest newest (map own_entry es))
lifted_marks names es ns None after tree is = (λ i. with_newest (is i) (tree i)) ∙ all_pass (set_marks (lifts names) (map own_entry es))
lifted_marks names es ns (Some c) after tree is =
    (λ i. with_newest (is i) (tree i)) ∙ ap (own_with (marked_so (lifts names) c)) (all_pass (set_marks (lifts names) (map own_entry es))) ∙ marks_with (lifts names) c (map own_entry es)

-- ONE THAT GOES

without_absent : (n : List ℕ) (l : List OwnEntry) → own_has l n ≡ false → without_name n l ≡ l
without_absent n [] h = refl
without_absent n (e ∷ es) h =
    let a = neither (name_eq e.name n) (own_has es n) h in
    rw a.0 (ap (λ l. e ∷ l) (without_absent n es a.1))

out_own : (cmp : List ℕ → List ℕ → Ordering) → IsNameOrder cmp → (es : List (List ℕ × OwnChunk)) (n : List ℕ) → in_order own_key (map own_entry es) ≡ true → map own_entry (remove_entry (is_at (cmp n)) es) ≡ without_name n (map own_entry es)
out_own cmp law [] n h = refl
out_own cmp law (e ∷ es) n h =
    let same = same_name cmp law n e.0 in
    by_cases (name_eq e.0 n)
    (λ k. rw (same ∙ k, k) (sym (without_absent n (map own_entry es) (none_behind own_key (own_entry e) (map own_entry es) (Chunk n) h k))))
    (λ k. rw (same ∙ k, k) (ap (λ l. own_entry e ∷ l) (out_own cmp law es n (rest_ordered own_key (own_entry e) (map own_entry es) h))))

other_choice : (b : Bool) (c : OwnEntry) (l : List OwnEntry) → with_newest (cond b None (Some c)) l ≡ cond (not b) (own_with c l) l
other_choice true c l = refl
other_choice false c l = refl

pub out_of_own : (cmp : List ℕ → List ℕ → Ordering) → IsNameOrder cmp → (n : List ℕ) (es ns : List (List ℕ × OwnChunk)) (newest after : Option OwnEntry) → in_order own_key (with_newest newest (map own_entry es)) ≡ true → ns ≡ remove_entry (is_at (cmp n)) es → after ≡ newest_other n newest → with_newest after (map own_entry ns) ≡ without_name n (with_newest newest (map own_entry es))
out_of_own cmp law n es ns None after ordered tree is = (λ i. with_newest (is i) (map own_entry (tree i))) ∙ out_own cmp law es n ordered
out_of_own cmp law n es ns (Some c) after ordered tree is =
    let l = map own_entry es in
    let q : OwnEntry → Bool = λ e. not (name_eq e.name n) in
    let before = before_newest c l ordered in
    (λ i. with_newest (is i) (map own_entry (tree i)))
    ∙ ap (with_newest (newest_other n (Some c))) (out_own cmp law es n before)
    ∙ other_choice (name_eq c.name n) c (without_name n l)
    ∙ filter_with q c l before

-- UNITS

lacks_len : (l : List OwnEntry) (n : List ℕ) → own_has l n ≡ false → own_len l n ≡ 0
lacks_len [] n h = refl
lacks_len (e ∷ es) n h = let a = neither (name_eq e.name n) (own_has es n) h in rw a.0 (lacks_len es n a.1)

pub units_none : (l : List OwnEntry) (n : List ℕ) → None ≡ known_len l n → units 0 ≡ units (own_len l n)
units_none l n h = by_cases (own_has l n) (λ k. let bad = rw k at h in absurd cc) (λ k. ap units (sym (lacks_len l n k)))

pub units_some : (l : List OwnEntry) (n : List ℕ) (len : ℕ) → Some len ≡ known_len l n → units len ≡ units (own_len l n)
units_some l n len h = by_cases (own_has l n) (λ k. let h' = rw k at h in let same : len ≡ own_len l n = cc in ap units same) (λ k. let bad = rw k at h in absurd cc)

-- THE WALK

abbrev first_entry : List (List ℕ × OwnChunk) → Option OwnEntry
first_entry [] = None
first_entry (e ∷ es) = Some (own_entry e)

and_true : (b : Bool) → (b && true) ≡ b
and_true true = refl
and_true false = refl

from_start : (cmp : List ℕ → List ℕ → Ordering) → IsNameOrder cmp → (lo : Bound (List ℕ)) (n : List ℕ) → (is_from_start cmp lo n && true) ≡ is_from_start (slice_cmp nat_cmp) lo n
from_start cmp law (Included a) n = and_true (is_le (cmp a n)) ∙ ap is_le (law a n)
from_start cmp law (Excluded a) n = and_true (is_lt (cmp a n)) ∙ ap is_lt (law a n)
from_start cmp law Unbounded n = refl

find_between : (cmp : List ℕ → List ℕ → Ordering) → IsNameOrder cmp → (lo : Bound (List ℕ)) (es : List (List ℕ × OwnChunk)) → first_entry (entries_between cmp lo Unbounded es) ≡ find (λ (e : OwnEntry). is_from_start (slice_cmp nat_cmp) lo e.name) (map own_entry es)
find_between cmp law lo [] = refl
find_between cmp law lo (e ∷ es) =
    let same = from_start cmp law lo e.0 in
    by_cases (is_from_start (slice_cmp nat_cmp) lo e.0) (λ k. rw (same ∙ k, k) refl) (λ k. rw (same ∙ k, k) (find_between cmp law lo es))

-- the first of a range, or none
pub first_none : (cmp : List ℕ → List ℕ → Ordering) → IsNameOrder cmp → (lo : Bound (List ℕ)) (es fs : List (List ℕ × OwnChunk)) → fs ≡ entries_between cmp lo Unbounded es → fs ≡ [] → None ≡ find (λ (e : OwnEntry). is_from_start (slice_cmp nat_cmp) lo e.name) (map own_entry es)
first_none cmp law lo es fs between none = ap first_entry (sym none ∙ between) ∙ find_between cmp law lo es

pub first_some : (cmp : List ℕ → List ℕ → Ordering) → IsNameOrder cmp → (lo : Bound (List ℕ)) (es fs ts : List (List ℕ × OwnChunk)) (name : List ℕ) (x : OwnChunk) → fs ≡ entries_between cmp lo Unbounded es → fs ≡ (name, x) ∷ ts → Some (own_entry (name, x)) ≡ find (λ (e : OwnEntry). is_from_start (slice_cmp nat_cmp) lo e.name) (map own_entry es)
first_some cmp law lo es fs ts name x between first = ap first_entry (sym first ∙ between) ∙ find_between cmp law lo es

behind_more : (name : Option (List ℕ)) (a b : List ℕ) → is_behind name a ≡ true → is_lt (slice_cmp nat_cmp a b) ≡ true → is_behind name b ≡ true
behind_more None a b h k = refl
behind_more (Some m) a b h k = less_then (Chunk m) (Chunk a) (Chunk b) h k

-- the first of the list is the nearer of that of the tree and of the newest
pub nearer_first : (name : Option (List ℕ)) (newest : Option OwnEntry) (l : List OwnEntry) → nearer (next_own name l) (newest_behind name newest) ≡ next_own name (with_newest newest l)
nearer_first name None l = none (next_own name l)
  where
    none : (o : Option OwnEntry) → nearer o None ≡ o
    none None = refl
    none (Some e) = refl
nearer_first name (Some c) l = by_cases (is_behind name c.name) (λ k. rw k (comes k l)) (λ k. rw k (none (next_own name l) ∙ stays k l))
  where
    none : (o : Option OwnEntry) → nearer o None ≡ o
    none None = refl
    none (Some e) = refl

    comes : is_behind name c.name ≡ true → (l : List OwnEntry) → nearer (next_own name l) (Some c) ≡ next_own name (own_with c l)
    comes k [] = rw k refl
    comes k (x ∷ xs) = by_cases (is_lt (slice_cmp nat_cmp c.name x.name))
        (λ j. let behind = behind_more name c.name x.name k j in rw (j, behind) (rw (j, k) refl))
        (λ j. rw j (by_cases (is_behind name x.name) (λ i. rw i (rw j refl)) (λ i. rw i (comes k xs))))

    stays : is_behind name c.name ≡ false → (l : List OwnEntry) → next_own name l ≡ next_own name (own_with c l)
    stays k [] = rw k refl
    stays k (x ∷ xs) = by_cases (is_lt (slice_cmp nat_cmp c.name x.name))
        (λ j. rw (j, k) refl)
        (λ j. rw j (by_cases (is_behind name x.name) (λ i. rw i refl) (λ i. rw i (stays k xs))))
