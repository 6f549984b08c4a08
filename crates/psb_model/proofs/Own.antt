-- Own chunks through a change: what is wanted or named by a pending deal stays.
use Rattle.std.proofs.Common.{◌≡◌, ◌⊎◌, ℕ, Bool, true, false, not, ◌&&◌, ◌||◌, List, [], ◌∷◌, ◌++◌, filter, Some, refl, sym, ap, ◌∙◌, inl, inr, ⊎_elim}
use Rattle.std.specs.Prelude.{◌==◌}
use Rattle.std.specs.List.{list_all}
use Rattle.std.proofs.lemmas.Bool.{false≢true, and_parts}
use Rattle.psb_bytes.specs.declared.ids.Object.TheVariants.{Chunk}
use Rattle.psb_model.specs.declared.entries.OwnEntry.{OwnEntry}
use Rattle.psb_model.specs.declared.snapshots.Snapshot.{Snapshot}
use Rattle.psb_model.specs.declared.deals.Deal.{Deal}
use Rattle.psb_model.specs.declared.change.Change.{Change}
use Rattle.psb_model.specs.declared.change.Change.TheVariants.{Kept, Snapped, Forgot}
use Rattle.psb_model.specs.Conditions.{tests}
use Rattle.psb_model.specs.Effects.{deal_name, given_up, is_named, kept_after, kept_lists, kept_without, own_after, own_with, pending_name, set_marks}
use Rattle.psb_model.specs.State.{Row, State, debt_key, out_key, own_has, own_len, own_marked, row_in}
use Rattle.psb_model.specs.Words.{all_of, has, name_eq, name_listed}
use Rattle.std.proofs.lemmas.Slice.Eq.{bytes_eq-Decides}
use Rattle.std.specs.Ordering.{is_lt, nat_cmp}
use Rattle.std.specs.Cmp.Lexicographic.{slice_cmp}
use Rattle.psb_model.proofs.ByObject.{by_cases}
use Rattle.psb_model.proofs.Steps.{parts, not_true}

pub name_same : (a b : List ℕ) → name_eq a b ≡ true → a ≡ b
name_same a b = (bytes_eq-Decides a b).0

pub name_refl : (a : List ℕ) → name_eq a a ≡ true
name_refl a = (bytes_eq-Decides a a).1 refl

-- own still has the name, with its length
pub record KeepsName (own own' : List OwnEntry) (n : List ℕ) : Type 0 where
  pub has : own_has own' n ≡ true
  pub len : own_len own' n ≡ own_len own n

pub keeps_then : (a b c : List OwnEntry) (n : List ℕ) → KeepsName a b n → KeepsName b c n → KeepsName a c n
keeps_then a b c n x y = record { has = y.has; len = y.len ∙ x.len }

-- a filter that passes every entry of the name
filter_keeps : (t : OwnEntry → Bool) (l : List OwnEntry) (n : List ℕ) → ((e : OwnEntry) → name_eq e.name n ≡ true → t e ≡ true) → own_has l n ≡ true → KeepsName l (filter t l) n
filter_keeps t [] n f h = absurd (false≢true h)
filter_keeps t (e ∷ es) n f h =
    by_cases (name_eq e.name n)
    (λ k. rw (f e k) (record { has = rw k refl; len = rw k refl }))
    (λ k. let h' = rw k at h in
    let ih = filter_keeps t es n f h' in
    by_cases (t e) (λ j. rw j (record { has = rw k ih.has; len = rw k ih.len })) (λ j. rw j (record { has = ih.has; len = rw k ih.len })))

pub named_keeps : (rows : List (ℕ × Row)) (l : List OwnEntry) (n : List ℕ) → is_named rows n ≡ true → own_has l n ≡ true → KeepsName l (given_up rows l) n
named_keeps rows l n named h = filter_keeps (λ e. not e.marked || is_named rows e.name) l n (λ e k. passes e (ap (is_named rows) (name_same e.name n k) ∙ named)) h
  where
    passes : (e : OwnEntry) → is_named rows e.name ≡ true → (not e.marked || is_named rows e.name) ≡ true
    passes e k = by_cases (not e.marked) (λ j. rw j refl) (λ j. rw (j, k) refl)

-- an unmarked name
pub record IsUnmarked (own : List OwnEntry) (n : List ℕ) : Type 0 where
  pub has : own_has own n ≡ true
  pub free : own_marked own n ≡ false

pub unmarked_stays : (rows : List (ℕ × Row)) (l : List OwnEntry) (n : List ℕ) → IsUnmarked l n → IsUnmarked (given_up rows l) n
unmarked_stays rows [] n u = absurd (false≢true u.has)
unmarked_stays rows (e ∷ es) n u =
    by_cases (name_eq e.name n)
    (λ k. let free = rw k at u.free in rw free (record { has = rw k refl; free = rw k refl }))
    (λ k. let has = rw k at u.has in
    let free = rw k at u.free in
    let ih = unmarked_stays rows es n (record { has = has; free = free }) in
    by_cases (not e.marked || is_named rows e.name) (λ j. rw j (record { has = rw k ih.has; free = rw k ih.free })) (λ j. rw j ih))

-- marks change no name and no length
pub marks_keep : (mark : OwnEntry → Bool) (l : List OwnEntry) (n : List ℕ) → own_has l n ≡ true → KeepsName l (set_marks mark l) n
marks_keep mark [] n h = absurd (false≢true h)
marks_keep mark (e ∷ es) n h =
    by_cases (name_eq e.name n)
    (λ k. record { has = rw k refl; len = rw k refl })
    (λ k. let ih = marks_keep mark es n (rw k at h) in record { has = rw k ih.has; len = rw k ih.len })

pub marks_free : (mark : OwnEntry → Bool) (l : List OwnEntry) (n : List ℕ) → own_has l n ≡ true → ((e : OwnEntry) → e.name ≡ n → e.marked ≡ own_marked l n → mark e ≡ false) → IsUnmarked (set_marks mark l) n
marks_free mark [] n h f = absurd (false≢true h)
marks_free mark (e ∷ es) n h f =
    by_cases (name_eq e.name n)
    (λ k. record { has = rw k refl; free = rw k (f e (name_same e.name n k) (rw k refl)) })
    (λ k. let ih = marks_free mark es n (rw k at h) (λ x a b. f x a (rw k b)) in record { has = rw k ih.has; free = rw k ih.free })

-- one more name leaves the others
with_step : (x : OwnEntry) (rest : List OwnEntry) (l : List OwnEntry) (n : List ℕ) → ((name_eq x.name n ≡ false) → (own_has rest n ≡ own_has l n) × (own_len rest n ≡ own_len l n) × (own_marked rest n ≡ own_marked l n)) → (own_has (x ∷ rest) n ≡ own_has (x ∷ l) n) × (own_len (x ∷ rest) n ≡ own_len (x ∷ l) n) × (own_marked (x ∷ rest) n ≡ own_marked (x ∷ l) n)
with_step x rest l n f = by_cases (name_eq x.name n) (λ k. rw k (refl, refl, refl)) (λ k. rw k (f k))

pub own_with_other : (e : OwnEntry) (l : List OwnEntry) (n : List ℕ) → name_eq e.name n ≡ false → (own_has (own_with e l) n ≡ own_has l n) × (own_len (own_with e l) n ≡ own_len l n) × (own_marked (own_with e l) n ≡ own_marked l n)
own_with_other e [] n k = rw k (refl, refl, refl)
own_with_other e (x ∷ xs) n k =
    by_cases (is_lt (slice_cmp nat_cmp e.name x.name))
    (λ j. rw (j, k) (refl, refl, refl))
    (λ j. rw j (with_step x (own_with e xs) xs n (λ _. own_with_other e xs n k)))

-- a name that own lacks is another one
apart : (own : List OwnEntry) (a n : List ℕ) → own_has own a ≡ false → own_has own n ≡ true → name_eq a n ≡ false
apart own a n lacks here = by_cases (name_eq a n) (λ k. absurd (false≢true (sym lacks ∙ ap (own_has own) (name_same a n k) ∙ here))) (λ k. k)

-- own before what is given up
pub own_after_keeps : (s : State) (c : Change) (n : List ℕ) → all_of (tests s c) ≡ true → own_has s.own n ≡ true → KeepsName s.own (own_after s c) n
own_after_keeps s (Kept x) n h here =
    let ts = parts (tests s (Kept x)) h in
    let same = own_with_other (record { name = x.name; len = x.len; marked = false }) s.own n (apart s.own x.name n (not_true (own_has s.own x.name) ts.0) here) in
    record { has = same.0 ∙ here; len = same.1 }
own_after_keeps s (Snapped x) n h here = marks_keep (λ e. e.marked && not (name_listed x.names e.name)) s.own n here
own_after_keeps s (Forgot x) n h here = marks_keep (λ e. e.marked || not (kept_lists (kept_without x.number s.kept) e.name)) s.own n here
own_after_keeps s _ n h here = record { has = here; len = refl }

-- WANTED

wanted_more : (kept : List Snapshot) (k : Snapshot) (n : List ℕ) → kept_lists (kept ++ k ∷ []) n ≡ true → (kept_lists kept n ≡ true) ⊎ (name_listed k.names n ≡ true)
wanted_more [] k n h = inr (or_none (name_listed k.names n) h)
  where
    or_none : (b : Bool) → (b || false) ≡ true → b ≡ true
    or_none true h = refl
    or_none false h = h
wanted_more (x ∷ xs) k n h =
    by_cases (name_listed x.names n)
    (λ j. inl (rw j refl))
    (λ j. ⊎_elim (λ (a : kept_lists xs n ≡ true). inl (rw j a)) (λ (b : name_listed k.names n ≡ true). inr b) (wanted_more xs k n (rw j at h)))

pub wanted_less : (number : ℕ) (kept : List Snapshot) (n : List ℕ) → kept_lists (kept_without number kept) n ≡ true → kept_lists kept n ≡ true
wanted_less number [] n h = h
wanted_less number (x ∷ xs) n h =
    by_cases (name_listed x.names n)
    (λ j. rw j refl)
    (λ j. rw j (wanted_less number xs n (by_cases (not (x.number == number)) (λ i. let h' = rw i at h in rw j at h') (λ i. rw i at h))))

listed_own : (own : List OwnEntry) (names : List (List ℕ)) (n : List ℕ) → list_all (own_has own) names ≡ true → name_listed names n ≡ true → own_has own n ≡ true
listed_own own [] n a l = absurd (false≢true l)
listed_own own (x ∷ xs) n a l =
    let both = and_parts (own_has own x) (list_all (own_has own) xs) a in
    by_cases (name_eq x n)
    (λ k. ap (own_has own) (sym (name_same x n k)) ∙ both.0)
    (λ k. listed_own own xs n both.1 (rw k at l))

-- what is wanted after a change is unmarked then, as it was before if it was wanted
pub wanted_after : (s : State) (c : Change) (n : List ℕ) → ((x : List ℕ) → kept_lists s.kept x ≡ true → IsUnmarked s.own x) → all_of (tests s c) ≡ true → kept_lists (kept_after s c) n ≡ true → IsUnmarked (own_after s c) n
wanted_after s (Kept x) n f h w =
    let ts = parts (tests s (Kept x)) h in
    let u = f n w in
    let same = own_with_other (record { name = x.name; len = x.len; marked = false }) s.own n (apart s.own x.name n (not_true (own_has s.own x.name) ts.0) u.has) in
    record { has = same.0 ∙ u.has; free = same.2 ∙ u.free }
wanted_after s (Snapped x) n f h w =
    let ts = parts (tests s (Snapped x)) h in
    ⊎_elim
    (λ (a : kept_lists s.kept n ≡ true). let u = f n a in marks_free (λ e. e.marked && not (name_listed x.names e.name)) s.own n u.has (λ e _ m. rw (m ∙ u.free) refl))
    (λ (b : name_listed x.names n ≡ true). marks_free (λ e. e.marked && not (name_listed x.names e.name)) s.own n (listed_own s.own x.names n ts.1.1.0 b) (λ e same _. let l : name_listed x.names e.name ≡ true = ap (name_listed x.names) same ∙ b in and_false e.marked (name_listed x.names e.name) l))
    (wanted_more s.kept (record { number = x.number; ticket = x.ticket; files = x.files; folders = x.folders; bytes = x.bytes; left = x.left; names = x.names }) n w)
  where
    and_false : (m b : Bool) → b ≡ true → (m && not b) ≡ false
    and_false true b h = rw h refl
    and_false false b h = refl
wanted_after s (Forgot x) n f h w =
    let u = f n (wanted_less x.number s.kept n w) in
    marks_free (λ e. e.marked || not (kept_lists (kept_without x.number s.kept) e.name)) s.own n u.has
    (λ e same m. let l : kept_lists (kept_without x.number s.kept) e.name ≡ true = ap (kept_lists (kept_without x.number s.kept)) same ∙ w in rw (m ∙ u.free, l) refl)
wanted_after s _ n f h w = f n w

-- the pending deal of a row names its chunk
pub pending_named : (rows : List (ℕ × Row)) (q : ℕ) (d : Deal) (n : List ℕ) → (row_in rows q).pending ≡ Some d → deal_name d.what ≡ n ∷ [] → is_named rows n ≡ true
pending_named [] q d n e h = cc
pending_named (x ∷ xs) q d n e h =
    by_cases (x.0 == q)
    (λ k. let e' = rw k at e in
    let one : name_listed (pending_name deal_name x.1.pending) n ≡ true = ap (λ y. name_listed (pending_name deal_name y) n) e' ∙ ap (λ y. name_listed y n) h ∙ rw (name_refl n) refl in
    rw one (or_true (has out_key x.1.outs (Chunk n)) (has debt_key x.1.debts (Chunk n)) _))
    (λ k. let e' = rw k at e in
    let there = pending_named xs q d n e' h in
    or_last (has out_key x.1.outs (Chunk n) || has debt_key x.1.debts (Chunk n) || name_listed (pending_name deal_name x.1.pending) n) _ there)
  where
    or_true : (a b c : Bool) → (((a || b) || true) || c) ≡ true
    or_true true b c = refl
    or_true false true c = refl
    or_true false false c = refl

    or_last : (a b : Bool) → b ≡ true → (a || b) ≡ true
    or_last true b h = refl
    or_last false b h = h
