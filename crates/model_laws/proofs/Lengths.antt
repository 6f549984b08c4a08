-- The length of an own chunk stays while the chunk is own.
use Rattle.std.proofs.Common.{◌≡◌, ℕ, Bool, true, false, not, ◌&&◌, ◌||◌, List, [], ◌∷◌, ◌++◌, refl, sym, ap, ◌∙◌}
use Rattle.std.specs.Ordering.{nat_cmp, is_lt}
use Rattle.std.specs.Cmp.Lexicographic.{slice_cmp}
use Rattle.std.proofs.lemmas.Bool.{false≢true, and_parts}
use Rattle.psb_model.specs.declared.entries.OwnEntry.{OwnEntry}
use Rattle.psb_model.specs.declared.change.Change.{Change}
use Rattle.psb_model.specs.declared.change.Change.TheVariants.{Kept, Snapped, Forgot}
use Rattle.psb_model.specs.Words.{name_eq, name_listed}
use Rattle.psb_model.specs.State.{Row, State, own_has, own_len}
use Rattle.psb_model.specs.Grammar.{in_grammar}
use Rattle.psb_model.specs.Conditions.{allowed}
use Rattle.psb_model.specs.Effects.{given_up, own_after, own_with, set_marks, all_rows_after, kept_lists, kept_without}
use Rattle.psb_model.specs.History.{state}
use Rattle.psb_model.proofs.ByObject.{by_cases}
use Rattle.psb_model.proofs.Own.{name_same}
use Rattle.psb_model.proofs.Steps.{not_true}
use Rattle.psb_model.proofs.Prefixes.{state_snoc}
use Rattle.psb_model.proofs.Steady.{IsSteady, steady_after, is_kept, names_apart, filter_lacks, marks_has, marks_apart}
use Rattle.psb_model.proofs.Held.{own_with_is}
use Rattle.model_laws.proofs.Leaving.{own_kept}

pub given_len : (rows : List (ℕ × Row)) (l : List OwnEntry) (n : List ℕ) → names_apart l ≡ true → own_has (given_up rows l) n ≡ true → own_len (given_up rows l) n ≡ own_len l n
given_len rows [] n a h = refl
given_len rows (e ∷ es) n a h =
    let two = and_parts (not (own_has es e.name)) (names_apart es) a in
    by_cases (name_eq e.name n)
    (λ k. by_cases (is_kept rows e)
    (λ j. rw (j, k) refl)
    (λ j. let lacks : own_has (given_up rows es) n ≡ false = filter_lacks (is_kept rows) es n (ap (own_has es) (sym (name_same e.name n k)) ∙ not_true (own_has es e.name) two.0) in
    let h' : own_has (given_up rows es) n ≡ true = rw j at h in
    absurd (false≢true (sym lacks ∙ h'))))
    (λ k. by_cases (is_kept rows e)
    (λ j. rw (j, k) (given_len rows es n two.1 (let h' = rw j at h in rw k at h')))
    (λ j. rw (j, k) (given_len rows es n two.1 (rw j at h))))

marks_len : (mark : OwnEntry → Bool) (l : List OwnEntry) (n : List ℕ) → own_len (set_marks mark l) n ≡ own_len l n
marks_len mark [] n = refl
marks_len mark (e ∷ es) n = by_cases (name_eq e.name n) (λ k. rw k refl) (λ k. rw k (marks_len mark es n))

pub with_new : (e : OwnEntry) (l : List OwnEntry) (n : List ℕ) → own_has l n ≡ false → name_eq e.name n ≡ true → own_len (own_with e l) n ≡ e.len
with_new e [] n lacks k = rw k refl
with_new e (x ∷ xs) n lacks k =
    by_cases (is_lt (slice_cmp nat_cmp e.name x.name))
    (λ j. rw (j, k) refl)
    (λ j. by_cases (name_eq x.name n) (λ i. absurd (false≢true (sym lacks ∙ rw i refl))) (λ i. rw (j, i) (with_new e xs n (rw i at lacks) k)))

with_old : (e : OwnEntry) (l : List OwnEntry) (n : List ℕ) → name_eq e.name n ≡ false → own_len (own_with e l) n ≡ own_len l n
with_old e [] n k = rw k refl
with_old e (x ∷ xs) n k =
    by_cases (is_lt (slice_cmp nat_cmp e.name x.name))
    (λ j. rw (j, k) refl)
    (λ j. by_cases (name_eq x.name n) (λ i. rw (j, i) refl) (λ i. rw (j, i) (with_old e xs n k)))

pub apart_after : (s : State) (c : Change) → IsSteady s → in_grammar c ≡ true → allowed s c ≡ true → names_apart (own_after s c) ≡ true
apart_after s (Kept x) y g m = ap names_apart (sym (own_kept s x.name x.len x.new x.body y)) ∙ (steady_after s (Kept x) y g m).apart
apart_after s (Snapped x) y g m = marks_apart _ s.own y.apart
apart_after s (Forgot x) y g m = marks_apart _ s.own y.apart
apart_after s _ y g m = y.apart

-- an own chunk that is not kept now was own, with the length
pub record WasOwn (s : State) (c : Change) (n : List ℕ) : Type 0 where
  pub has : own_has s.own n ≡ true
  pub len : own_len (own_after s c) n ≡ own_len s.own n

either_of : (a b : Bool) → (a || b) ≡ true → b ≡ false → a ≡ true
either_of true b h k = refl
either_of false b h k = absurd (false≢true (sym k ∙ h))

abbrev pub keeps_now : Change → List ℕ → Bool
keeps_now (Kept x) n = name_eq x.name n
keeps_now _ n = false

pub was_own : (s : State) (c : Change) (n : List ℕ) → own_has (own_after s c) n ≡ true → keeps_now c n ≡ false → WasOwn s c n
was_own s (Kept x) n h k = record {
  has = either_of (own_has s.own n) (name_eq x.name n) (sym (own_with_is (record { name = x.name; len = x.len; marked = false }) s.own n) ∙ h) k;
  len = with_old (record { name = x.name; len = x.len; marked = false }) s.own n k;
}
was_own s (Snapped x) n h k = record { has = sym (marks_has (λ e. e.marked && not (name_listed x.names e.name)) s.own n) ∙ h; len = marks_len (λ e. e.marked && not (name_listed x.names e.name)) s.own n }
was_own s (Forgot x) n h k = record { has = sym (marks_has (λ e. e.marked || not (kept_lists (kept_without x.number s.kept) e.name)) s.own n) ∙ h; len = marks_len (λ e. e.marked || not (kept_lists (kept_without x.number s.kept) e.name)) s.own n }
was_own s _ n h k = record { has = h; len = refl }

-- what is own after a change has the length that the change leaves it
pub own_now : (h : List Change) (c : Change) (n : List ℕ) → IsSteady (state h) → in_grammar c ≡ true → allowed (state h) c ≡ true → own_has (state (h ++ c ∷ [])).own n ≡ true → own_len (state (h ++ c ∷ [])).own n ≡ own_len (own_after (state h) c) n
own_now h c n y g m is =
    ap (λ (t : State). own_len t.own n) (state_snoc h c)
    ∙ given_len (all_rows_after (state h) c) (own_after (state h) c) n (apart_after (state h) c y g m) (ap (λ (t : State). own_has t.own n) (sym (state_snoc h c)) ∙ is)
