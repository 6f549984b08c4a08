-- A discard that is due may be made.
use Rattle.std.proofs.Common.{◌≡◌, ◌≤◌, ℕ, ◌+◌, ◌-◌, ◌^◌, nat_lt, Bool, true, not, List, [], ◌∷◌, ◌++◌, length, map, filter, refl, ◌∙◌, arith, length-append}
use Rattle.std.specs.Int.{to_be_bytes, w32}
use Rattle.std.specs.List.{list_all, flat_map}
use Rattle.std.proofs.lemmas.Bool.{lt-ltb, ltb-true, and_parts}
use Rattle.std.proofs.lemmas.List.{length-map}
use Rattle.std.proofs.lemmas.List.Folds.{list_all-map}
use Rattle.psb_bytes.specs.declared.ids.Object.{Object}
use Rattle.psb_digest.specs.Words.{own_word}
use Rattle.psb_model.specs.declared.entries.InEntry.{InEntry}
use Rattle.psb_model.specs.Words.{objects_distinct, occurs}
use Rattle.psb_model.specs.State.{State, row, is_peer, in_key, debt_units, tied_in}
use Rattle.psb_model.specs.Discards.{one_in, is_picked, picks, seed, discards}
use Rattle.psb_model.specs.Grammar.{is_u32, is_count, object_fits}
use Rattle.psb_model.specs.Heads.{head_of, object}
use Rattle.psb_model.specs.History.{state}
use Rattle.psb_model.specs.Needed.{IsValid}
use Rattle.psb_model.specs.declared.change.Change.{Change}
use Rattle.psb_model.proofs.ByObject.{by_cases, all_kept, units_at-map, units_at-filter_both}
use Rattle.psb_model.proofs.Tidy.{IsTidy}
use Rattle.psb_model.proofs.Lengths.{counted_long}
use Rattle.psb_model.proofs.Steady.{steady_state}
use Rattle.model_laws.proofs.Widths.{in_fits, wide_state}
use Rattle.psb_machine.specs.Machine.{discarded_by}
use Rattle.psb_machine.proofs.Listing.{self, distinct_once}
use Rattle.psb_machine.proofs.Runs.{same_objects-refl}
use Rattle.psb_machine.proofs.Taken.{MayTake, begun_here}

-- ---- what is picked

-- each of it passes what all entries pass
all_picked : (t : InEntry → Bool) (words : ℕ → ℕ) (every j left room : ℕ) (es : List InEntry) → list_all t es ≡ true → list_all t (picks words every j left room es) ≡ true
all_picked t words every j left room [] h = refl
all_picked t words every j left room (e ∷ es) h =
    let a = and_parts (t e) (list_all t es) h in
    by_cases (is_picked every (words j) left room e)
    (λ k. rw k (rw a.0 (all_picked t words every (j + 1) (left - e.units) (room - 1) es a.1)))
    (λ k. rw k (all_picked t words every (j + 1) left room es a.1))

-- nothing is picked more often than it stands there
once_picked : (words : ℕ → ℕ) (every j left room : ℕ) (es : List InEntry) (o : Object) → occurs in_key (picks words every j left room es) o ≤ occurs in_key es o
once_picked words every j left room [] o = omega arith
once_picked words every j left room (e ∷ es) o = by_cases (is_picked every (words j) left room e)
    (λ k. rw k (omega (arith, once_picked words every (j + 1) (left - e.units) (room - 1) es o)))
    (λ k. rw k (omega (arith, once_picked words every (j + 1) left room es o)))

-- no more than there is room for
few_picked : (words : ℕ → ℕ) (every j left room : ℕ) (es : List InEntry) → length (picks words every j left room es) ≤ room
few_picked words every j left room [] = omega arith
few_picked words every j left room (e ∷ es) = by_cases (is_picked every (words j) left room e)
    (λ k.
    let some = ltb-true 0 room (and_parts _ (nat_lt 0 room) k).1 in
    rw k (omega (arith, some, few_picked words every (j + 1) (left - e.units) (room - 1) es)))
    (λ k. rw k (few_picked words every (j + 1) left room es))

-- ---- the objects of a discard

abbrev untied : State → ℕ → List InEntry
untied s p = filter (λ (e : InEntry). not (tied_in s p e.object)) (row s p).ins

discards_fit : (s : State) (p : ℕ) → list_all in_fits (row s p).ins ≡ true → list_all object_fits (map in_key (discards s p)) ≡ true
discards_fit s p wide =
    list_all-map object_fits in_key (discards s p)
    ∙ all_picked in_fits (own_word (seed s.settings) s.changes) (one_in (row s p).fails) 0 (debt_units (row s p)) 1048576 (untied s p) (all_kept in_fits (λ (e : InEntry). not (tied_in s p e.object)) (row s p).ins wide)

discards_distinct : (s : State) (p : ℕ) → IsTidy s.issued (row s p) → objects_distinct (map in_key (discards s p)) ≡ true
discards_distinct s p tidy = distinct_once (map in_key (discards s p))
    (λ o. omega (
      arith,
      units_at-map in_key (λ _. 1) self (λ _. 1) in_key (λ e. refl) (λ e. refl) (discards s p) o,
      once_picked (own_word (seed s.settings) s.changes) (one_in (row s p).fails) 0 (debt_units (row s p)) 1048576 (untied s p) o,
      units_at-filter_both in_key (λ _. 1) (λ (e : InEntry). not (tied_in s p e.object)) (row s p).ins o,
      tidy.ins_once o,
    ))

discards_few : (s : State) (p : ℕ) → length (map in_key (discards s p)) ≤ 1048576
discards_few s p = omega (arith, length-map (discards s p) in_key, few_picked (own_word (seed s.settings) s.changes) (one_in (row s p).fails) 0 (debt_units (row s p)) 1048576 (untied s p))

pub discarded_may : (h : List Change) (p : ℕ) → IsValid h → is_peer (state h) p ≡ true → is_u32 p ≡ true → (row (state h) p).due ≡ true → MayTake (state h) (discarded_by (state h) p)
discarded_may h p v peer p_fits due =
    let s = state h in
    let counted : is_count (length (map in_key (discards s p))) ≡ true = lt-ltb (length (map in_key (discards s p))) (2 ^ 32) (omega (arith, discards_few s p)) in
    record {
      grammar = rw (discards_distinct s p ((steady_state h v.lawful).good.rows p).tidy, counted) refl;
      may = rw (begun_here h v.some, peer, due) (rw (same_objects-refl (map in_key (discards s p))) refl);
      widths = rw (p_fits, discards_fit s p ((wide_state h v.lawful v.fit).rows p).ins) refl;
      brings = refl;
      answerable = refl;
    }

-- its record is no longer than a record may be
pub discarded_short : (h : List Change) (p : ℕ) → IsValid h → length (head_of (discarded_by (state h) p)) ≤ 34603020
discarded_short h p v =
    let s = state h in
    let os = map in_key (discards s p) in
    omega (
      arith,
      discards_few s p,
      counted_long os (discards_fit s p ((wide_state h v.lawful v.fit).rows p).ins),
      length-append (to_be_bytes w32 p) (to_be_bytes w32 (length os) ++ flat_map object os),
    )
