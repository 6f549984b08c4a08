-- The names that a walk over the own chunks lists, in their order.
use Rattle.std.proofs.Common.{◌≡◌, ℕ, ◌<◌, Bool, true, cond, List, [], ◌∷◌, ◌++◌, map, filter, Option, Some, None, refl, sym, ◌∙◌, ap, subst, append_assoc}
use Rattle.std.proofs.lemmas.List.{append-nil}
use Rattle.psb_model.specs.declared.entries.OwnEntry.{OwnEntry}
use Rattle.psb_model.proofs.ByObject.{by_cases}
use Rattle.peer_lists.specs.Entries.{in_order}
use Rattle.own_chunks.specs.OwnList.{own_key, next_own}
use Rattle.own_chunks.proofs.Walks.{own_left, first_behind, first_none, first_some, left_falls}

-- ---- the names that pass a test

abbrev pub names_that : (List ℕ → Bool) → List OwnEntry → List (List ℕ)
names_that test own = filter test (map (λ (e : OwnEntry). e.name) own)

-- The chunks are those that were walked and the rest, whose first is the next. The names of those that were walked are
-- listed, in their order, where they pass the test.
pub record ListsTo (own : List OwnEntry) (test : List ℕ → Bool) (next : Option OwnEntry) (names : List (List ℕ)) : Type 0 where
  pub done : List OwnEntry
  pub rest : List OwnEntry
  pub whole : own ≡ done ++ rest
  pub next_is : next ≡ next_own None rest
  pub names_are : names ≡ names_that test done

pub lists_start : (own : List OwnEntry) (test : List ℕ → Bool) (next : Option OwnEntry) → next ≡ next_own None own → ListsTo own test next []
lists_start own test next is = record { done = []; rest = own; whole = refl; next_is = is; names_are = refl }

-- at its end all are walked
pub lists_done : (own : List OwnEntry) (test : List ℕ → Bool) (names : List (List ℕ)) → ListsTo own test None names → names ≡ names_that test own
lists_done own test names w =
    let whole : own ≡ w.done = w.whole ∙ ap (λ (l : List OwnEntry). w.done ++ l) (first_none w.rest w.next_is) ∙ append-nil w.done in
    w.names_are ∙ ap (names_that test) (sym whole)

-- one chunk further
pub lists_on : (own : List OwnEntry) (test : List ℕ → Bool) (e : OwnEntry) (next : Option OwnEntry) (names names' : List (List ℕ)) → in_order own_key own ≡ true → ListsTo own test (Some e) names → next ≡ next_own (Some e.name) own
    → names' ≡ cond (test e.name) (names ++ e.name ∷ []) names → ListsTo own test next names'
lists_on own test e next names names' ordered w is grown =
    let f = first_some w.rest e w.next_is in
    let parted : own ≡ w.done ++ e ∷ f.0 = w.whole ∙ ap (λ (l : List OwnEntry). w.done ++ l) f.1 in
    record {
      done = w.done ++ e ∷ [];
      rest = f.0;
      whole = parted ∙ sym (append_assoc w.done (e ∷ []) f.0);
      next_is = is ∙ ap (next_own (Some e.name)) parted ∙ first_behind w.done e f.0 (subst (λ (l : List OwnEntry). in_order own_key l ≡ true) parted ordered);
      names_are = grown ∙ ap (λ (l : List (List ℕ)). cond (test e.name) (l ++ e.name ∷ []) l) w.names_are ∙ sym (with_last w.done);
    }
  where
    with_last : (l : List OwnEntry) → names_that test (l ++ e ∷ []) ≡ cond (test e.name) (names_that test l ++ e.name ∷ []) (names_that test l)
    with_last [] = by_cases (test e.name) (λ k. rw k refl) (λ k. rw k refl)
    with_last (x ∷ xs) = by_cases (test e.name)
        (λ k.
        let more : names_that test (xs ++ e ∷ []) ≡ names_that test xs ++ e.name ∷ [] = with_last xs ∙ ap (λ (b : Bool). cond b (names_that test xs ++ e.name ∷ []) (names_that test xs)) k in
        by_cases (test x.name) (λ j. rw (k, j) (ap (λ (l : List (List ℕ)). x.name ∷ l) more)) (λ j. rw (k, j) more))
        (λ k.
        let more : names_that test (xs ++ e ∷ []) ≡ names_that test xs = with_last xs ∙ ap (λ (b : Bool). cond b (names_that test xs ++ e.name ∷ []) (names_that test xs)) k in
        by_cases (test x.name) (λ j. rw (k, j) (ap (λ (l : List (List ℕ)). x.name ∷ l) more)) (λ j. rw (k, j) more))

-- and fewer are left
pub lists_falls : (own : List OwnEntry) (test : List ℕ → Bool) (e : OwnEntry) (next : Option OwnEntry) (names : List (List ℕ)) → in_order own_key own ≡ true → ListsTo own test (Some e) names → next ≡ next_own (Some e.name) own → own_left next own < own_left (Some e) own
lists_falls own test e next names ordered w is =
    let f = first_some w.rest e w.next_is in
    left_falls own e next w.done f.0 ordered (w.whole ∙ ap (λ (l : List OwnEntry). w.done ++ l) f.1) is
