-- The own names that a snapshot's end gives up: a walk over the own chunks in their order.
use Rattle.std.proofs.Common.{◌≡◌, ℕ, zero, suc, ◌<◌, Bool, true, false, not, ◌||◌, ◌&&◌, ◌==◌, cond, List, [], ◌∷◌, ◌++◌, length, get_or, Option, Some, None, refl, sym, ◌∙◌, ap, subst, arith, append_assoc}
use Rattle.std.proofs.lemmas.Bool.{false≢true}
use Rattle.std.proofs.lemmas.List.{append-nil}
use Rattle.psb_model.specs.declared.entries.OwnEntry.{OwnEntry}
use Rattle.psb_model.specs.declared.snapshots.Snapshot.{Snapshot}
use Rattle.psb_model.specs.Words.{name_eq, name_listed}
use Rattle.psb_model.specs.State.{own_has}
use Rattle.psb_model.specs.Effects.{kept_lists, kept_without}
use Rattle.psb_model.proofs.ByObject.{by_cases}
use Rattle.psb_model.proofs.Own.{name_same}
use Rattle.peer_lists.specs.Entries.{in_order}
use Rattle.own_chunks.specs.OwnList.{own_key, next_own}
use Rattle.own_chunks.proofs.Walks.{own_left, first_behind, first_none, first_some, left_falls}

-- ---- one of two, and both

pub or_none : (a : Bool) → (a || false) ≡ a
or_none true = refl
or_none false = refl

pub or_true : (a : Bool) → (a || true) ≡ true
or_true true = refl
or_true false = refl

or_last : (a b c : Bool) → (a || (b || c)) ≡ ((a || b) || c)
or_last true b c = refl
or_last false b c = refl

pub and_true : (a : Bool) → (a && true) ≡ a
and_true true = refl
and_true false = refl

pub and_none : (a : Bool) → (a && false) ≡ false
and_none true = refl
and_none false = refl

-- ---- the walk

-- The chunks are those that were walked and the rest, whose first is the next. Of those that were walked, the
-- names are listed that don't pass the test.
pub record WalkedTo (own : List OwnEntry) (stays : List ℕ → Bool) (next : Option OwnEntry) (names : List (List ℕ)) : Type 0 where
  pub done : List OwnEntry
  pub rest : List OwnEntry
  pub whole : own ≡ done ++ rest
  pub next_is : next ≡ next_own None rest
  pub names_are : (q : List ℕ) → name_listed names q ≡ (own_has done q && not (stays q))

pub walk_start : (own : List OwnEntry) (stays : List ℕ → Bool) (next : Option OwnEntry) → next ≡ next_own None own → WalkedTo own stays next []
walk_start own stays next is = record { done = []; rest = own; whole = refl; next_is = is; names_are = λ q. refl }

-- at its end all are walked
pub walk_done : (own : List OwnEntry) (stays : List ℕ → Bool) (names : List (List ℕ)) → WalkedTo own stays None names → (q : List ℕ) → name_listed names q ≡ (own_has own q && not (stays q))
walk_done own stays names w q =
    let whole : own ≡ w.done = w.whole ∙ ap (λ (l : List OwnEntry). w.done ++ l) (first_none w.rest w.next_is) ∙ append-nil w.done in
    w.names_are q ∙ ap (λ (l : List OwnEntry). own_has l q && not (stays q)) (sym whole)

has_last : (l : List OwnEntry) (e : OwnEntry) (q : List ℕ) → own_has (l ++ e ∷ []) q ≡ (own_has l q || name_eq e.name q)
has_last [] e q = or_none (name_eq e.name q)
has_last (x ∷ xs) e q = ap (λ (b : Bool). name_eq x.name q || b) (has_last xs e q) ∙ or_last (name_eq x.name q) (own_has xs q) (name_eq e.name q)

pub listed_last : (l : List (List ℕ)) (n q : List ℕ) → name_listed (l ++ n ∷ []) q ≡ (name_listed l q || name_eq n q)
listed_last [] n q = or_none (name_eq n q)
listed_last (x ∷ xs) n q = ap (λ (b : Bool). name_eq x q || b) (listed_last xs n q) ∙ or_last (name_eq x q) (name_listed xs q) (name_eq n q)

-- one chunk further
pub walk_on : (own : List OwnEntry) (stays : List ℕ → Bool) (e : OwnEntry) (next : Option OwnEntry) (names names' : List (List ℕ)) → in_order own_key own ≡ true → WalkedTo own stays (Some e) names → next ≡ next_own (Some e.name) own
    → names' ≡ cond (stays e.name) names (names ++ e.name ∷ []) → WalkedTo own stays next names'
walk_on own stays e next names names' ordered w is grown =
    let f = first_some w.rest e w.next_is in
    let parted : own ≡ w.done ++ e ∷ f.0 = w.whole ∙ ap (λ (l : List OwnEntry). w.done ++ l) f.1 in
    record {
      done = w.done ++ e ∷ [];
      rest = f.0;
      whole = parted ∙ sym (append_assoc w.done (e ∷ []) f.0);
      next_is = is ∙ ap (next_own (Some e.name)) parted ∙ first_behind w.done e f.0 (subst (λ (l : List OwnEntry). in_order own_key l ≡ true) parted ordered);
      names_are = λ q. ap (λ (l : List (List ℕ)). name_listed l q) grown ∙ by_name q ∙ sym (ap (λ (b : Bool). b && not (stays q)) (has_last w.done e q));
    }
  where
    gone : (a b s : Bool) → (a && not s) ≡ b → s ≡ true → ((a || true) && not s) ≡ b
    gone a b true h k = and_none (a || true) ∙ sym (and_none a) ∙ h
    gone a b false h k = absurd (false≢true k)

    came : (a b s : Bool) → s ≡ false → (b || true) ≡ ((a || true) && not s)
    came a b true k = absurd (false≢true (sym k))
    came true true false k = refl
    came true false false k = refl
    came false true false k = refl
    came false false false k = refl

    by_name : (q : List ℕ) → name_listed (cond (stays e.name) names (names ++ e.name ∷ [])) q ≡ ((own_has w.done q || name_eq e.name q) && not (stays q))
    by_name q = by_cases (name_eq e.name q)
        (λ k.
        let same : stays e.name ≡ stays q = ap stays (name_same e.name q k) in
        by_cases (stays e.name)
        (λ s. rw (s, k) (sym (gone (own_has w.done q) (name_listed names q) (stays q) (sym (w.names_are q)) (sym same ∙ s))))
        (λ s. rw (s, k) (listed_last names e.name q ∙ ap (λ (b : Bool). name_listed names q || b) k ∙ came (own_has w.done q) (name_listed names q) (stays q) (sym same ∙ s))))
        (λ k.
        by_cases (stays e.name)
        (λ s. rw (s, k) (w.names_are q ∙ sym (ap (λ (b : Bool). b && not (stays q)) (or_none (own_has w.done q)))))
        (λ s. rw (s, k) (listed_last names e.name q ∙ ap (λ (b : Bool). name_listed names q || b) k ∙ or_none (name_listed names q) ∙ w.names_are q ∙ sym (ap (λ (b : Bool). b && not (stays q)) (or_none (own_has w.done q))))))

-- and fewer are left
pub walk_falls : (own : List OwnEntry) (stays : List ℕ → Bool) (e : OwnEntry) (next : Option OwnEntry) (names : List (List ℕ)) → in_order own_key own ≡ true → WalkedTo own stays (Some e) names → next ≡ next_own (Some e.name) own → own_left next own < own_left (Some e) own
walk_falls own stays e next names ordered w is =
    let f = first_some w.rest e w.next_is in
    left_falls own e next w.done f.0 ordered (w.whole ∙ ap (λ (l : List OwnEntry). w.done ++ l) f.1) is

-- ---- the kept snapshots but one

-- one that is not it lists the name
pub one_lists : (number : ℕ) (kept : List Snapshot) (i : ℕ) (d e : Snapshot) (n : List ℕ) → i < length kept → ((get_or kept i d).number == number) ≡ false → name_listed (get_or kept i e).names n ≡ true → kept_lists (kept_without number kept) n ≡ true
one_lists number [] i d e n lt other h = absurd (omega (arith, lt))
one_lists number (k ∷ ks) zero d e n lt other h = rw (other, h) refl
one_lists number (k ∷ ks) (suc i) d e n lt other h = by_cases (k.number == number)
    (λ j. rw j (one_lists number ks i d e n (omega (arith, lt)) other h))
    (λ j. rw j (ap (λ (b : Bool). name_listed k.names n || b) (one_lists number ks i d e n (omega (arith, lt)) other h) ∙ or_true (name_listed k.names n)))
