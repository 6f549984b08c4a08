-- A change of the table at one name, seen at each name.
use Rattle.std.proofs.Common.{◌≡◌, ℕ, Bool, true, false, not, ◌&&◌, ◌||◌, cond, List, Option, Some, None, Result, Ok, Err, OnErr, refl, sym, ap, ◌∙◌}
use Rattle.std.specs.Ordering.{nat_cmp}
use Rattle.std.specs.Cmp.Lexicographic.{slice_cmp}
use Rattle.std.specs.BTreeMap.{BTreeMap, get, UpdatesBy}
use Rattle.std.proofs.lemmas.Map.Text.{is_eq-slice_cmp}
use Rattle.std.proofs.lemmas.Slice.Eq.{bytes_eq-Decides}
use Rattle.psb_bytes.specs.Objects.{name_eq}
use Rattle.chunk_store.specs.declared.owner.Owner.{Owner}
use Rattle.chunk_store.specs.declared.table.Held.{Held}
use Rattle.chunk_store.specs.Owners.{owner_eq}
use Rattle.chunk_store.specs.Records.{or_else}
use Rattle.chunk_store.specs.Table.{record_in, owner_in}
use Rattle.chunk_store.proofs.OwnerLists.{by_cases}

pub same_name : (a b : List ℕ) → name_eq a b ≡ true → a ≡ b
same_name a b = (bytes_eq-Decides a b).0

pub name_eq-refl : (a : List ℕ) → name_eq a a ≡ true
name_eq-refl a = (bytes_eq-Decides a a).1 refl

-- what the table has under a name
abbrev pub at : BTreeMap (List ℕ) Held → List ℕ → Option Held
at m q = get (slice_cmp nat_cmp) m q

-- n is m with w under the name k
abbrev pub Changes : BTreeMap (List ℕ) Held → BTreeMap (List ℕ) Held → List ℕ → Option Held → Type 0
Changes m n k w = (q : List ℕ) → at n q ≡ cond (name_eq k q) w (at m q)

pub changed : (m n : BTreeMap (List ℕ) Held) (k : List ℕ) (w : Option Held) → UpdatesBy (slice_cmp nat_cmp) (slice_cmp nat_cmp k) m n w → Changes m n k w
changed m n k w step q = step.0 q ∙ ap (λ (b : Bool). cond b w (at m q)) (is_eq-slice_cmp k q)

-- one change after another of the same name
pub changed_again : (l m n : BTreeMap (List ℕ) Held) (k : List ℕ) (v w : Option Held) → Changes l m k v → Changes m n k w → Changes l n k w
changed_again l m n k v w first then q = then q ∙ ap (λ (h : Option Held). cond (name_eq k q) w h) (first q) ∙ by_cases (name_eq k q) (λ e. rw e refl) (λ e. rw e refl)

-- the owners of each name, where f says what becomes of one of the changed name
pub owners_changed : (f : Bool → Bool → Bool) → ((x : Bool) → f x false ≡ x) → (m n : BTreeMap (List ℕ) Held) (k name : List ℕ) (w : Option Held) (owner : Owner) → k ≡ name → Changes m n k w
    → ((o : Owner) → owner_in w o ≡ f (owner_in (at m k) o) (owner_eq owner o)) → (o : Owner) (q : List ℕ) → owner_in (at n q) o ≡ f (owner_in (at m q) o) (name_eq name q && owner_eq owner o)
owners_changed f keeps m n k name w owner is step here o q =
    ap (λ (h : Option Held). owner_in h o) (step q)
    ∙ by_cases (name_eq k q)
    (λ e. rw e (here o ∙ ap (λ (x : List ℕ). f (owner_in (at m x) o) (owner_eq owner o)) (same_name k q e)))
    (λ e. rw e (sym (keeps (owner_in (at m q) o))))
    ∙ ap (λ (x : List ℕ). f (owner_in (at m q) o) (name_eq x q && owner_eq owner o)) is

pub or_none : (x : Option ℕ) → or_else x None ≡ x
or_none (Some k) = refl
or_none None = refl

-- a record is put where there was none
pub record_put : (m n : BTreeMap (List ℕ) Held) (k name : List ℕ) (w : Option Held) (record_no : ℕ) → k ≡ name → Changes m n k w
    → record_in w ≡ or_else (record_in (at m k)) (Some record_no) → (q : List ℕ) → record_in (at n q) ≡ or_else (record_in (at m q)) (cond (name_eq name q) (Some record_no) None)
record_put m n k name w record_no is step here q =
    ap record_in (step q)
    ∙ by_cases (name_eq k q)
    (λ e. rw e (here ∙ ap (λ (x : List ℕ). or_else (record_in (at m x)) (Some record_no)) (same_name k q e)))
    (λ e. rw e (sym (or_none (record_in (at m q)))))
    ∙ ap (λ (x : List ℕ). or_else (record_in (at m q)) (cond (name_eq x q) (Some record_no) None)) is

-- the records of all names stay
pub records_stay : (m n : BTreeMap (List ℕ) Held) (k : List ℕ) (w : Option Held) → Changes m n k w → record_in w ≡ record_in (at m k) → (q : List ℕ) → record_in (at n q) ≡ record_in (at m q)
records_stay m n k w step here q =
    ap record_in (step q)
    ∙ by_cases (name_eq k q) (λ e. rw e (here ∙ ap (λ (x : List ℕ). record_in (at m x)) (same_name k q e))) (λ e. rw e refl)

-- so do those of the other names
pub others_stay : (m n : BTreeMap (List ℕ) Held) (k name : List ℕ) (w : Option Held) → k ≡ name → Changes m n k w → (q : List ℕ) → name_eq name q ≡ false → record_in (at n q) ≡ record_in (at m q)
others_stay m n k name w is step q other =
    let e : name_eq k q ≡ false = ap (λ (x : List ℕ). name_eq x q) is ∙ other in
    ap record_in (step q) ∙ rw e refl

-- what stands under the changed name
pub changed_here : (m n : BTreeMap (List ℕ) Held) (k : List ℕ) (w : Option Held) → Changes m n k w → at n k ≡ w
changed_here m n k w step = step k ∙ ap (λ (b : Bool). cond b w (at m k)) (name_eq-refl k)

pub or_false : (x : Bool) → (x || false) ≡ x
or_false true = refl
or_false false = refl

pub and_not_false : (x : Bool) → (x && not false) ≡ x
and_not_false true = refl
and_not_false false = refl

pub on_err : {T E : Type 0} {P : Type 0} (r : Result T E) → P → OnErr r P
on_err (Ok x) p = tt
on_err (Err e) p = p
