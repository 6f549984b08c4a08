-- A store as a whole: the table, and what was added last.
use Rattle.std.proofs.Common.{◌≡◌, ◌↔◌, ◌⊎◌, ℕ, Bool, true, false, not, ◌&&◌, ◌||◌, cond, List, Option, Some, None, IsSome, ⊎_elim, refl, sym, ap, ◌∙◌}
use Rattle.std.specs.Option.{is_none}
use Rattle.psb_bytes.specs.Objects.{name_eq}
use Rattle.chunk_store.specs.declared.owner.Owner.{Owner}
use Rattle.chunk_store.specs.declared.latest.Addition.{Addition}
use Rattle.chunk_store.specs.declared.table.Held.{Held}
use Rattle.chunk_store.specs.declared.store.Store.{Store}
use Rattle.chunk_store.specs.Records.{or_else}
use Rattle.chunk_store.specs.Latest.{added_record, added_owner}
use Rattle.chunk_store.specs.Table.{record_in, owner_in, held_at, recorded}
use Rattle.chunk_store.specs.Store.{record_of, is_owner}
use Rattle.chunk_store.proofs.OwnerLists.{by_cases, owner_eq-refl}
use Rattle.chunk_store.proofs.Names.{same_name}

owned_of : (h : Option Held) (a : Option Addition) (name : List ℕ) → IsSome (or_else (record_in h) (added_record a name)) ↔ ((o : Owner) × ((owner_in h o || added_owner a o name) ≡ true))
owned_of (Some held) a name = (λ _. (held.owners.first, rw (owner_eq-refl held.owners.first) refl), λ _. refl)
owned_of None None name = (λ some. absurd (cc), λ owned. absurd (cc (owned.1)))
owned_of None (Some x) name = by_cases (name_eq x.name name)
    (λ k. rw k (λ _. (x.owner, owner_eq-refl x.owner), λ _. refl))
    (λ k. rw k (λ some. absurd (cc), λ owned. absurd (cc (owned.1))))

-- a name has a record exactly where somebody owns it
pub owned : (s : Store) (name : List ℕ) → IsSome (record_of s name) ↔ ((o : Owner) × (is_owner s o name ≡ true))
owned s name = owned_of (held_at s.table name) s.latest name

-- it has none exactly where nobody does
pub last_went : (s : Store) (name : List ℕ) → (is_none (record_of s name) ≡ true) ↔ ((o : Owner) → is_owner s o name ≡ false)
last_went s name = parts (record_of s name) (λ (o : Owner). is_owner s o name) (owned s name)
  where
    no_other : (b : Bool) → ¬ (b ≡ true) → b ≡ false
    no_other true never = absurd (never refl)
    no_other false never = refl

    parts : (r : Option ℕ) (own : Owner → Bool) → IsSome r ↔ ((o : Owner) × (own o ≡ true)) → (is_none r ≡ true) ↔ ((o : Owner) → own o ≡ false)
    parts (Some k) own is = (λ none. absurd (cc), λ nobody. let some = is.0 refl in absurd (cc (some.1, nobody some.0)))
    parts None own is = (λ _ o. no_other (own o) (λ e. let some = is.1 (o, e) in absurd (cc (some))), λ _. refl)

pub both_less : (l a x : Bool) → ((l && not x) || (a && not x)) ≡ ((l || a) && not x)
both_less true true x = or_self (not x)
  where
    or_self : (y : Bool) → (y || y) ≡ y
    or_self true = refl
    or_self false = refl
both_less true false true = refl
both_less true false false = refl
both_less false true x = refl
both_less false false x = refl

-- the record that is left of a name has not changed
record_left : (t u a b : Option ℕ) (k : ℕ) → or_else t a ≡ Some k → ((u ≡ t) ⊎ (u ≡ None)) → ((b ≡ Some k) ⊎ (b ≡ None)) → or_else u b ≡ cond (is_none (or_else u b)) None (Some k)
record_left t (Some j) a b k had stays takes = ⊎_elim (λ e. let t_is : t ≡ Some j = sym e in sym (ap (λ (x : Option ℕ). or_else x a) t_is) ∙ had) (λ e. absurd (cc (e))) stays
record_left t None a (Some j) k had stays takes = ⊎_elim (λ e. e) (λ e. absurd (cc (e))) takes
record_left t None a None k had stays takes = refl

-- the records once an owner lets a name go: that name's is the same or gone, and the others stay
pub records_left : (s n : Store) (name : List ℕ) (k : ℕ) → record_of s name ≡ Some k
    → ((q : List ℕ) → name_eq name q ≡ false → recorded n.table q ≡ recorded s.table q) → ((recorded n.table name ≡ recorded s.table name) ⊎ (recorded n.table name ≡ None))
    → ((q : List ℕ) → name_eq name q ≡ false → added_record n.latest q ≡ added_record s.latest q) → ((added_record n.latest name ≡ Some k) ⊎ (added_record n.latest name ≡ None))
    → (q : List ℕ) → record_of n q ≡ cond (name_eq name q && is_none (record_of n name)) None (record_of s q)
records_left s n name k had others here more takes q = by_cases (name_eq name q)
    (λ e. let same = same_name name q e in
    rw e (ap (record_of n) (sym same)
    ∙ record_left (recorded s.table name) (recorded n.table name) (added_record s.latest name) (added_record n.latest name) k had here takes
    ∙ ap (λ (r : Option ℕ). cond (is_none (record_of n name)) None r) (sym had ∙ ap (record_of s) same)))
    (λ e. rw e (ap (λ (r : Option ℕ). or_else r (added_record n.latest q)) (others q e) ∙ ap (or_else (recorded s.table q)) (more q e)))
