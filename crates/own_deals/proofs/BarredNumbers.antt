-- The first numbers of names, in a tree beside the list of them.
use Rattle.std.proofs.Common.{◌≡◌, ℕ, ◌≤◌, true, false, List, [], ◌∷◌, ◌++◌, Option, Some, None, refl, sym, ap, ◌∙◌, arith}
use Rattle.std.specs.Prelude.{is_some, if◌then◌else◌}
use Rattle.std.specs.List.{list_any}
use Rattle.std.specs.Option.{option_or}
use Rattle.std.specs.Map.{lookup}
use Rattle.std.specs.BTreeMap.{is_at, insert_entry}
use Rattle.std.specs.declared.cmp.Ordering.{Ordering}
use Rattle.std.specs.Ordering.{nat_cmp, is_eq}
use Rattle.std.specs.Cmp.Lexicographic.{slice_cmp}
use Rattle.psb_model.specs.Words.{name_eq, name_listed}
use Rattle.psb_model.proofs.Own.{name_same}
use Rattle.psb_model.proofs.ByObject.{by_cases}
use Rattle.own_deals.specs.OwnDeals.{names_of, number_of, latest_number, barred_room, KnowsNumbers}
use Rattle.own_deals.specs.declared.barred.Barring.{Barring}
use Rattle.peer_lists.proofs.Trees.{by_order}
use Rattle.own_deals.proofs.NameOrder.{same_name}

-- a name has a number where it stands in the list
pub is_there : (l : List (List ℕ × ℕ)) (n : List ℕ) → is_some (number_of l n) ≡ list_any (λ (b : List ℕ × ℕ). name_eq b.0 n) l
is_there [] n = refl
is_there (b ∷ bs) n = by_cases (name_eq b.0 n) (λ k. rw k refl) (λ k. rw k (is_there bs n))

pub is_named : (l : List (List ℕ × ℕ)) (n : List ℕ) → is_some (number_of l n) ≡ name_listed (names_of l) n
is_named [] n = refl
is_named (b ∷ bs) n = by_cases (name_eq b.0 n) (λ k. rw k refl) (λ k. rw k (is_named bs n))

-- what a tree finds is what its entries say first
pub in_tree : (cmp : List ℕ → List ℕ → Ordering) → ((a b : List ℕ) → cmp a b ≡ slice_cmp nat_cmp a b) → (es : List (List ℕ × ℕ)) (n : List ℕ) → lookup (is_at (cmp n)) es ≡ number_of es n
in_tree cmp law [] n = refl
in_tree cmp law (e ∷ es) n =
    let same = same_name cmp law n e.0 in
    by_cases (name_eq e.0 n) (λ k. rw (same ∙ k, k) refl) (λ k. rw (same ∙ k, k) (in_tree cmp law es n))

or_none : (o : Option ℕ) → option_or o None ≡ o
or_none None = refl
or_none (Some x) = refl

-- the first of a list that has no number for the name has another name, and so has the rest
other : (b : List ℕ × ℕ) (bs : List (List ℕ × ℕ)) (n : List ℕ) → number_of (b ∷ bs) n ≡ None → (name_eq b.0 n ≡ false) × (number_of bs n ≡ None)
other b bs n absent =
    by_cases (name_eq b.0 n)
    (λ k. let h : Some b.1 ≡ None = rw k at absent in absurd (cc))
    (λ k. (k, rw k at absent))

-- a name that a tree does not have goes in
put_in_tree : (cmp : List ℕ → List ℕ → Ordering) → ((a b : List ℕ) → cmp a b ≡ slice_cmp nat_cmp a b) → (es : List (List ℕ × ℕ)) (m : List ℕ) (c : ℕ) (n : List ℕ) → number_of es m ≡ None → number_of (insert_entry cmp es m c) n ≡ option_or (number_of es n) (if name_eq m n then Some c else None)
put_in_tree cmp law [] m c n absent = refl
put_in_tree cmp law (e ∷ es) m c n absent =
    let o = other e es m absent in
    by_order (cmp m e.0)
    (λ k. rw k (in_front (number_of (e ∷ es) n) (λ same. ap (number_of (e ∷ es)) (sym (name_same m n same)) ∙ absent)))
    (λ k. let same : name_eq e.0 m ≡ true = sym (same_name cmp law m e.0) ∙ ap is_eq k in absurd (cc))
    (λ k. rw k (by_cases (name_eq e.0 n) (λ h. rw h refl) (λ h. rw h (put_in_tree cmp law es m c n o.1))))
  where
    in_front : (there : Option ℕ) → (name_eq m n ≡ true → there ≡ None) → (if name_eq m n then Some c else there) ≡ option_or there (if name_eq m n then Some c else None)
    in_front there none = by_cases (name_eq m n) (λ h. rw (h, none h) refl) (λ h. rw h (sym (or_none there)))

-- the one that waits goes into the tree, where its name is not there yet
pub knows_settled : (cmp : List ℕ → List ℕ → Ordering) → ((a b : List ℕ) → cmp a b ≡ slice_cmp nat_cmp a b) → (items es ns : List (List ℕ × ℕ)) (latest : Option Barring) (b : Barring) → latest ≡ Some b → is_some (lookup (is_at (cmp b.name)) es) ≡ false → ns ≡ insert_entry cmp es b.name b.change → KnowsNumbers items es latest → KnowsNumbers items ns None
knows_settled cmp law items es ns latest b is absent put h n =
    h n ∙ ap (λ o. option_or (number_of es n) (latest_number o n)) is
    ∙ sym (put_in_tree cmp law es b.name b.change n (sym (in_tree cmp law es b.name) ∙ is_none (lookup (is_at (cmp b.name)) es) absent))
    ∙ ap (λ l. number_of l n) (sym put)
    ∙ sym (or_none (number_of ns n))
  where
    is_none : (o : Option ℕ) → is_some o ≡ false → o ≡ None
    is_none None none = refl
    is_none (Some x) none = absurd (cc)

-- and where it is there, nothing is lost with it
pub knows_before : (cmp : List ℕ → List ℕ → Ordering) → ((a b : List ℕ) → cmp a b ≡ slice_cmp nat_cmp a b) → (items es : List (List ℕ × ℕ)) (latest : Option Barring) (b : Barring) → latest ≡ Some b → is_some (lookup (is_at (cmp b.name)) es) ≡ true → KnowsNumbers items es latest → KnowsNumbers items es None
knows_before cmp law items es latest b is there h n =
    h n ∙ ap (λ o. option_or (number_of es n) (latest_number o n)) is
    ∙ by_cases (name_eq b.name n)
    (λ k. covered (number_of es n) (latest_number (Some b) n) (ap (λ m. is_some (number_of es m)) (sym (name_same b.name n k)) ∙ ap is_some (sym (in_tree cmp law es b.name)) ∙ there))
    (λ k. rw k refl)
  where
    covered : (o p : Option ℕ) → is_some o ≡ true → option_or o p ≡ option_or o None
    covered None p some = absurd (cc)
    covered (Some x) p some = refl

-- one name more waits, where none did
pub knows_more : (items es : List (List ℕ × ℕ)) (m : List ℕ) (change : ℕ) → KnowsNumbers items es None → KnowsNumbers (items ++ (m, change) ∷ []) es (Some (record { name = m; change = change }))
knows_more items es m change h n = behind items ∙ ap (λ o. option_or o (if name_eq m n then Some change else None)) (h n ∙ or_none (number_of es n))
  where
    behind : (l : List (List ℕ × ℕ)) → number_of (l ++ (m, change) ∷ []) n ≡ option_or (number_of l n) (if name_eq m n then Some change else None)
    behind [] = refl
    behind (x ∷ xs) = by_cases (name_eq x.0 n) (λ k. rw k refl) (λ k. rw k (behind xs))

-- the number that the tree has, and where it has none, that of the one that waits
pub number_in_tree : (cmp : List ℕ → List ℕ → Ordering) → ((a b : List ℕ) → cmp a b ≡ slice_cmp nat_cmp a b) → (items es : List (List ℕ × ℕ)) (latest : Option Barring) (n : List ℕ) (x : ℕ) → lookup (is_at (cmp n)) es ≡ Some x → KnowsNumbers items es latest → Some x ≡ number_of items n
number_in_tree cmp law items es latest n x found h = sym (h n ∙ ap (λ o. option_or o (latest_number latest n)) (sym (in_tree cmp law es n) ∙ found))

pub number_of_latest : (cmp : List ℕ → List ℕ → Ordering) → ((a b : List ℕ) → cmp a b ≡ slice_cmp nat_cmp a b) → (items es : List (List ℕ × ℕ)) (latest : Option Barring) (n : List ℕ) → lookup (is_at (cmp n)) es ≡ None → KnowsNumbers items es latest → latest_number latest n ≡ number_of items n
number_of_latest cmp law items es latest n none h = sym (h n ∙ ap (λ o. option_or o (latest_number latest n)) (sym (in_tree cmp law es n) ∙ none))

-- where there is room, none waits
pub none_waits : (latest : Option Barring) (free : ℕ) → 1 ≤ barred_room latest free → latest ≡ None
none_waits None free room = refl
none_waits (Some b) free room = absurd (omega (arith, room))
