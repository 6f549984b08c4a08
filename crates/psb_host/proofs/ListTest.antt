-- The test of a listing decides what the trait says of one.
use Rattle.std.proofs.Common.{◌≡◌, inl, inr, ⊎_elim, ◌==◌, ℕ, Bool, true, not, List, [], ◌∷◌, ◌++◌, All, Contains, Option, Some, None, IfSome, is_some, refl, sym, ap, subst, ◌∙◌, append_assoc}
use Rattle.std.specs.Bool.{Decides}
use Rattle.std.specs.List.{list_all, list_any}
use Rattle.std.specs.Ordering.{nat_cmp, eq_by_cmp}
use Rattle.std.specs.Cmp.Lexicographic.{slice_cmp}
use Rattle.std.specs.FinMap.{get, keys, contains_key, contains_key-keys}
use Rattle.std.proofs.lemmas.Bool.{eqb-true, eq-eqb}
use Rattle.std.proofs.lemmas.Bool.Decides.{Decides-at, Decides-like, Decides-not, Decides-and, Decides-or, Decides-by_and, Decides-by_or, Decides-eqb}
use Rattle.std.proofs.lemmas.List.Elements.{All-contains, All-weaker, All-contains_itself, Decides-contains}
use Rattle.std.proofs.lemmas.Slice.Eq.{bytes_eq-Decides}
use Rattle.std.proofs.lemmas.Map.Text.{is_eq-slice_cmp}
use Rattle.std.specs.Str.{bytes_eq}
use Rattle.psb_station.specs.Folder.{Content, Stored, Folder, File, Special, IsName, Lists, plain, found, child, kind_of, is_name}
use Rattle.psb_station.specs.MemTree.{under}
use Rattle.psb_station.specs.declared.item.Item.{Item}
use Rattle.psb_station.specs.declared.item.Kind.{Kind}
use Rattle.psb_station.specs.declared.item.Kind.TheVariants as kind
use Rattle.psb_station.proofs.PathText.{by_cases, plain_child}
use Rattle.psb_host.specs.HonestFolder.{where_holds, is_folder, is_kind, behind, name_in, names_of, is_listed, lists_so}

-- what a test of a content lets through
pub passed : (test : Content → Bool) (P : Content → Type 0) → ((c : Content) → test c ≡ true → P c) → (o : Option Content) → IfSome (where_holds test o) P
passed test P true_is None = tt
passed test P true_is (Some c) = by_cases (test c) (λ k. rw k (true_is c k)) (λ k. rw k tt)

-- what a list holds, where each element is compared with one
Decides-held : (E : List ℕ → List ℕ → Bool) → ((x y : List ℕ) → Decides (E x y) (x ≡ y)) → (x : List ℕ) (l : List (List ℕ)) → Decides (list_any (E x) l) (Contains l x)
Decides-held E each x l =
    Decides-contains l x (list_any (E x) l)
    (Decides-by_or (E x) (λ y. y ≡ x) (list_any (E x)) (λ y. Decides-like (E x y) sym sym (each x y)) refl (λ y ys. refl) l)

Decides-byte : (b : ℕ) (l : List ℕ) → Decides (list_any (λ d. d == b) l) (Contains l b)
Decides-byte b l =
    Decides-contains l b (list_any (λ d. d == b) l)
    (Decides-by_or (λ d. d == b) (λ d. d ≡ b) (list_any (λ d. d == b)) (λ d. Decides-eqb d b) refl (λ d ds. refl) l)

Decides-is_name : (name : List ℕ) → Decides (is_name name) (IsName name)
Decides-is_name name = (λ is. is, λ is. is)

Decides-is_folder : (o : Option Stored) → Decides (is_folder o) (o ≡ Some Folder)
Decides-is_folder None = (λ e. absurd (cc), λ e. absurd (cc))
Decides-is_folder (Some Folder) = (λ _. refl, λ _. refl)
Decides-is_folder (Some (File bytes)) = (λ e. absurd (cc), λ e. absurd (cc))
Decides-is_folder (Some Special) = (λ e. absurd (cc), λ e. absurd (cc))

-- what stands there has this kind
abbrev HasKind : Option Stored → Kind → Type 0
HasKind o k = (s : Stored) × (o ≡ Some s) × (kind_of s ≡ k)

kind_told : (o : Option Stored) (k : Kind) → is_kind k o ≡ true → HasKind o k
kind_told (Some Folder) kind.Folder is = (Folder, refl, refl)
kind_told (Some (File bytes)) kind.File is = (File bytes, refl, refl)
kind_told (Some Special) kind.Other is = (Special, refl, refl)
kind_told (Some Folder) kind.File is = absurd (cc)
kind_told (Some Folder) kind.Other is = absurd (cc)
kind_told (Some (File bytes)) kind.Folder is = absurd (cc)
kind_told (Some (File bytes)) kind.Other is = absurd (cc)
kind_told (Some Special) kind.Folder is = absurd (cc)
kind_told (Some Special) kind.File is = absurd (cc)
kind_told None kind.Folder is = absurd (cc)
kind_told None kind.File is = absurd (cc)
kind_told None kind.Other is = absurd (cc)

kind_tests : (s : Stored) → is_kind (kind_of s) (Some s) ≡ true
kind_tests Folder = refl
kind_tests (File bytes) = refl
kind_tests Special = refl

Decides-is_kind : (o : Option Stored) (k : Kind) → Decides (is_kind k o) (HasKind o k)
Decides-is_kind o k = (kind_told o k, λ has. subst (λ (p : Option Stored). is_kind k p ≡ true) (sym has.1) (subst (λ (j : Kind). is_kind j (Some has.0) ≡ true) has.2 (kind_tests has.0)))

-- what follows a front, and what it stands for
behind_front : (front rest : List ℕ) → behind front (front ++ rest) ≡ Some rest
behind_front [] rest = refl
behind_front (c ∷ front) rest = rw (eq-eqb c c refl) (behind_front front rest)

from_behind : (front path rest : List ℕ) → behind front path ≡ Some rest → path ≡ front ++ rest
from_behind [] path rest is = ap (λ (o : Option (List ℕ)). or_none o) is
  where
    or_none : Option (List ℕ) → List ℕ
    or_none None = []
    or_none (Some l) = l
from_behind (c ∷ front) [] rest is = absurd (cc)
from_behind (c ∷ front) (d ∷ path) rest is = by_cases (c == d)
    (λ k. let there : behind front path ≡ Some rest = rw k at is in
    ap (λ (l : List ℕ). d ∷ l) (from_behind front path rest there) ∙ ap (λ (x : ℕ). x ∷ front ++ rest) (sym (eqb-true c d k)))
    (λ k. let none : None ≡ Some rest = rw k at is in absurd (cc))

named_in : (folder name : List ℕ) → name_in folder (under folder name) ≡ Some name
named_in [] name = refl
named_in (c ∷ folder) name = ap (behind (c ∷ folder ++ 47 ∷ [])) (sym (append_assoc (c ∷ folder) (47 ∷ []) name)) ∙ behind_front (c ∷ folder ++ 47 ∷ []) name

from_named : (folder path name : List ℕ) → name_in folder path ≡ Some name → path ≡ under folder name
from_named [] path name is = from_behind [] path name is
from_named (c ∷ folder) path name is = from_behind (c ∷ folder ++ 47 ∷ []) path name is ∙ append_assoc (c ∷ folder) (47 ∷ []) name

-- a valid name is listed
abbrev IsListed : List Item → List ℕ → Type 0
IsListed items name = IsName name → Contains (names_of items) name

Decides-is_listed : (items : List Item) (o : Option (List ℕ)) → Decides (is_listed items o) (IfSome o (IsListed items))
Decides-is_listed items None = (λ _. tt, λ _. refl)
Decides-is_listed items (Some name) =
    Decides-like (is_listed items (Some name))
    (λ either valid. ⊎_elim (λ none. absurd (none valid)) (λ has. has) either)
    (λ all. by_cases (is_name name) (λ k. inr (all ((Decides-is_name name).0 k))) (λ k. inl ((Decides-not (is_name name) (Decides-is_name name)).0 (ap not k))))
    (Decides-or _ _ (Decides-not _ (Decides-is_name name)) (Decides-held bytes_eq bytes_eq-Decides name (names_of items)))

-- each path that has something is among the keys
Decides-key : (c : Content) (path : List ℕ) → Decides (contains_key c path) (Contains (keys c) path)
Decides-key c path =
    Decides-at (contains_key c path) _ (contains_key-keys c path)
    (Decides-held (eq_by_cmp (slice_cmp nat_cmp)) (λ x y. Decides-at _ (bytes_eq x y) (is_eq-slice_cmp x y) (bytes_eq-Decides x y)) path (keys c))

some_of : (o : Option Stored) → is_some o ≡ true → (s : Stored) × (o ≡ Some s)
some_of None is = absurd (cc)
some_of (Some s) is = (s, refl)

abbrev Stands : Content → List ℕ → Item → Type 0
Stands c path i = HasKind (found c (child path i.name)) i.kind

-- each child of the folder is listed
abbrev AllListed : Content → List ℕ → List Item → Type 0
AllListed c path items = (name : List ℕ) (s : Stored) → IsName name → found c (child path name) ≡ Some s → Contains (names_of items) name

from_keys : (c : Content) (path : List ℕ) (items : List Item) → All (λ key. IfSome (name_in (plain path) key) (IsListed items)) (keys c) → AllListed c path items
from_keys c path items all name s valid there =
    let looked : get c (under (plain path) name) ≡ Some s = ap (get c) (sym (plain_child path name valid)) ∙ there in
    let key : Contains (keys c) (under (plain path) name) = (Decides-key c (under (plain path) name)).0 (ap (λ (o : Option Stored). is_some o) looked) in
    let listed = All-contains (λ key. IfSome (name_in (plain path) key) (IsListed items)) (keys c) (under (plain path) name) all key in
    subst (λ (o : Option (List ℕ)). IfSome o (IsListed items)) (named_in (plain path) name) listed valid

to_keys : (c : Content) (path : List ℕ) (items : List Item) → AllListed c path items → All (λ key. IfSome (name_in (plain path) key) (IsListed items)) (keys c)
to_keys c path items all = All-weaker (Contains (keys c)) (λ key. IfSome (name_in (plain path) key) (IsListed items)) (λ key has. here key has (name_in (plain path) key) refl) (keys c) (All-contains_itself (keys c))
  where
    here : (key : List ℕ) → Contains (keys c) key → (o : Option (List ℕ)) → name_in (plain path) key ≡ o → IfSome o (IsListed items)
    here key has None is = tt
    here key has (Some name) is = λ valid.
        let s = some_of (get c key) ((Decides-key c key).1 has) in
        all name s.0 valid (ap (get c) (plain_child path name valid ∙ sym (from_named (plain path) key name is)) ∙ s.1)

pub Decides-lists : (path : List ℕ) (items : List Item) (c : Content) → Decides (lists_so path items c) (Lists c path items)
Decides-lists path items c =
    Decides-like (lists_so path items c)
    (λ all. record { folder = all.0.0; stand = λ i has. All-contains (Stands c path) items i all.0.1 has; all = from_keys c path items all.1 })
    (λ is. ((is.folder, All-weaker (Contains items) (Stands c path) is.stand items (All-contains_itself items)), to_keys c path items is.all))
    (Decides-and _ _
    (Decides-and _ _ (Decides-is_folder (found c path))
    (Decides-by_and (λ (i : Item). is_kind i.kind (found c (child path i.name))) (Stands c path) (list_all (λ (i : Item). is_kind i.kind (found c (child path i.name)))) (λ i. Decides-is_kind (found c (child path i.name)) i.kind) refl (λ i is. refl) items))
    (Decides-by_and (λ (key : List ℕ). is_listed items (name_in (plain path) key)) (λ key. IfSome (name_in (plain path) key) (IsListed items)) (list_all (λ (key : List ℕ). is_listed items (name_in (plain path) key))) (λ key. Decides-is_listed items (name_in (plain path) key)) refl (λ key ks. refl) (keys c)))

-- what is told after a listing has these items
pub listed : (path : List ℕ) (items : List Item) (o : Option Content) → IfSome (where_holds (lists_so path items) o) (λ c. Lists c path items)
listed path items o = passed (lists_so path items) (λ c. Lists c path items) (λ c is. (Decides-lists path items c).0 is) o
