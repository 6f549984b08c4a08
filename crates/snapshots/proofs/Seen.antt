-- The names that a walk saw, and those of one folder more.
use Rattle.std.proofs.Common.{◌≡◌, ◌≢◌, ◌⊎◌, inl, inr, ⊎_elim, ℕ, true, List, [], ◌∷◌, ◌++◌, map, All, Option, Some, None, refl, sym, ap, subst, ◌∙◌, append_assoc}
use Rattle.std.specs.List.{list_all, IsDistinct}
use Rattle.std.specs.Str.{bytes_eq}
use Rattle.std.proofs.lemmas.List.{map-append}
use Rattle.std.proofs.lemmas.List.Elements.{All-contains}
use Rattle.psb_bytes.specs.Names.{has_names}
use Rattle.psb_bytes.specs.Paths.{parents}
use Rattle.psb_station.specs.Folder.{Content, Stored, Folder as AFolder, File as AFile, Special as ASpecial, found, child, kind_of, IsName, Lists}
use Rattle.psb_station.specs.MemTree.{under}
use Rattle.psb_station.specs.declared.item.Item.{Item}
use Rattle.psb_station.proofs.PathText.{under_same}
use Rattle.skeleton.specs.declared.entry.EntryKind.{EntryKind}
use Rattle.skeleton.specs.declared.entry.EntryKind.TheVariants as kind
use Rattle.snapshots.specs.declared.walking.Found.{Found}
use Rattle.snapshots.specs.Walks.{IsKind, StandsAs, InTree}
use Rattle.snapshots.specs.WalkSteps.{In, entry_kind, child_of, found_as, founds, special_as, specials, is_text, IsSeen}
use Rattle.snapshots.proofs.Members.{to_in, from_in, in_left, in_right, in_app, in_map, of_map, passes, Apart, to_apart, from_apart, apart_app, apart_map}
use Rattle.snapshots.proofs.PathSplits.{IsBase, named_under, parents_under, same_base}

abbrev pub name_of : Item → List ℕ
name_of i = i.name

abbrev pub path_of : Found → List ℕ
path_of f = f.path

abbrev pub folder_at : List ℕ → Found
folder_at path = record { path = path; kind = kind.Folder }

-- ---- what was found among what was seen

pub founds_app : (a b : List Item) → founds (a ++ b) ≡ founds a ++ founds b
founds_app [] b = refl
founds_app (i ∷ a) b = ap (λ (l : List Found). found_as i.name (entry_kind i.kind) ++ l) (founds_app a b) ∙ sym (append_assoc (found_as i.name (entry_kind i.kind)) (founds a) (founds b))

pub specials_app : (a b : List Item) → specials (a ++ b) ≡ specials a ++ specials b
specials_app [] b = refl
specials_app (i ∷ a) b = ap (λ (l : List (List ℕ)). special_as i.name (entry_kind i.kind) ++ l) (specials_app a b) ∙ sym (append_assoc (special_as i.name (entry_kind i.kind)) (specials a) (specials b))

as_found : (path : List ℕ) (o : Option EntryKind) (f : Found) → In f (found_as path o) → (path ≡ f.path) × (o ≡ Some f.kind)
as_found path None f i = absurd i
as_found path (Some k) f (inl is) = (ap path_of is, ap (λ (g : Found). Some g.kind) is)
as_found path (Some k) f (inr i) = absurd i

pub of_founds : (f : Found) (items : List Item) → In f (founds items) → (i : Item) × In i items × (i.name ≡ f.path) × (entry_kind i.kind ≡ Some f.kind)
of_founds f [] i = absurd i
of_founds f (x ∷ items) i = ⊎_elim
    (λ here. let a = as_found x.name (entry_kind x.kind) f here in (x, inl refl, a.0, a.1))
    (λ there. let o = of_founds f items there in (o.0, inr o.1, o.2, o.3))
    (in_app f (found_as x.name (entry_kind x.kind)) (founds items) i)

pub to_founds : (i : Item) (k : EntryKind) (items : List Item) → In i items → entry_kind i.kind ≡ Some k → In (record { path = i.name; kind = k }) (founds items)
to_founds i k [] has is = absurd has
to_founds i k (x ∷ items) (inl same) is =
    let it : found_as x.name (entry_kind x.kind) ≡ record { path = i.name; kind = k } ∷ [] = ap (λ (y : Item). found_as y.name (entry_kind y.kind)) same ∙ ap (found_as i.name) is in
    in_left (record { path = i.name; kind = k }) (found_as x.name (entry_kind x.kind)) (founds items) (subst (λ (l : List Found). In (record { path = i.name; kind = k }) l) (sym it) (inl refl))
to_founds i k (x ∷ items) (inr has) is = in_right (record { path = i.name; kind = k }) (found_as x.name (entry_kind x.kind)) (founds items) (to_founds i k items has is)

as_special : (path : List ℕ) (o : Option EntryKind) (p : List ℕ) → In p (special_as path o) → (path ≡ p) × (o ≡ None)
as_special path None p (inl is) = (is, refl)
as_special path None p (inr i) = absurd i
as_special path (Some k) p i = absurd i

pub of_specials : (p : List ℕ) (items : List Item) → In p (specials items) → (i : Item) × In i items × (i.name ≡ p) × (entry_kind i.kind ≡ None)
of_specials p [] i = absurd i
of_specials p (x ∷ items) i = ⊎_elim
    (λ here. let a = as_special x.name (entry_kind x.kind) p here in (x, inl refl, a.0, a.1))
    (λ there. let o = of_specials p items there in (o.0, inr o.1, o.2, o.3))
    (in_app p (special_as x.name (entry_kind x.kind)) (specials items) i)

pub to_specials : (i : Item) (items : List Item) → In i items → entry_kind i.kind ≡ None → In i.name (specials items)
to_specials i [] has is = absurd has
to_specials i (x ∷ items) (inl same) is =
    let it : special_as x.name (entry_kind x.kind) ≡ i.name ∷ [] = ap (λ (y : Item). special_as y.name (entry_kind y.kind)) same ∙ ap (special_as i.name) is in
    in_left i.name (special_as x.name (entry_kind x.kind)) (specials items) (subst (λ (l : List (List ℕ)). In i.name l) (sym it) (inl refl))
to_specials i (x ∷ items) (inr has) is = in_right i.name (special_as x.name (entry_kind x.kind)) (specials items) (to_specials i items has is)

-- paths that differ differ among the folders and files, and among the others
pub founds_apart : (items : List Item) → Apart (map name_of items) → Apart (map path_of (founds items))
founds_apart [] a = tt
founds_apart (x ∷ items) a = at (entry_kind x.kind) (founds_apart items a.1)
  where
    none : In x.name (map path_of (founds items)) → ⊥
    none i =
        let m = of_map path_of x.name (founds items) i in
        let o = of_founds m.0 items m.1 in a.0 (subst (λ (p : List ℕ). In p (map name_of items)) (o.2 ∙ m.2) (in_map name_of o.0 items o.1))

    at : (o : Option EntryKind) → Apart (map path_of (founds items)) → Apart (map path_of (found_as x.name o ++ founds items))
    at None rest = rest
    at (Some k) rest = (none, rest)

pub specials_apart : (items : List Item) → Apart (map name_of items) → Apart (specials items)
specials_apart [] a = tt
specials_apart (x ∷ items) a = at (entry_kind x.kind) (specials_apart items a.1)
  where
    none : In x.name (specials items) → ⊥
    none i = let o = of_specials x.name items i in a.0 (subst (λ (p : List ℕ). In p (map name_of items)) o.2 (in_map name_of o.0 items o.1))

    at : (o : Option EntryKind) → Apart (specials items) → Apart (special_as x.name o ++ specials items)
    at None rest = (none, rest)
    at (Some k) rest = rest

pub children_names : (base : List ℕ) (items : List Item) → map name_of (map (child_of base) items) ≡ map (under base) (map name_of items)
children_names base [] = refl
children_names base (x ∷ items) = ap (λ (l : List (List ℕ)). under base x.name ∷ l) (children_names base items)

-- ---- a folder more

-- the folder is the root of the walk, or was found
abbrev pub IsPlace : List ℕ → List Item → Type 0
IsPlace base items = (base ≡ []) ⊎ In (folder_at base) (founds items)

-- names that may be taken in
pub record AreNew (items : List Item) : Type 0 where
  pub names : All (λ (i : Item). IsName i.name) items
  pub distinct : IsDistinct bytes_eq (map name_of items)
  pub texts : list_all is_text items ≡ true

valid_of : (items : List Item) → AreNew items → (i : Item) → In i items → IsName i.name
valid_of items new i has = All-contains (λ (x : Item). IsName x.name) items i new.names (from_in i items has)

pub seen_nothing : IsSeen [] []
seen_nothing = record {
  named = λ i has. absurd has;
  from = λ i has. absurd has;
  distinct = from_apart [] tt;
  within = λ i has. absurd has;
}

pub seen_more : (done : List (List ℕ)) (old : List Item) (base : List ℕ) (items : List Item) → IsSeen done old → IsPlace base old → (In base done → ⊥) → AreNew items → IsSeen (done ++ base ∷ []) (old ++ map (child_of base) items)
seen_more done old base items seen_ place fresh new = record {
  named = λ i has. ⊎_elim (λ o. seen_.named i o) (λ n. named i n) (in_app i old more has);
  from = λ i has. ⊎_elim (λ o. let f = seen_.from i o in (f.0, f.1, in_left f.0 done (base ∷ []) f.2, f.3, f.4)) (λ n. from i n) (in_app i old more has);
  distinct = from_apart (map name_of (old ++ more)) (subst Apart (sym names_are) (apart_app (map name_of old) (map (under base) (map name_of items))
      (to_apart (map name_of old) seen_.distinct)
      (apart_map (under base) (map name_of items) (λ p q e. under_same base p q e) (to_apart (map name_of items) new.distinct))
      apart));
  within = λ i has r lies. subst (λ (l : List Found). In (folder_at r) l) (sym (founds_app old more)) (in_left (folder_at r) (founds old) (founds more)
      (⊎_elim (λ o. seen_.within i o r lies) (λ n. within i n r lies) (in_app i old more has)));
}
  where
    more : List Item
    more = map (child_of base) items

    is_base : IsBase base
    is_base = ⊎_elim (λ root. inl root) (λ f. let o = of_founds (folder_at base) old f in inr (subst (λ (p : List ℕ). has_names p ≡ true) o.2 (seen_.named o.0 o.1))) place

    named : (i : Item) → In i (map (child_of base) items) → has_names i.name ≡ true
    named i n =
        let m = of_map (child_of base) i items n in
        subst (λ (x : Item). has_names x.name ≡ true) m.2 (named_under base m.0.name is_base (valid_of items new m.0 m.1) (passes is_text m.0 items new.texts m.1))

    from : (i : Item) → In i (map (child_of base) items) → (b : List ℕ) × (name : List ℕ) × In b (done ++ base ∷ []) × IsName name × (i.name ≡ under b name)
    from i n = let m = of_map (child_of base) i items n in (base, m.0.name, in_right base done (base ∷ []) (inl refl), valid_of items new m.0 m.1, ap name_of (sym m.2))

    names_are : map name_of (old ++ map (child_of base) items) ≡ map name_of old ++ map (under base) (map name_of items)
    names_are = map-append name_of old (map (child_of base) items) ∙ ap (λ (l : List (List ℕ)). map name_of old ++ l) (children_names base items)

    apart : (p : List ℕ) → In p (map name_of old) → In p (map (under base) (map name_of items)) → ⊥
    apart p o n =
        let m = of_map name_of p old o in
        let f = seen_.from m.0 m.1 in
        let k = of_map (under base) p (map name_of items) n in
        let x = of_map name_of k.0 items k.1 in
        let same : f.0 ≡ base = same_base f.0 base f.1 x.0.name f.3 (valid_of items new x.0 x.1) (sym f.4 ∙ m.2 ∙ sym k.2 ∙ ap (under base) (sym x.2)) in
        fresh (subst (λ (b : List ℕ). In b done) same f.2)

    here : (r : List ℕ) → base ≢ [] → In r (parents base ++ base ∷ []) → In (folder_at r) (founds old)
    here r some lies = ⊎_elim (λ root. absurd (some root))
        (λ f. ⊎_elim
        (λ above. let o = of_founds (folder_at base) old f in seen_.within o.0 o.1 r (subst (λ (p : List ℕ). In r (parents p)) (sym o.2) above))
        (λ last. ⊎_elim (λ is. subst (λ (p : List ℕ). In (folder_at p) (founds old)) is f) (λ no_. absurd no_) last)
        (in_app r (parents base) (base ∷ []) lies))
        place

    within : (i : Item) → In i (map (child_of base) items) → (r : List ℕ) → In r (parents i.name) → In (folder_at r) (founds old)
    within i n r lies =
        let m = of_map (child_of base) i items n in
        let below : In r (parents (under base m.0.name)) = subst (λ (x : Item). In r (parents x.name)) (sym m.2) lies in
        ⊎_elim (λ none. absurd (subst (λ (l : List (List ℕ)). In r l) none below))
        (λ some. here r some.0 (subst (λ (l : List (List ℕ)). In r l) some.1 below))
        (parents_under base m.0.name (valid_of items new m.0 m.1))

-- ---- what stands there

-- where the folder itself is looked up
abbrev pub place_of : List ℕ → List ℕ → List ℕ
place_of root [] = root
place_of root (c ∷ base) = child root (c ∷ base)

pub child_place : (root base name : List ℕ) → child (place_of root base) name ≡ child root (under base name)
child_place root [] name = refl
child_place root (c ∷ base) name = append_assoc root (47 ∷ c ∷ base) (47 ∷ name)

-- each name that was seen stands there
abbrev pub Stand : Content → List ℕ → List Item → Type 0
Stand content root items = (i : Item) → In i items → (s : Stored) × (found content (child root i.name) ≡ Some s) × (kind_of s ≡ i.kind)

pub stand_more : (content : Content) (root : List ℕ) (old : List Item) (base : List ℕ) (items some : List Item) → Stand content root old → Lists content (place_of root base) items → ((i : Item) → In i some → In i items) → Stand content root (old ++ map (child_of base) some)
stand_more content root old base items some stand lists among i has = ⊎_elim (λ o. stand i o)
    (λ n.
    let m = of_map (child_of base) i some n in
    let s = lists.stand m.0 (from_in m.0 items (among m.0 m.1)) in
    (s.0, ap (λ (x : Item). found content (child root x.name)) (sym m.2) ∙ ap (found content) (sym (child_place root base m.0.name)) ∙ s.1, s.2 ∙ ap (λ (x : Item). x.kind) m.2))
    (in_app i old (map (child_of base) some) has)

-- each name of the folders that were listed was seen
abbrev pub Covers : Content → List ℕ → List (List ℕ) → List Item → Type 0
Covers content root done items = (base name : List ℕ) (s : Stored) → In base done → IsName name → found content (child root (under base name)) ≡ Some s → In (under base name) (map (λ (i : Item). i.name) items)

pub covers_more : (content : Content) (root : List ℕ) (done : List (List ℕ)) (old : List Item) (base : List ℕ) (items : List Item) → Covers content root done old → Lists content (place_of root base) items → Covers content root (done ++ base ∷ []) (old ++ map (child_of base) items)
covers_more content root done old base items covers lists b name s has valid there =
    subst (λ (l : List (List ℕ)). In (under b name) l) (sym (map-append name_of old (map (child_of base) items)))
    (⊎_elim
    (λ o. in_left (under b name) (map name_of old) (map name_of (map (child_of base) items)) (covers b name s o valid there))
    (λ n. in_right (under b name) (map name_of old) (map name_of (map (child_of base) items)) (⊎_elim (λ is. here (sym is)) (λ no_. absurd no_) n))
    (in_app b done (base ∷ []) has))
  where
    here : b ≡ base → In (under b name) (map name_of (map (child_of base) items))
    here is =
        let at : found content (child (place_of root base) name) ≡ Some s = ap (found content) (child_place root base name) ∙ ap (λ (x : List ℕ). found content (child root (under x name))) (sym is) ∙ there in
        let i = in_map (under base) name (map name_of items) (to_in name (map name_of items) (lists.all name s valid at)) in
        subst (λ (l : List (List ℕ)). In (under b name) l) (sym (children_names base items)) (subst (λ (x : List ℕ). In (under x name) (map (under base) (map name_of items))) (sym is) i)

-- ---- kinds

pub kind_is : (s : Stored) (k : EntryKind) → entry_kind (kind_of s) ≡ Some k → IsKind k s
kind_is AFolder kind.Folder e = refl
kind_is AFolder kind.File e = absurd (cc)
kind_is (AFile bytes) kind.Folder e = absurd (cc)
kind_is (AFile bytes) kind.File e = (bytes, refl)
kind_is ASpecial k e = absurd (cc)

pub is_kind : (s : Stored) (k : EntryKind) → IsKind k s → entry_kind (kind_of s) ≡ Some k
is_kind s kind.Folder is = ap (λ (x : Stored). entry_kind (kind_of x)) is
is_kind s kind.File is = ap (λ (x : Stored). entry_kind (kind_of x)) is.1

pub is_special : (s : Stored) → entry_kind (kind_of s) ≡ None → s ≡ ASpecial
is_special AFolder e = absurd (cc)
is_special (AFile bytes) e = absurd (cc)
is_special ASpecial e = refl

pub stands_as : (content : Content) (root : List ℕ) (items : List Item) → Stand content root items → (f : Found) → In f (founds items) → StandsAs content root f
stands_as content root items stand f has =
    let o = of_founds f items has in
    let s = stand o.0 o.1 in
    (s.0, ap (λ (p : List ℕ). found content (child root p)) (sym o.2) ∙ s.1, kind_is s.0 f.kind (ap entry_kind s.2 ∙ o.3))

-- each folder that a name lies in stands there
pub in_tree : (content : Content) (root : List ℕ) (done : List (List ℕ)) (items : List Item) → IsSeen done items → Stand content root items → (i : Item) → In i items → InTree content root i.name
in_tree content root done items seen_ stand i has r lies =
    let s = stands_as content root items stand (folder_at r) (seen_.within i has r (to_in r (parents i.name) lies)) in
    s.1 ∙ ap (λ (x : Stored). Some x) s.2
