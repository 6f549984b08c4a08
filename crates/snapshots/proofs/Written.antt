-- What is written below a bare folder is a tree.
use Rattle.std.proofs.Common.{◌≡◌, ◌≢◌, ◌⊎◌, inl, inr, ⊎_elim, ℕ, zero, suc, ◌+◌, ◌≤◌, ◌<◌, Bool, true, false, ◌&&◌, cond, List, [], ◌∷◌, ◌++◌, length, map, Contains, take, option_map, is_some, IfSome, Option, Some, None, refl, sym, ◌∙◌, ap, subst, arith, length-append, append_assoc}
use Rattle.std.specs.List.{list_all, list_any}
use Rattle.std.specs.Ordering.{nat_cmp, is_eq, eq_by_cmp}
use Rattle.std.specs.Cmp.{tied_itself}
use Rattle.std.specs.Cmp.Lexicographic.{slice_cmp, nat_list_cmp_total}
use Rattle.std.specs.FinMap.{get, insert, get-insert}
use Rattle.std.specs.Str.{is_utf8}
use Rattle.std.proofs.lemmas.Bool.{and_parts, false≢true, true≢false}
use Rattle.std.proofs.lemmas.List.{append-nil}
use Rattle.std.proofs.lemmas.List.Folds.{list_all-append}
use Rattle.psb_bytes.specs.Names.{is_slash, is_name, parts, has_names}
use Rattle.psb_bytes.specs.Paths.{parents}
use Rattle.psb_station.specs.Folder.{Content, Stored, Folder as AFolder, File as AFile, FolderView, Tells_content, Lists, IsName, Appends, plain, found, child}
use Rattle.psb_station.specs.MemTree.{under}
use Rattle.psb_station.specs.declared.item.Item.{Item as AnItem}
use Rattle.psb_station.proofs.PathText.{plain_child, under_same}
use Rattle.psb_station.proofs.Spans.{same_some, at_some}
use Rattle.psb_station.proofs.Trees.{same_path, same_content}
use Rattle.skeleton.specs.Paths.{is_path, is_below}
use Rattle.snapshots.specs.Meaning.{Item, Folder, File, Place}
use Rattle.snapshots.specs.Trees.{stored_as, ascend, AreInPlace, IsTree, Stands}
use Rattle.snapshots.specs.WalkSteps.{In}
use Rattle.snapshots.specs.Writing.{with_place, with_places, IsBare, IsWhole, Writes, Adds, file_at, EmptyFoldersAreBare, WritingsAreTrees, WritingsStayBelow}
use Rattle.snapshots.proofs.Members.{by_cases, to_in, from_in}
use Rattle.snapshots.proofs.PathSplits.{split_path, no_slash, parts_none, parts_child, parents_child, a_name, some_front, under_some, valid_names}
use Rattle.snapshots.proofs.Skeletons.{in_back, first_below, not_below, rest_ascends}

-- ---- where a path below the root is looked up

abbrev AreNames : List ℕ → Type 0
AreNames path = list_all is_name (parts path) ≡ true

names_are : (path : List ℕ) → has_names path ≡ true → AreNames path
names_are path is = (and_parts (is_utf8 path) (list_all is_name (parts path)) is).1

names_of : (path : List ℕ) → is_path path ≡ true → AreNames path
names_of path is = names_are path (valid_names path is)

-- a path that is no name: what stands in front of its last part, and that part
record IsSplit (path front name : List ℕ) : Type 0 where
  is : path ≡ front ++ 47 ∷ name
  valid : IsName name
  names : AreNames front
  some : front ≢ []

split_names : (path : List ℕ) → AreNames path → IsName path ⊎ ((front : List ℕ) × (name : List ℕ) × IsSplit path front name)
split_names path names = ⊎_elim
    (λ none.
    let one : list_all is_name (path ∷ []) ≡ true = subst (λ (l : List (List ℕ)). list_all is_name l ≡ true) (parts_none path none) names in
    inl (a_name path (and_parts (is_name path) true one).0 none))
    (λ s.
    let split : list_all is_name (parts s.0 ++ s.1 ∷ []) ≡ true = subst (λ (l : List (List ℕ)). list_all is_name l ≡ true) (ap parts s.2 ∙ parts_child s.0 s.1 s.3) names in
    let both = and_parts (list_all is_name (parts s.0)) (list_all is_name (s.1 ∷ [])) (sym (list_all-append is_name (parts s.0) (s.1 ∷ [])) ∙ split) in
    inr (s.0, s.1, record { is = s.2; valid = a_name s.1 (and_parts (is_name s.1) true both.1).0 s.3; names = both.0; some = some_front s.0 both.0 }))
    (split_path path)

front_shorter : (path front name : List ℕ) (n : ℕ) → path ≡ front ++ 47 ∷ name → length path ≤ suc n → length front ≤ n
front_shorter path front name n is short = omega (arith, ap (λ (l : List ℕ). length l) is, length-append front (47 ∷ name), short)

never_none : (path front name : List ℕ) → path ≡ front ++ 47 ∷ name → length path ≤ 0 → ⊥
never_none path front name is short = absurd (omega (arith, ap (λ (l : List ℕ). length l) is, length-append front (47 ∷ name), short))

under_under : (r front name : List ℕ) → front ≢ [] → under (under r front) name ≡ under r (front ++ 47 ∷ name)
under_under r [] name some = absurd (some refl)
under_under [] (c ∷ front) name some = refl
under_under (d ∷ r) (c ∷ front) name some = ap (λ (l : List ℕ). d ∷ l) (append_assoc r (47 ∷ c ∷ front) (47 ∷ name))

plain_under : (n : ℕ) (root path : List ℕ) → length path ≤ n → AreNames path → plain (child root path) ≡ under (plain root) path
plain_under zero root path short names = ⊎_elim (λ name. plain_child root path name) (λ s. absurd (never_none path s.0 s.1 s.2.is short)) (split_names path names)
plain_under (suc n) root path short names = ⊎_elim
    (λ name. plain_child root path name)
    (λ s. deeper s.0 s.1 s.2 (plain_under n root s.0 (front_shorter path s.0 s.1 n s.2.is short) s.2.names))
    (split_names path names)
  where
    deeper : (front name : List ℕ) → IsSplit path front name → plain (child root front) ≡ under (plain root) front → plain (child root path) ≡ under (plain root) path
    deeper front name s below =
        ap (λ (p : List ℕ). plain (child root p)) s.is
        ∙ ap plain (sym (append_assoc root (47 ∷ front) (47 ∷ name)))
        ∙ plain_child (child root front) name s.valid
        ∙ ap (λ (p : List ℕ). under p name) below
        ∙ under_under (plain root) front name s.some
        ∙ ap (under (plain root)) (sym s.is)

looked_up : (root path : List ℕ) → AreNames path → plain (child root path) ≡ under (plain root) path
looked_up root path names = plain_under (length path) root path (omega arith) names

one_place : (root p q : List ℕ) → AreNames p → AreNames q → plain (child root p) ≡ plain (child root q) → p ≡ q
one_place root p q names others same = under_same (plain root) p q (sym (looked_up root p names) ∙ same ∙ looked_up root q others)

under_longer : (r path : List ℕ) → path ≢ [] → under r path ≢ r
under_longer [] path some = some
under_longer (c ∷ r) path some = λ same. absurd (omega (arith, ap (λ (l : List ℕ). length l) same, length-append r (47 ∷ path)))

some_path : (path : List ℕ) → AreNames path → path ≢ []
some_path path names = some_front path names

never_root : (root path : List ℕ) → AreNames path → plain (child root path) ≢ plain root
never_root root path names = λ same. under_longer (plain root) path (some_path path names) (sym (looked_up root path names) ∙ same)

-- ---- what stands where places were put

abbrev key : List ℕ → Place → List ℕ
key root p = plain (child root p.path)

abbrev IsPut : List ℕ → Content → List Place → List ℕ → Place → Type 0
IsPut root c ps k p = In p ps × (key root p ≡ k) × (get (with_places root c ps) k ≡ Some (stored_as p.item))

abbrev IsAsBefore : List ℕ → Content → List Place → List ℕ → Type 0
IsAsBefore root c ps k = ((p : Place) → In p ps → (key root p ≡ k) → ⊥) × (get (with_places root c ps) k ≡ get c k)

itself : (k : List ℕ) → eq_by_cmp (slice_cmp nat_cmp) k k ≡ true
itself k = ap is_eq (tied_itself nat_list_cmp_total k)

put_or_not : (root : List ℕ) (c : Content) (ps : List Place) (k : List ℕ) → ((p : Place) × IsPut root c ps k p) ⊎ IsAsBefore root c ps k
put_or_not root c [] k = inr (λ p i is. i, refl)
put_or_not root c (p ∷ ps) k = ⊎_elim
    (λ here. inl (here.0, (inr here.1.0, here.1.1, here.1.2)))
    (λ none. by_cases (eq_by_cmp (slice_cmp nat_cmp) k (key root p))
    (λ same. inl (p, (inl refl, sym (same_path k (key root p) same), none.1 ∙ get-insert nat_list_cmp_total c (key root p) (stored_as p.item) k ∙ rw same refl)))
    (λ other. inr (
      λ q i is. ⊎_elim
          (λ e. true≢false (sym (itself k) ∙ ap (λ (l : List ℕ). eq_by_cmp (slice_cmp nat_cmp) k l) (sym is ∙ ap (key root) (sym e)) ∙ other))
          (λ j. none.0 q j is) i,
      none.1 ∙ get-insert nat_list_cmp_total c (key root p) (stored_as p.item) k ∙ rw other refl,
    )))
    (put_or_not root (with_place root c p) ps k)

-- ---- places in their order

never_below : (p q : Place) → p.path ≡ q.path → is_below p.path q.path ≡ true → ⊥
never_below p q same below = not_below p.path (ap (is_below p.path) same ∙ below)

one_of_path : (ps : List Place) (p q : Place) → ascend ps ≡ true → In p ps → In q ps → p.path ≡ q.path → p ≡ q
one_of_path [] p q h i j same = absurd i
one_of_path (x ∷ ps) p q h (inl a) (inl b) same = sym a ∙ b
one_of_path (x ∷ ps) p q h (inl a) (inr j) same = absurd (never_below x q (ap (λ (y : Place). y.path) a ∙ same) (first_below x q ps h j))
one_of_path (x ∷ ps) p q h (inr i) (inl b) same = absurd (never_below x p (ap (λ (y : Place). y.path) b ∙ sym same) (first_below x p ps h i))
one_of_path (x ∷ ps) p q h (inr i) (inr j) same = one_of_path ps p q (rest_ascends x ps h) i j same

one_item : (a b : Item) → stored_as a ≡ stored_as b → a ≡ b
one_item Folder Folder is = refl
one_item Folder (File y) is = absurd (cc)
one_item (File x) Folder is = absurd (cc)
one_item (File x) (File y) is = ap File (same_bytes is)
  where
    same_bytes : AFile x ≡ AFile y → x ≡ y
    same_bytes e = cc

-- ---- the laws

pub writings_stay_below : WritingsStayBelow
writings_stay_below c root places path none = ⊎_elim
    (λ here. absurd (none here.0 (from_in here.0 places here.1.0) here.1.1))
    (λ same. same.1)
    (put_or_not root c places path)

pub writings_are_trees : WritingsAreTrees
writings_are_trees c root places bare place = record {
  folder = ⊎_elim
      (λ here. absurd (never_root root here.0.path (names_in here.0 here.1.0) here.1.1))
      (λ same. same.1 ∙ bare.folder)
      (put_or_not root c places (plain root));
  ordered = place.ordered;
  stand = λ p has. record {
    path = valid_names p.path (place.paths p has);
    here = ⊎_elim
        (λ here.
        let one : here.0 ≡ p = one_of_path places here.0 p place.ordered here.1.0 (to_in p places has) (one_place root here.0.path p.path (names_in here.0 here.1.0) (names_of p.path (place.paths p has)) here.1.1) in
        here.1.2 ∙ ap (λ (q : Place). Some (stored_as q.item)) one)
        (λ same. absurd (same.0 p (to_in p places has) refl))
        (put_or_not root c places (key root p));
    reached = place.reached p has;
  };
  all = λ p s. ⊎_elim
      (λ here.
      let paths : here.0.path ≡ p.path = one_place root here.0.path p.path (names_in here.0 here.1.0) (names_are p.path s.path) here.1.1 in
      let items : here.0.item ≡ p.item = one_item here.0.item p.item (same_some (get (with_places root c places) (key root p)) (stored_as here.0.item) (stored_as p.item) here.1.2 s.here) in
      subst (Contains places) (λ i. record { path = paths i; item = items i }) (from_in here.0 places here.1.0))
      (λ same. absurd (never_some (stored_as p.item) (sym (bare.none p.path s.path) ∙ sym same.1 ∙ s.here)))
      (put_or_not root c places (key root p));
}
  where
    names_in : (p : Place) → In p places → AreNames p.path
    names_in p i = names_of p.path (place.paths p (from_in p places i))

    never_some : (x : Stored) → None ≡ Some x → ⊥
    never_some x e = absurd (cc)

-- ---- an empty folder

-- what lies in front of the last name is a folder
lies_in_folder : (c : Content) (root path front name : List ℕ) (s : Stored) → IsWhole c → IsSplit path front name → get c (under (plain root) path) ≡ Some s → get c (under (plain root) front) ≡ Some AFolder
lies_in_folder c root path front name s whole i here =
    let base = under (plain root) front in
    let key : under (plain root) path ≡ base ++ 47 ∷ name = ap (under (plain root)) i.is ∙ sym (under_under (plain root) front name i.some) ∙ under_some base name (some_under (plain root) front i.some) in
    whole (base ++ 47 ∷ name) s (ap (get c) (sym key) ∙ here) base
    (subst (λ (l : List (List ℕ)). Contains l base) (sym (parents_child base name (no_slash name i.valid))) (from_in base (parents base ++ base ∷ []) (in_back base (parents base) [])))
  where
    some_under : (r f : List ℕ) → f ≢ [] → under r f ≢ []
    some_under [] f some = some
    some_under (d ∷ r) f some = λ e. absurd (cc)

-- an empty folder has no child
no_child : (c : Content) (root name : List ℕ) (s : Stored) → Lists c root [] → IsName name → get c (under (plain root) name) ≡ Some s → ⊥
no_child c root name s lists valid here =
    to_in name (map (λ (item : AnItem). item.name) []) (lists.all name s valid (ap (get c) (plain_child root name valid) ∙ here))

none_under : (n : ℕ) (c : Content) (root path : List ℕ) (s : Stored) → IsWhole c → Lists c root [] → length path ≤ n → AreNames path → get c (under (plain root) path) ≡ Some s → ⊥
none_under zero c root path s whole lists short names here =
    ⊎_elim (λ name. no_child c root path s lists name here) (λ i. never_none path i.0 i.1 i.2.is short) (split_names path names)
none_under (suc n) c root path s whole lists short names here =
    ⊎_elim
    (λ name. no_child c root path s lists name here)
    (λ i. none_under n c root i.0 AFolder whole lists (front_shorter path i.0 i.1 n i.2.is short) i.2.names (lies_in_folder c root path i.0 i.1 s whole i.2 here))
    (split_names path names)

pub empty_folders_are_bare : EmptyFoldersAreBare
empty_folders_are_bare c root whole lists = record {
  folder = lists.folder;
  none = λ path is.
      let names = names_are path is in
      ap (get c) (looked_up root path names) ∙ none_of path names (get c (under (plain root) path)) refl;
}
  where
    none_of : (path : List ℕ) → AreNames path → (o : Option Stored) → get c (under (plain root) path) ≡ o → get c (under (plain root) path) ≡ None
    none_of path names None is = is
    none_of path names (Some s) is = absurd (none_under (length path) c root path s whole lists (omega arith) names is)

-- ---- a place more, and bytes more

with_more : (root : List ℕ) (c : Content) (ps : List Place) (p : Place) → with_places root c (ps ++ p ∷ []) ≡ with_place root (with_places root c ps) p
with_more root c [] p = refl
with_more root c (q ∷ ps) p = with_more root (with_place root c q) ps p

-- what is put where something was put last takes its place
put_again : (c : Content) (k : List ℕ) (a b : Stored) → insert (insert c k a) k b ≡ insert c k b
put_again c k a b = same_content _ _ (λ q.
    get-insert nat_list_cmp_total (insert c k a) k b q
    ∙ by_cases (eq_by_cmp (slice_cmp nat_cmp) q k) (λ same. rw same refl) (λ other. rw other (get-insert nat_list_cmp_total c k a q ∙ rw other refl))
    ∙ sym (get-insert nat_list_cmp_total c k b q))

found_put : (c : Content) (k : List ℕ) (s : Stored) → get (insert c k s) k ≡ Some s
found_put c k s = get-insert nat_list_cmp_total c k s k ∙ rw (itself k) refl

told : (o : Option Content) (c : Content) → o ≡ Some c → is_some o ≡ true
told o c is = ap (λ (x : Option Content). is_some x) is

told_some : (o : Option Content) → is_some o ≡ true → (c : Content) × (o ≡ Some c)
told_some None is = absurd (false≢true is)
told_some (Some c) is = (c, refl)

-- bytes that are added to the file that was written last
pub added : (old new : FolderView) (at piece : List ℕ) → (Tells_content new → Tells_content old) → old.folder_faults ≤ new.folder_faults
    → ((c : Content) → old.content ≡ Some c → Tells_content new → Appends c new.content at piece) → Adds old new at piece
added old new at piece tells no_fall adds root path bytes first places is w = record {
  tells = λ t. w.tells (tells t);
  content = λ c d was now.
      let t = told new.content d now in
      let before = told_some old.content (tells t) in
      let mid = w.content c before.0 was before.1 ∙ with_more root c places (file_at path bytes) in
      let a = adds before.0 before.1 t in
      let key : plain at ≡ plain (child root path) = ap plain is in
      let base = with_places root c places in
      let here : get before.0 (plain at) ≡ Some (AFile bytes) =
      ap (λ (x : Content). get x (plain at)) mid ∙ ap (get (insert base (plain (child root path)) (AFile bytes))) key ∙ found_put base (plain (child root path)) (AFile bytes) in
      let same : a.bytes ≡ bytes = file_bytes a.bytes bytes (same_some (get before.0 (plain at)) (AFile a.bytes) (AFile bytes) a.file here) in
      same_some new.content d (insert before.0 (plain at) (AFile (a.bytes ++ piece))) now a.put
      ∙ ap (λ (x : Content). insert x (plain at) (AFile (a.bytes ++ piece))) mid
      ∙ ap (λ (l : List ℕ). insert (insert base (plain (child root path)) (AFile bytes)) l (AFile (a.bytes ++ piece))) key
      ∙ put_again base (plain (child root path)) (AFile bytes) (AFile (a.bytes ++ piece))
      ∙ ap (λ (l : List ℕ). insert base (plain (child root path)) (AFile (l ++ piece))) same
      ∙ sym (with_more root c places (file_at path (bytes ++ piece)));
  no_fall = omega (arith, w.no_fall, no_fall);
}
  where
    file_bytes : (x y : List ℕ) → AFile x ≡ AFile y → x ≡ y
    file_bytes x y e = cc

-- none are added
pub none_added : (old new : FolderView) (at : List ℕ) → (Tells_content new → Tells_content old) → old.folder_faults ≤ new.folder_faults → (Tells_content new → new.content ≡ old.content) → Adds old new at []
none_added old new at tells no_fall same root path bytes first places is w = record {
  tells = λ t. w.tells (tells t);
  content = λ c d was now.
      w.content c d was (sym (same (told new.content d now)) ∙ now)
      ∙ ap (λ (l : List ℕ). with_places root c (places ++ file_at path l ∷ [])) (sym (append-nil bytes));
  no_fall = omega (arith, w.no_fall, no_fall);
}

-- some first bytes of them are added where the call fails
pub part_added : (old new : FolderView) (at piece : List ℕ) → (Tells_content new → Tells_content old) → old.folder_faults ≤ new.folder_faults → Tells_content new
    → (new.content ≡ old.content) ⊎ IfSome old.content (λ c. (n : ℕ) × Appends c new.content at (take n piece)) → (n : ℕ) × Adds old new at (take n piece)
part_added old new at piece tells no_fall t (inl same) = (0, none_added old new at tells no_fall (λ told. same))
part_added old new at piece tells no_fall t (inr some) =
    let before = told_some old.content (tells t) in
    let part = at_some old.content _ before.0 some before.1 in (
      part.0,
      added old new at (take part.0 piece) tells no_fall
          (λ c was told. subst (λ (x : Content). Appends x new.content at (take part.0 piece)) (same_some old.content before.0 c before.1 was) part.1),
    )
