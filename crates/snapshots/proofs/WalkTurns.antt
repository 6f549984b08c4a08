-- The folders that a walk listed, by the index that it is at, and its calls.
use Rattle.std.proofs.Common.{◌≡◌, ◌≢◌, inl, inr, ⊎_elim, ℕ, ◌+◌, ◌<◌, ◌≤◌, true, false, List, [], ◌∷◌, ◌++◌, map, length, take, drop, get_or, Contains, Option, Some, None, is_some, refl, sym, ap, subst, ◌∙◌, append_assoc, arith, length-append}
use Rattle.std.specs.Prelude.{IfSome}
use Rattle.std.proofs.lemmas.List.{map-append, take_more, drop_more, take-append-drop, take-append-le, append-nil}
use Rattle.std.proofs.lemmas.List.Sums.{sum_by-cons}
use Rattle.std.specs.List.{list_all}
use Rattle.psb_bytes.specs.Names.{has_names}
use Rattle.psb_bytes.specs.Paths.{parents}
use Rattle.psb_station.specs.declared.item.Item.{Item}
use Rattle.psb_station.specs.Calls.{Grows}
use Rattle.psb_station.specs.Folder.{FolderView, FolderCall, Listing, Content, Stored, Folder as AFolder, Tells_content, found, child, Tries}
use Rattle.skeleton.specs.declared.entry.EntryKind.{EntryKind}
use Rattle.skeleton.specs.declared.entry.EntryKind.TheVariants as kind
use Rattle.skeleton.specs.declared.limits.TheConstants.{MOST_TEXT_BYTES}
use Rattle.skeleton.proofs.Lists.{push_parts}
use Rattle.snapshots.specs.declared.walking.Found.{Found}
use Rattle.snapshots.specs.declared.walking.Walked.{Walked}
use Rattle.snapshots.specs.Walks.{entry_len, entries_len, bare_len, IsKind, IsTooLarge, listings, AreFolders, OnlyLists}
use Rattle.snapshots.specs.WalkSteps.{In, child_of, founds, is_short, IsSeen, IsThere, Enters, Exceeds, folder_as, folders, listed, IsSoFar, IsOn}
use Rattle.snapshots.proofs.Members.{to_in, from_in, in_left, in_right, in_app, parted, Apart, to_apart, from_apart, apart_app, apart_both}
use Rattle.snapshots.proofs.PathSplits.{has_some, parents_under}
use Rattle.snapshots.proofs.Seen.{name_of, path_of, folder_at, of_founds, founds_apart, IsPlace, place_of, seen_nothing, stands_as}
use Rattle.snapshots.proofs.WalkSteps.{entered, exceeded, still, if_both}

-- ---- the calls

grows_then : (a b c : Option (List FolderCall)) (xs ys : List FolderCall) → Grows a b xs → Grows b c ys → Grows a c (xs ++ ys)
grows_then a b None xs ys one two = tt
grows_then a b (Some now) xs ys one two =
    let first : Grows a (Some two.0) xs = subst (λ (o : Option (List FolderCall)). Grows a o xs) two.1 one in
    (first.0, first.1, two.2 ∙ ap (λ (l : List FolderCall). l ++ ys) first.2 ∙ append_assoc first.0 xs ys)

-- the folder at the root was listed
pub lists_first : (root : List ℕ) (old new : FolderView) → (Tells_content new → new.content ≡ old.content) → Tries (Listing root) old new → OnlyLists root [] old new
lists_first root old new same tries = record {
  content = same;
  tells = tries.tells;
  folders = record {
    distinct = from_apart [] tt;
    names = λ path has. absurd (to_in path [] has);
    within = λ front path back is. absurd (never_parted front path back is);
    stand = some_of new.content (λ c path has. absurd (to_in path [] has));
  };
  grown = tries.calls;
  no_fall = tries.no_fall;
}
  where
    never_parted : (front : List (List ℕ)) (path : List ℕ) (back : List (List ℕ)) → [] ≡ front ++ path ∷ back → ⊥
    never_parted [] path back is = absurd (cc)
    never_parted (p ∷ front) path back is = absurd (cc)

    some_of : (o : Option Content) {P : Content → Type 0} → ((c : Content) → P c) → IfSome o P
    some_of None p = tt
    some_of (Some c) p = p c

-- what may be listed behind these folders
pub record MayBeListed (o : Option Content) (root : List ℕ) (below : List (List ℕ)) (path : List ℕ) : Type 0 where
  pub named : has_names path ≡ true
  pub new : In path below → ⊥
  pub inside : (folder : List ℕ) → In folder (parents path) → In folder below
  pub stands : IfSome o (λ c. found c (child root path) ≡ Some AFolder)

-- and one more below it
pub lists_next : (root : List ℕ) (below : List (List ℕ)) (path : List ℕ) (first old new : FolderView) → OnlyLists root below first old → MayBeListed old.content root below path
    → (Tells_content new → new.content ≡ old.content) → Tries (Listing (child root path)) old new → OnlyLists root (below ++ path ∷ []) first new
lists_next root below path first old new lists may same tries = record {
  content = λ tells. same tells ∙ lists.content (tries.tells tells);
  tells = λ tells. lists.tells (tries.tells tells);
  folders = record {
    distinct = from_apart (below ++ path ∷ []) (apart_app below (path ∷ []) (to_apart below lists.folders.distinct) (λ i. i, tt)
        (λ p here there. may.new (subst (λ (q : List ℕ). In q below) (only_one p there) here)));
    names = λ p has. ⊎_elim (λ i. lists.folders.names p (from_in p below i)) (λ i. subst (λ (q : List ℕ). has_names q ≡ true) (sym (only_one p i)) may.named) (in_app p below (path ∷ []) (to_in p (below ++ path ∷ []) has));
    within = λ front p back is folder lies. ⊎_elim
        (λ last. from_in folder front (subst (λ (l : List (List ℕ)). In folder l) last.0 (may.inside folder (subst (λ (q : List ℕ). In folder (parents q)) (sym last.1) (to_in folder (parents p) lies)))))
        (λ before. lists.folders.within front p before.0 before.1 folder lies)
        (push_parts below path front p back is);
    stand = if_both new.content (λ c. (p : List ℕ) → Contains below p → found c (child root p) ≡ Some AFolder) (λ c. found c (child root path) ≡ Some AFolder) (λ c. (p : List ℕ) → Contains (below ++ path ∷ []) p → found c (child root p) ≡ Some AFolder)
        (λ c were is p has. ⊎_elim (λ i. were p (from_in p below i)) (λ i. subst (λ (q : List ℕ). found c (child root q) ≡ Some AFolder) (sym (only_one p i)) is) (in_app p below (path ∷ []) (to_in p (below ++ path ∷ []) has)))
        (still old.content new.content (λ c. (p : List ℕ) → Contains below p → found c (child root p) ≡ Some AFolder) same lists.folders.stand)
        (still old.content new.content (λ c. found c (child root path) ≡ Some AFolder) same may.stands);
  };
  grown = subst (λ (calls : List FolderCall). Grows first.folder_calls new.folder_calls calls) (ap (λ (l : List FolderCall). Listing root ∷ l) (sym (map-append (λ (p : List ℕ). Listing (child root p)) below (path ∷ []))))
      (grows_then first.folder_calls old.folder_calls new.folder_calls (listings root below) (Listing (child root path) ∷ []) lists.grown tries.calls);
  no_fall = omega (arith, lists.no_fall, tries.no_fall);
}
  where
    only_one : (p : List ℕ) → In p (path ∷ []) → p ≡ path
    only_one p (inl is) = sym is
    only_one p (inr i) = absurd i

-- ---- the folders that were listed

folders_app : (a b : List Found) → folders (a ++ b) ≡ folders a ++ folders b
folders_app [] b = refl
folders_app (f ∷ a) b = ap (λ (l : List (List ℕ)). folder_as f.path f.kind ++ l) (folders_app a b) ∙ sym (append_assoc (folder_as f.path f.kind) (folders a) (folders b))

in_as : (p path : List ℕ) (k : EntryKind) → In p (folder_as path k) → path ≡ p
in_as p path kind.Folder (inl is) = is
in_as p path kind.Folder (inr i) = absurd i
in_as p path kind.File i = absurd i

-- a folder that was listed was found
of_folders : (p : List ℕ) (fs : List Found) → In p (folders fs) → In p (map path_of fs)
of_folders p [] i = absurd i
of_folders p (f ∷ fs) i = ⊎_elim (λ here. inl (in_as p f.path f.kind here)) (λ there. inr (of_folders p fs there)) (in_app p (folder_as f.path f.kind) (folders fs) i)

-- as a folder
pub of_folders_at : (p : List ℕ) (fs : List Found) → In p (folders fs) → In (folder_at p) fs
of_folders_at p [] i = absurd i
of_folders_at p (f ∷ fs) i = ⊎_elim (λ here. inl (at f.path f.kind here)) (λ there. inr (of_folders_at p fs there)) (in_app p (folder_as f.path f.kind) (folders fs) i)
  where
    at : (path : List ℕ) (k : EntryKind) → In p (folder_as path k) → ◌≡◌ {A = Found} (record { path = path; kind = k }) (folder_at p)
    at path kind.Folder (inl is) = ap folder_at is
    at path kind.Folder (inr i) = absurd i
    at path kind.File i = absurd i

pub to_folders : (p : List ℕ) (fs : List Found) → In (folder_at p) fs → In p (folders fs)
to_folders p [] i = absurd i
to_folders p (f ∷ fs) (inl is) =
    in_left p (folder_as f.path f.kind) (folders fs) (subst (λ (l : List (List ℕ)). In p l) (ap (λ (g : Found). folder_as g.path g.kind) (sym is)) (inl refl))
to_folders p (f ∷ fs) (inr i) = in_right p (folder_as f.path f.kind) (folders fs) (to_folders p fs i)

folders_more : (fs : List Found) (i : ℕ) (f d : Found) → i < length fs → f ≡ get_or fs i d → folders (take (i + 1) fs) ≡ folders (take i fs) ++ folder_as f.path f.kind
folders_more fs i f d lt is =
    ap folders (take_more fs i d lt ∙ ap (λ (g : Found). take i fs ++ g ∷ []) (sym is)) ∙ folders_app (take i fs) (f ∷ []) ∙ ap (λ (l : List (List ℕ)). folders (take i fs) ++ l) (append-nil (folder_as f.path f.kind))

listed_more : (fs : List Found) (i : ℕ) (f d : Found) → i < length fs → f ≡ get_or fs i d → listed (i + 1) fs ≡ listed i fs ++ folder_as f.path f.kind
listed_more fs i f d lt is = ap (λ (l : List (List ℕ)). [] ∷ l) (folders_more fs i f d lt is)

listed_longer : (fs more : List Found) (i : ℕ) → i ≤ length fs → listed i (fs ++ more) ≡ listed i fs
listed_longer fs more i le = ap (λ (l : List Found). [] ∷ folders l) (take-append-le i fs more le)

-- the folder at the index was found
at_index : (fs : List Found) (i : ℕ) (f d : Found) → i < length fs → f ≡ get_or fs i d → fs ≡ take i fs ++ f ∷ drop (i + 1) fs
at_index fs i f d lt is = sym (take-append-drop i fs) ∙ ap (λ (l : List Found). take i fs ++ l) (drop_more fs i d lt) ∙ ap (λ (g : Found). take i fs ++ g ∷ drop (i + 1) fs) (sym is)

in_index : (fs : List Found) (i : ℕ) (f d : Found) → i < length fs → f ≡ get_or fs i d → In f fs
in_index fs i f d lt is = subst (λ (l : List Found). In f l) (sym (at_index fs i f d lt is)) (in_right f (take i fs) (f ∷ drop (i + 1) fs) (inl refl))

-- and not listed before
not_listed : (fs : List Found) (i : ℕ) (f d : Found) → i < length fs → f ≡ get_or fs i d → Apart (map path_of fs) → f.path ≢ [] → In f.path (listed i fs) → ⊥
not_listed fs i f d lt is apart some (inl root) = some (sym root)
not_listed fs i f d lt is apart some (inr before) =
    let whole : map path_of fs ≡ map path_of (take i fs) ++ map path_of (f ∷ drop (i + 1) fs) = ap (λ (l : List Found). map path_of l) (at_index fs i f d lt is) ∙ map-append path_of (take i fs) (f ∷ drop (i + 1) fs) in
    apart_both (map path_of (take i fs)) (map path_of (f ∷ drop (i + 1) fs)) f.path (subst Apart whole apart) (of_folders f.path (take i fs) before) (inl refl)

-- ---- one more of what was found

pub on_file : (o : Option Content) (root : List ℕ) (index : ℕ) (w : Walked) (f d : Found) → index < length w.found.items → f ≡ get_or w.found.items index d → f.kind ≡ kind.File → IsOn o root index w → IsOn o root (index + 1) w
on_file o root index w f d lt is file on = record {
  inside = omega (arith, lt);
  so_far = subst (λ (done : List (List ℕ)). IsSoFar o root done w) (sym (listed_more w.found.items index f d lt is ∙ ap (λ (k : EntryKind). listed index w.found.items ++ folder_as f.path k) file ∙ append-nil (listed index w.found.items))) on.so_far;
}

-- what is known of a folder at the index
record IsNext (o : Option Content) (root : List ℕ) (index : ℕ) (w : Walked) (path : List ℕ) (s : IsSoFar o root (listed index w.found.items) w) : Type 0 where
  place : IsPlace path s.items
  some : path ≢ []
  fresh : In path (listed index w.found.items) → ⊥
  done : listed (index + 1) w.found.items ≡ listed index w.found.items ++ path ∷ []

next_of : (o : Option Content) (root : List ℕ) (index : ℕ) (w : Walked) (f d : Found) → index < length w.found.items → f ≡ get_or w.found.items index d → f.kind ≡ kind.Folder → (on : IsOn o root index w) → IsNext o root index w f.path on.so_far
next_of o root index w f d lt is folder on =
    let here : In f (founds on.so_far.items) = subst (λ (l : List Found). In f l) on.so_far.found (in_index w.found.items index f d lt is) in
    let i = of_founds f on.so_far.items here in
    let some : f.path ≢ [] = has_some f.path (subst (λ (p : List ℕ). has_names p ≡ true) i.2 (on.so_far.seen.named i.0 i.1)) in
    record {
      place = inr (subst (λ (k : EntryKind). In (record { path = f.path; kind = k }) (founds on.so_far.items)) folder here);
      some = some;
      fresh = not_listed w.found.items index f d lt is (subst (λ (l : List Found). Apart (map path_of l)) (sym on.so_far.found) (founds_apart on.so_far.items (to_apart (map name_of on.so_far.items) on.so_far.seen.distinct))) some;
      done = listed_more w.found.items index f d lt is ∙ ap (λ (k : EntryKind). listed index w.found.items ++ folder_as f.path k) folder;
    }

place_some : (root path : List ℕ) → path ≢ [] → place_of root path ≡ child root path
place_some root [] some = absurd (some refl)
place_some root (c ∷ path) some = refl

pub on_folder : (o n : Option Content) (root : List ℕ) (index : ℕ) (w v : Walked) (f d : Found) → index < length w.found.items → f ≡ get_or w.found.items index d → f.kind ≡ kind.Folder → IsOn o root index w
    → (is_some n ≡ true → n ≡ o) → Enters n (child root f.path) f.path w v → IsOn n root (index + 1) v
on_folder o n root index w v f d lt is folder on same e =
    let next = next_of o root index w f d lt is folder on in
    let at : Enters n (place_of root f.path) f.path w v = subst (λ (p : List ℕ). Enters n p f.path w v) (sym (place_some root f.path next.some)) e in
    let so_far : IsSoFar n root (listed index w.found.items ++ f.path ∷ []) v = entered o n root (listed index w.found.items) f.path w v on.so_far next.place next.fresh same at in
    let longer : listed (index + 1) v.found.items ≡ listed (index + 1) w.found.items = ap (listed (index + 1)) e.adds.found ∙ listed_longer w.found.items (founds (map (child_of f.path) e.items)) (index + 1) (omega (arith, lt)) in
    record {
      inside = omega (arith, lt, ap (λ (l : List Found). length l) e.adds.found, length-append w.found.items (founds (map (child_of f.path) e.items)));
      so_far = subst (λ (done : List (List ℕ)). IsSoFar n root done v) (sym (longer ∙ next.done)) so_far;
    }

pub large_folder : (o n : Option Content) (root : List ℕ) (index : ℕ) (w : Walked) (f d : Found) → index < length w.found.items → f ≡ get_or w.found.items index d → f.kind ≡ kind.Folder → IsOn o root index w
    → (is_some n ≡ true → n ≡ o) → Exceeds n (child root f.path) f.path w → IfSome n (λ c. IsTooLarge c root)
large_folder o n root index w f d lt is folder on same e =
    let next = next_of o root index w f d lt is folder on in
    exceeded o n root (listed index w.found.items) f.path w on.so_far next.place next.fresh same (subst (λ (p : List ℕ). Exceeds n p f.path w) (sym (place_some root f.path next.some)) e)

-- ---- what is listed next

-- the folders that a name lies in were listed before
lies_below : (below : List (List ℕ)) (items : List Item) (i : Item) → IsSeen ([] ∷ below) items → ((front : List (List ℕ)) (path : List ℕ) (back : List (List ℕ)) → below ≡ front ++ path ∷ back → (folder : List ℕ) → Contains (parents path) folder → Contains front folder)
    → In i items → (r : List ℕ) → In r (parents i.name) → In r below
lies_below below items i seen within has r lies =
    let f = seen.from i has in
    ⊎_elim (λ none. absurd (subst (λ (l : List (List ℕ)). In r l) (ap parents f.4 ∙ none) lies))
    (λ some. above f.0 some.0 f.2 (subst (λ (l : List (List ℕ)). In r l) (ap parents f.4 ∙ some.1) lies))
    (parents_under f.0 f.1 f.3)
  where
    above : (base : List ℕ) → base ≢ [] → In base ([] ∷ below) → In r (parents base ++ base ∷ []) → In r below
    above base some (inl none) j = absurd (some (sym none))
    above base some (inr here) j = ⊎_elim
        (λ before.
        let p = parted base below here in
        subst (λ (l : List (List ℕ)). In r l) (sym p.2) (in_left r p.0 (base ∷ p.1) (to_in r p.0 (within p.0 base p.1 p.2 r (from_in r (parents base) before)))))
        (λ last. ⊎_elim (λ is. subst (λ (q : List ℕ). In q below) is here) (λ no_. absurd no_) last)
        (in_app r (parents base) (base ∷ []) j)

pub may_be_listed : (o : Option Content) (root : List ℕ) (index : ℕ) (w : Walked) (f d : Found) → index < length w.found.items → f ≡ get_or w.found.items index d → f.kind ≡ kind.Folder → IsOn o root index w
    → AreFolders o root (folders (take index w.found.items)) → MayBeListed o root (folders (take index w.found.items)) f.path
may_be_listed o root index w f d lt is folder on are =
    let here : In f (founds on.so_far.items) = subst (λ (l : List Found). In f l) on.so_far.found (in_index w.found.items index f d lt is) in
    let i = of_founds f on.so_far.items here in
    let next = next_of o root index w f d lt is folder on in
    record {
      named = subst (λ (p : List ℕ). has_names p ≡ true) i.2 (on.so_far.seen.named i.0 i.1);
      new = λ listed_. next.fresh (inr listed_);
      inside = λ r lies. lies_below (folders (take index w.found.items)) on.so_far.items i.0 on.so_far.seen are.within i.1 r (subst (λ (p : List ℕ). In r (parents p)) (sym i.2) lies);
      stands = if_both o (λ c. IsThere c root (listed index w.found.items) on.so_far.items) (λ c. Unit {0}) (λ c. found c (child root f.path) ≡ Some AFolder)
          (λ c there _.
          let s = stands_as c root on.so_far.items there.stand f here in
          s.1 ∙ ap (λ (x : Stored). Some x) (subst (λ (k : EntryKind). IsKind k s.0) folder s.2))
          on.so_far.there (any_some o);
    }
  where
    any_some : (x : Option Content) → IfSome x (λ c. Unit {0})
    any_some None = tt
    any_some (Some c) = tt

-- a file is not listed, and a folder is
pub next_file : (index : ℕ) (w : Walked) (f d : Found) → index < length w.found.items → f ≡ get_or w.found.items index d → f.kind ≡ kind.File → folders (take index w.found.items) ≡ folders (take (index + 1) w.found.items)
next_file index w f d lt is file =
    sym (folders_more w.found.items index f d lt is ∙ ap (λ (k : EntryKind). folders (take index w.found.items) ++ folder_as f.path k) file ∙ append-nil (folders (take index w.found.items)))

pub next_folder : (index : ℕ) (w v : Walked) (f d : Found) (more : List Found) → index < length w.found.items → f ≡ get_or w.found.items index d → f.kind ≡ kind.Folder → v.found.items ≡ w.found.items ++ more
    → folders (take index w.found.items) ++ f.path ∷ [] ≡ folders (take (index + 1) v.found.items)
next_folder index w v f d more lt is folder grown =
    sym (ap (λ (l : List Found). folders (take (index + 1) l)) grown
    ∙ ap folders (take-append-le (index + 1) w.found.items more (omega (arith, lt)))
    ∙ folders_more w.found.items index f d lt is
    ∙ ap (λ (k : EntryKind). folders (take index w.found.items) ++ folder_as f.path k) folder)

-- ---- the first folder

nothing_so_far : (o : Option Content) (root : List ℕ) (w : Walked) → w.found.items ≡ [] → w.left ≡ 0 → w.text_len ≡ 12 → IsSoFar o root [] w
nothing_so_far o root w none left_ text = record {
  items = [];
  found = none;
  left = omega (arith, left_);
  text = text ∙ ap bare_len (sym none);
  most = omega (arith, text);
  short = ap (list_all is_short) none;
  seen = seen_nothing;
  there = on_any o (λ c. IsThere c root [] []) (λ c. record { folder = λ has. absurd has; stand = λ i has. absurd has; all = λ base name s has. absurd has });
}
  where
    on_any : (o : Option Content) (P : Content → Type 0) → ((c : Content) → P c) → IfSome o P
    on_any None P p = tt
    on_any (Some c) P p = p c

pub on_first : (n : Option Content) (root : List ℕ) (w v : Walked) → w.found.items ≡ [] → w.left ≡ 0 → w.text_len ≡ 12 → Enters n root [] w v → IsOn n root 0 v
on_first n root w v none left_ text e = record {
  inside = omega arith;
  so_far = entered n n root [] [] w v (nothing_so_far n root w none left_ text) (inl refl) (λ i. i) (λ _. refl) e;
}

pub large_first : (n : Option Content) (root : List ℕ) (w : Walked) → w.found.items ≡ [] → w.left ≡ 0 → w.text_len ≡ 12 → Exceeds n root [] w → IfSome n (λ c. IsTooLarge c root)
large_first n root w none left_ text e = exceeded n n root [] [] w (nothing_so_far n root w none left_ text) (inl refl) (λ i. i) (λ _. refl) e

entry_some : (n : ℕ) (k : EntryKind) → 1 ≤ entry_len n k
entry_some n kind.Folder = omega arith
entry_some n kind.File = omega arith

counted : (fs : List Found) → length fs ≤ entries_len fs
counted [] = omega arith
counted (f ∷ fs) = omega (arith, counted fs, sum_by-cons (λ (g : Found). entry_len (length g.path) g.kind) f fs, entry_some (length f.path) f.kind)

-- what was found has no more members than its text has bytes
pub few : (o : Option Content) (root : List ℕ) (index : ℕ) (w : Walked) → IsOn o root index w → length w.found.items ≤ MOST_TEXT_BYTES
few o root index w on = omega (arith, counted w.found.items, on.so_far.text, on.so_far.most)

-- what is known of a walk, with its calls
pub record IsGoing (first now : FolderView) (root : List ℕ) (index : ℕ) (w : Walked) : Type 0 where
  pub on : IsOn now.content root index w
  pub lists : OnlyLists root (folders (take index w.found.items)) first now
  pub steady : now.folder_faults ≡ first.folder_faults
