-- A folder that is not too large: no path is too long, nor are there too many.
use Rattle.std.proofs.Common.{◌≡◌, inl, inr, ⊎_elim, ℕ, zero, suc, ◌+◌, ◌<◌, ◌≤◌, true, List, [], ◌∷◌, ◌++◌, length, map, Contains, Some, refl, sym, ◌∙◌, ap, subst, arith, length-append}
use Rattle.std.specs.Ordering.{nat_cmp}
use Rattle.std.proofs.lemmas.Bool.{and_parts}
use Rattle.std.proofs.lemmas.List.Sums.{sum_by-cons, sum_by-append}
use Rattle.psb_bytes.specs.Names.{has_names}
use Rattle.psb_bytes.specs.Paths.{parents}
use Rattle.psb_station.specs.Folder.{Content, Stored, Folder as AFolder, File as AFile, found, child}
use Rattle.skeleton.specs.declared.entry.EntryKind.{EntryKind}
use Rattle.skeleton.specs.declared.entry.EntryKind.TheVariants as kind
use Rattle.skeleton.specs.declared.limits.TheConstants.{MOST_PATH_BYTES, MOST_TEXT_BYTES}
use Rattle.skeleton.specs.Paths.{is_path, is_below}
use Rattle.skeleton.proofs.Order.{below_trans}
use Rattle.snapshots.specs.Laws.{FoldersHaveOneTree, ShortTreesAreNotTooLarge}
use Rattle.snapshots.specs.Meaning.{Item, Folder, File, Place}
use Rattle.snapshots.specs.Shapes.{IsOf, AreOf, WalksAreNotTooLarge}
use Rattle.snapshots.specs.Trees.{stored_as, ascend, IsReached, Stands, IsTree}
use Rattle.snapshots.specs.Walks.{IsKind, StandsAs, InTree, IsWithin, entry_len, entries_len, bare_len, HasLongPath, HasMuch, IsNotTooLarge}
use Rattle.snapshots.specs.WalkSteps.{In}
use Rattle.snapshots.specs.declared.walking.Found.{Found}
use Rattle.snapshots.proofs.Members.{to_in, from_in, in_left, in_right, in_app, in_map, of_map, parted, Apart, to_apart}
use Rattle.snapshots.proofs.PathSplits.{inside_of, IsInside, valid_short}
use Rattle.snapshots.proofs.Seen.{path_of, folder_at}
use Rattle.snapshots.proofs.Skeletons.{lies_in, first_below, rest_ascends, not_below}
use Rattle.snapshots.proofs.WalkPlaces.{skeleton_is_as_long}
use Rattle.snapshots.proofs.WalkTrees.{kind_of_item, kind_fits}

-- ---- what stands in a folder was found

-- whatever stands in folders that were found was found
abbrev Covers : Content → List ℕ → List Found → Type 0
Covers c root fs = (f : Found) → has_names f.path ≡ true → StandsAs c root f → IsWithin fs f.path → In f fs

-- so each folder that a path lies in was found, where each stands
within_front : (c : Content) (root : List ℕ) (fs : List Found) (path front : List ℕ) → Covers c root fs → IsInside path front → IsWithin fs front → InTree c root path → IsWithin fs path
within_front c root fs path front covers inside before in_tree folder lies =
    ⊎_elim
    (λ above. before folder (from_in folder (parents front) above))
    (λ last. ⊎_elim
    (λ is. subst (λ (p : List ℕ). Contains fs (folder_at p)) is (from_in (folder_at front) fs (covers (folder_at front) inside.names (AFolder, in_tree front (subst (λ (l : List (List ℕ)). Contains l front) (sym inside.lies) (from_in front (parents front ++ front ∷ []) (in_right front (parents front) (front ∷ []) (inl refl)))), refl) before)))
    (λ no_. absurd no_) last)
    (in_app folder (parents front) (front ∷ []) (subst (λ (l : List (List ℕ)). In folder l) inside.lies (to_in folder (parents path) lies)))

none_lies : (path folder : List ℕ) (P : Type 0) → parents path ≡ [] → Contains (parents path) folder → P
none_lies path folder P none lies = absurd (subst (λ (l : List (List ℕ)). In folder l) none (to_in folder (parents path) lies))

within_all : (n : ℕ) (c : Content) (root : List ℕ) (fs : List Found) (path : List ℕ) → Covers c root fs → length path ≤ n → has_names path ≡ true → InTree c root path → IsWithin fs path
within_all zero c root fs path covers short named in_tree folder lies =
    ⊎_elim (λ none. none_lies path folder _ none lies) (λ i. absurd (omega (arith, short, i.1.shorter))) (inside_of path named)
within_all (suc n) c root fs path covers short named in_tree folder lies =
    ⊎_elim
    (λ none. none_lies path folder _ none lies)
    (λ i.
    let above : InTree c root i.0 = λ r above_. in_tree r (subst (λ (l : List (List ℕ)). Contains l r) (sym i.1.lies) (from_in r (parents i.0 ++ i.0 ∷ []) (in_left r (parents i.0) (i.0 ∷ []) (to_in r (parents i.0) above_)))) in
    within_front c root fs path i.0 covers i.1 (within_all n c root fs i.0 covers (omega (arith, short, i.1.shorter)) i.1.names above) in_tree folder lies)
    (inside_of path named)

covered : (c : Content) (root : List ℕ) (fs : List Found) → Covers c root fs → (f : Found) → has_names f.path ≡ true → StandsAs c root f → InTree c root f.path → In f fs
covered c root fs covers f named stands in_tree = covers f named stands (within_all (length f.path) c root fs f.path covers (omega arith) named in_tree)

-- ---- not more than was found

front_sum : (a : List Found) (f : Found) (b : List Found) → entries_len (a ++ f ∷ b) ≡ entry_len (length f.path) f.kind + entries_len (a ++ b)
front_sum a f b =
    omega (
      arith,
      sum_by-append (λ (g : Found). entry_len (length g.path) g.kind) a (f ∷ b),
      sum_by-append (λ (g : Found). entry_len (length g.path) g.kind) a b,
      sum_by-cons (λ (g : Found). entry_len (length g.path) g.kind) f b,
    )

no_more : (ps fs : List Found) → Apart (map path_of ps) → ((f : Found) → In f ps → In f fs) → entries_len ps ≤ entries_len fs
no_more [] fs apart all = omega arith
no_more (p ∷ ps) fs apart all =
    let split = parted p fs (all p (inl refl)) in
    let a = split.0 in
    let b = split.1 in
    let rest : (f : Found) → In f ps → In f (a ++ b) = λ f i. ⊎_elim
    (λ front. in_left f a b front)
    (λ behind. ⊎_elim (λ is. absurd (apart.0 (subst (λ (q : List ℕ). In q (map path_of ps)) (ap path_of (sym is)) (in_map path_of f ps i)))) (λ back. in_right f a b back) behind)
    (in_app f a (p ∷ b) (subst (λ (l : List Found). In f l) split.2 (all f (inr i)))) in
    omega (arith, no_more ps (a ++ b) apart.1 rest, sum_by-cons (λ (g : Found). entry_len (length g.path) g.kind) p ps, front_sum a p b, ap entries_len split.2)

not_too_large : (c : Content) (root : List ℕ) (fs : List Found) → Covers c root fs → ((f : Found) → In f fs → length f.path ≤ MOST_PATH_BYTES) → bare_len fs ≤ MOST_TEXT_BYTES → IsNotTooLarge c root
not_too_large c root fs covers short few = record {
  paths = λ long. absurd (omega (arith, long.long, short long.place (covered c root fs covers long.place long.names long.stands long.in_tree)));
  few = λ much. absurd (omega (
    arith,
    much.long,
    few,
    no_more much.places fs (to_apart (map path_of much.places) much.distinct)
        (λ f i. let has = from_in f much.places i in covered c root fs covers f (much.names f has) (much.stand f has) (much.in_tree f has)),
  ));
}

pub walk_not_too_large : WalksAreNotTooLarge
walk_not_too_large c root fs left are walk few =
    not_too_large c root fs
    (λ f named stands within. to_in f fs (walk.all f named stands.0 stands.1 stands.2 within))
    (λ f i. valid_short f.path (are.paths f (from_in f fs i))) few

-- ---- of a tree

found_at : Place → Found
found_at p = record { path = p.path; kind = kind_of_item p.item }

kind_is_of : (item : Item) → IsOf (kind_of_item item) item
kind_is_of Folder = refl
kind_is_of (File bytes) = (bytes, refl)

are_of : (ps : List Place) → AreOf (map found_at ps) ps
unfolding found_at
are_of [] = tt
are_of (p ∷ ps) = (refl, kind_is_of p.item, are_of ps)

-- the item that stands there
item_at : (k : EntryKind) (s : Stored) → IsKind k s → (item : Item) × (stored_as item ≡ s) × (kind_of_item item ≡ k)
item_at kind.Folder s is = (Folder, sym is, refl)
item_at kind.File s is = (File is.0, sym is.1, refl)

folder_item : (item : Item) → kind_of_item item ≡ kind.Folder → item ≡ Folder
folder_item Folder is = refl
folder_item (File bytes) is = absurd (let clash : kind.File ≡ kind.Folder = is in cc)

tree_covers : (c : Content) (root : List ℕ) (ps : List Place) → IsTree c root ps → Covers c root (map found_at ps)
unfolding found_at
tree_covers c root ps tree f named stands within =
    let item = item_at f.kind stands.0 stands.2 in
    let p : Place = record { path = f.path; item = item.0 } in
    let there = tree.all p (record {
      path = named;
      here = stands.1 ∙ ap (λ (s : Stored). Some s) (sym item.1);
      reached = λ folder lies.
          let m = of_map found_at (folder_at folder) ps (to_in (folder_at folder) (map found_at ps) (within folder lies)) in
          let is_folder = folder_item m.0.item (ap (λ (g : Found). g.kind) m.2) in
          let at_path = ap (λ (g : Found). g.path) m.2 in
          subst (λ (q : Place). Contains ps q) (λ i. record { path = at_path i; item = is_folder i }) (from_in m.0 ps m.1);
    }) in
    subst (λ (k : EntryKind). In (record { path = f.path; kind = k }) (map found_at ps)) item.2 (in_map found_at p ps (to_in p ps there))

pub tree_not_too_large : ShortTreesAreNotTooLarge
unfolding found_at
tree_not_too_large c root ps tree short fits =
    not_too_large c root (map found_at ps) (tree_covers c root ps tree)
    (λ f i. let m = of_map found_at f ps i in subst (λ (q : List ℕ). length q ≤ MOST_PATH_BYTES) (ap (λ (g : Found). g.path) m.2) (short m.0 (from_in m.0 ps m.1)))
    (omega (arith, fits, skeleton_is_as_long (map found_at ps) ps (are_of ps)))

-- ---- one tree

-- lists that ascend and have the same members are one
same_places : (a b : List Place) → ascend a ≡ true → ascend b ≡ true → ((p : Place) → In p a → In p b) → ((p : Place) → In p b → In p a) → a ≡ b
same_places [] [] up up' there back = refl
same_places [] (q ∷ b) up up' there back = absurd (back q (inl refl))
same_places (p ∷ a) [] up up' there back = absurd (there p (inl refl))
same_places (p ∷ a) (q ∷ b) up up' there back =
    let same = first_same (there p (inl refl)) (back q (inl refl)) in
    let rest = same_places a b (rest_ascends p a up) (rest_ascends q b up')
    (λ r i. ⊎_elim (λ is. absurd (not_below p.path (subst (λ (x : Place). is_below p.path x.path ≡ true) (sym is ∙ sym same) (first_below p r a up i)))) (λ j. j) (there r (inr i)))
    (λ r i. ⊎_elim (λ is. absurd (not_below q.path (subst (λ (x : Place). is_below q.path x.path ≡ true) (sym is ∙ same) (first_below q r b up' i)))) (λ j. j) (back r (inr i))) in
    ap (λ (x : Place). x ∷ a) same ∙ ap (λ (l : List Place). q ∷ l) rest
  where
    first_same : In p (q ∷ b) → In q (p ∷ a) → p ≡ q
    first_same (inl is) j = sym is
    first_same (inr i) (inl is) = is
    first_same (inr i) (inr j) = absurd (not_below p.path (below_trans p.path q.path p.path (first_below p q a up j) (first_below q p b up' i)))

-- a place of one tree is one of the other, and so is each folder that it lies in
in_other : (n : ℕ) (c : Content) (root : List ℕ) (a b : List Place) (p : Place) → IsTree c root a → IsTree c root b → length p.path ≤ n → In p a → In p b
in_other zero c root a b p one two short i =
    let s = one.stand p (from_in p a i) in
    to_in p b (two.all p (record {
      path = s.path;
      here = s.here;
      reached = λ folder lies. let l = lies_in p.path folder (to_in folder (parents p.path) lies) in absurd (omega (arith, short, ap (λ (x : List ℕ). length x) l.1, length-append folder (47 ∷ l.0)));
    }))
in_other (suc n) c root a b p one two short i =
    let s = one.stand p (from_in p a i) in
    to_in p b (two.all p (record {
      path = s.path;
      here = s.here;
      reached = λ folder lies.
          let l = lies_in p.path folder (to_in folder (parents p.path) lies) in
          let q : Place = record { path = folder; item = Folder } in
          from_in q b (in_other n c root a b q one two (omega (arith, short, ap (λ (x : List ℕ). length x) l.1, length-append folder (47 ∷ l.0))) (to_in q a (s.reached folder lies)));
    }))

pub one_tree : FoldersHaveOneTree
one_tree c root a b one two = same_places a b one.ordered two.ordered (λ p i. in_other (length p.path) c root a b p one two (omega arith) i) (λ p i. in_other (length p.path) c root b a p two one (omega arith) i)
