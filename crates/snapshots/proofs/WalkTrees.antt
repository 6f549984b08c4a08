-- The tree that a walk finds.
use Rattle.std.proofs.Common.{◌≡◌, inl, inr, ℕ, true, ◌&&◌, List, [], ◌∷◌, length, Contains, Some, refl, sym, ◌∙◌, ap, subst}
use Rattle.std.specs.List.{list_all}
use Rattle.std.specs.Str.{is_utf8}
use Rattle.std.proofs.lemmas.Bool.{and_parts}
use Rattle.psb_bytes.specs.Names.{is_name, parts, has_names}
use Rattle.psb_station.specs.Folder.{Content, Stored, File as AFile, found, child}
use Rattle.skeleton.specs.declared.entry.EntryKind.{EntryKind}
use Rattle.skeleton.specs.declared.entry.EntryKind.TheVariants as kind
use Rattle.skeleton.specs.declared.limits.TheConstants.{MOST_PATH_BYTES}
use Rattle.skeleton.specs.Paths.{within, is_path, is_below}
use Rattle.snapshots.specs.Meaning.{Item, Folder, File, Place}
use Rattle.snapshots.specs.Trees.{ascend, stored_as, IsReached, AreInPlace, AreShort}
use Rattle.snapshots.specs.Walks.{rise, IsWithin, IsKind}
use Rattle.snapshots.specs.Shapes.{IsOf, AreOf, IsReadAt, AreRead, WalksAreInPlace, WalksFindTrees}
use Rattle.snapshots.specs.declared.walking.Found.{Found}
use Rattle.snapshots.specs.WalkSteps.{In}
use Rattle.snapshots.proofs.Members.{to_in, from_in}
use Rattle.snapshots.proofs.PathSplits.{valid_names, valid_short}

-- ---- a place and what was found

record IsAs (f : Found) (p : Place) : Type 0 where
  path : p.path ≡ f.path
  of : IsOf f.kind p.item

of_in : (fs : List Found) (ps : List Place) (p : Place) → AreOf fs ps → In p ps → (f : Found) × In f fs × IsAs f p
of_in [] [] p are i = absurd i
of_in [] (q ∷ ps) p are i = absurd are
of_in (f ∷ fs) [] p are i = absurd are
of_in (f ∷ fs) (q ∷ ps) p are (inl is) = (f, inl refl, subst (IsAs f) is (record { path = are.0; of = are.1 }))
of_in (f ∷ fs) (q ∷ ps) p are (inr i) = let r = of_in fs ps p are.2 i in (r.0, inr r.1, r.2)

of_back : (fs : List Found) (ps : List Place) (f : Found) → AreOf fs ps → In f fs → (p : Place) × In p ps × IsAs f p
of_back [] [] f are i = absurd i
of_back [] (q ∷ ps) f are i = absurd are
of_back (g ∷ fs) [] f are i = absurd are
of_back (g ∷ fs) (q ∷ ps) f are (inl is) = (q, inl refl, subst (λ (x : Found). IsAs x q) is (record { path = are.0; of = are.1 }))
of_back (g ∷ fs) (q ∷ ps) f are (inr i) = let r = of_back fs ps f are.2 i in (r.0, inr r.1, r.2)

-- ---- in place

in_order : (fs : List Found) (ps : List Place) → AreOf fs ps → rise fs ≡ true → ascend ps ≡ true
in_order [] [] are up = refl
in_order [] (p ∷ ps) are up = absurd are
in_order (f ∷ fs) [] are up = absurd are
in_order (f ∷ []) (p ∷ []) are up = refl
in_order (f ∷ []) (p ∷ q ∷ ps) are up = absurd are.2
in_order (f ∷ g ∷ fs) (p ∷ []) are up = absurd are.2
in_order (f ∷ g ∷ fs) (p ∷ q ∷ ps) are up =
    let both = and_parts (is_below f.path g.path) (rise (g ∷ fs)) up in
    rw (ap (λ (path : List ℕ). is_below path q.path) are.0 ∙ ap (is_below f.path) are.2.0 ∙ both.0) (in_order (g ∷ fs) (q ∷ ps) are.2 both.1)

folder_of : (p : Place) (path : List ℕ) → p.path ≡ path → p.item ≡ Folder → p ≡ record { path = path; item = Folder }
folder_of p path same is = λ i. record { path = same i; item = is i }

reached_by : (fs : List Found) (ps : List Place) (path : List ℕ) → AreOf fs ps → IsWithin fs path → IsReached ps path
reached_by fs ps path are inside folder above =
    let f : Found = record { path = folder; kind = kind.Folder } in
    let r = of_back fs ps f are (to_in f fs (inside folder above)) in
    subst (λ (p : Place). Contains ps p) (folder_of r.0 folder r.2.path r.2.of) (from_in r.0 ps r.1)

pub in_place : WalksAreInPlace
in_place fs ps are of = record {
  ordered = in_order fs ps of are.ordered;
  paths = λ p has.
      let r = of_in fs ps p of (to_in p ps has) in
      ap is_path r.2.path ∙ are.paths r.0 (from_in r.0 fs r.1);
  reached = λ p has.
      let r = of_in fs ps p of (to_in p ps has) in
      subst (IsReached ps) (sym r.2.path) (reached_by fs ps r.0.path of (are.within r.0 (from_in r.0 fs r.1)));
}

pub in_place_short : (ps : List Place) → AreInPlace ps → AreShort ps
in_place_short ps at p has = valid_short p.path (at.paths p has)

-- ---- a tree

found_folder : (f : Found) (path : List ℕ) → f.path ≡ path → IsOf f.kind Folder → f ≡ record { path = path; kind = kind.Folder }
found_folder f path same of = λ i. record { path = same i; kind = at f.kind of i }
  where
    at : (k : EntryKind) → IsOf k Folder → k ≡ kind.Folder
    at kind.Folder is = refl
    at kind.File is = absurd (let clash : Folder ≡ File is.0 = is.1 in cc)

within_by : (fs : List Found) (ps : List Place) (path : List ℕ) → AreOf fs ps → IsReached ps path → IsWithin fs path
within_by fs ps path are reached folder above =
    let p : Place = record { path = folder; item = Folder } in
    let r = of_in fs ps p are (to_in p ps (reached folder above)) in
    subst (λ (f : Found). Contains fs f) (found_folder r.0 folder (sym r.2.path) r.2.of) (from_in r.0 fs r.1)

read_at : (content : Content) (root : List ℕ) (ps : List Place) (p : Place) → AreRead content root ps → In p ps → IsReadAt content root p.path p.item
read_at content root [] p all i = absurd i
read_at content root (q ∷ ps) p all (inl is) = subst (λ (x : Place). IsReadAt content root x.path x.item) is all.0
read_at content root (q ∷ ps) p all (inr i) = read_at content root ps p all.1 i

-- what stands at a place, by its kind and by what was read
stands_at : (content : Content) (root path : List ℕ) (k : EntryKind) (item : Item) (s : Stored) → found content (child root path) ≡ Some s → IsKind k s → IsOf k item → IsReadAt content root path item → found content (child root path) ≡ Some (stored_as item)
stands_at content root path kind.Folder item s here is of read = here ∙ ap (λ (x : Stored). Some x) is ∙ ap (λ (i : Item). Some (stored_as i)) (sym of)
stands_at content root path kind.File item s here is of read =
    subst (λ (i : Item). found content (child root path) ≡ Some (stored_as i)) (sym of.1) (subst (IsReadAt content root path) of.1 read)

abbrev pub kind_of_item : Item → EntryKind
kind_of_item Folder = kind.Folder
kind_of_item (File bytes) = kind.File

pub kind_fits : (item : Item) → IsKind (kind_of_item item) (stored_as item)
kind_fits Folder = refl
kind_fits (File bytes) = (bytes, refl)

-- two items of one kind that stand at one path are one
one_item : (content : Content) (root path : List ℕ) (item other : Item) → found content (child root path) ≡ Some (stored_as item) → IsOf (kind_of_item item) other → IsReadAt content root path other → other ≡ item
one_item content root path Folder other here of read = of
one_item content root path (File bytes) other here of read =
    let there : found content (child root path) ≡ Some (AFile of.0) = subst (IsReadAt content root path) of.1 read in
    let same : Some (AFile of.0) ≡ Some (AFile bytes) = sym there ∙ here in
    of.1 ∙ cc (same)

pub walk_finds_tree : WalksFindTrees
walk_finds_tree content root fs left ps are walk of read = record {
  folder = walk.folder;
  ordered = in_order fs ps of are.ordered;
  stand = λ p has.
      let i = to_in p ps has in
      let r = of_in fs ps p of i in
      let s = walk.stand r.0 (from_in r.0 fs r.1) in
      let placed = in_place fs ps are of in
      record {
        path = valid_names p.path (placed.paths p has);
        here = stands_at content root p.path r.0.kind p.item s.0 (ap (λ (path : List ℕ). found content (child root path)) r.2.path ∙ s.1) s.2 r.2.of (read_at content root ps p read i);
        reached = placed.reached p has;
      };
  all = λ p stands.
      let f : Found = record { path = p.path; kind = kind_of_item p.item } in
      let there = walk.all f stands.path (stored_as p.item) stands.here (kind_fits p.item) (within_by fs ps p.path of stands.reached) in
      let r = of_back fs ps f of (to_in f fs there) in
      let item = one_item content root p.path p.item r.0.item stands.here r.2.of (subst (λ (path : List ℕ). IsReadAt content root path r.0.item) r.2.path (read_at content root ps r.0 read r.1)) in
      subst (λ (q : Place). Contains ps q) (λ i. record { path = r.2.path i; item = item i }) (from_in r.0 ps r.1);
}
