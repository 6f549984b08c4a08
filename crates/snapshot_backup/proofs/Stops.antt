-- A backup that stops, and what its folder has.
use Rattle.std.proofs.Common.{◌≡◌, ◌⊎◌, inl, inr, ⊎_elim, ℕ, ◌+◌, ◌*◌, ◌<◌, ◌≤◌, true, List, [], ◌∷◌, ◌++◌, length, Contains, IfSome, Option, Some, None, is_some, refl, sym, ◌∙◌, ap, subst, arith, append-nil, length-append}
use Rattle.std.proofs.lemmas.List.{append_assoc, length-map}
use Rattle.psb_station.specs.Folder.{FolderView, Content, Folder as AFolder, found, child}
use Rattle.node_core.specs.declared.fault.Fault.{Fault}
use Rattle.node_core.specs.declared.fault.Fault.TheVariants as fault
use Rattle.skeleton.specs.declared.limits.TheConstants.{MOST_TEXT_BYTES}
use Rattle.skeleton.specs.Entries.{IsSkeleton}
use Rattle.skeleton.specs.Texts.{skeleton_text}
use Rattle.snapshots.specs.Meaning.{Place}
use Rattle.snapshots.specs.Shapes.{AreOf, AreRead}
use Rattle.snapshots.specs.Tickets.{skeleton_of_tree, most_levels}
use Rattle.snapshots.specs.Trees.{IsTree, AreShort}
use Rattle.snapshots.specs.Walks.{AreFound, IsWalk, listings, AreFolders, AreFoldersOf, OnlyLists, bare_len}
use Rattle.snapshots.specs.declared.walking.Found.{Found}
use Rattle.snapshots.proofs.NotTooLarge.{walk_not_too_large}
use Rattle.snapshots.proofs.Skeletons.{places_have_skeleton}
use Rattle.snapshots.proofs.WalkPlaces.{walk_has_places, skeleton_is_as_long}
use Rattle.snapshots.proofs.WalkTrees.{in_place, in_place_short, walk_finds_tree}
use Rattle.snapshots.proofs.WalkSteps.{still}
use Rattle.node_serve.proofs.Tries.{grows_none, grows_then}
use Rattle.snapshot_backup.specs.Backed.{ComesOfFiles, AreTried, IsSnapOf, HasLongText, IsLongWithRefs, ListsThenReads}
use Rattle.snapshot_backup.specs.Course.{pieces_of_files, pieces_of_levels, pieces_of, keep_step, keep_steps}
use Rattle.snapshot_backup.specs.Endings.{backup_fault_of}
use Rattle.snapshot_backup.specs.Files.{IsFront, AreFirstIn, HasMoreIn, ReadsFiles}
use Rattle.snapshot_backup.specs.Runs.{most_refs}
use Rattle.snapshot_backup.specs.declared.fault.BackupFault.{BackupFault}
use Rattle.snapshot_backup.specs.declared.fault.BackupFault.TheVariants as backup_fault
use Rattle.snapshot_backup.proofs.TreeTexts.{refs_are_pieces}

-- ---- the calls

pub calls_none : (root : List ℕ) (v : FolderView) → ListsThenReads root v v
calls_none root v = record { calls = []; grown = grows_none v.folder_calls; are = inl refl }

pub calls_listed : (root : List ℕ) (below : List (List ℕ)) (v0 v1 : FolderView) → OnlyLists root below v0 v1 → ListsThenReads root v0 v1
calls_listed root below v0 v1 lists = record { calls = listings root below; grown = lists.grown; are = inr (inl (below, lists.folders, refl)) }

-- what was listed stands as before
folders_still : (o new : Option Content) (root : List ℕ) (below : List (List ℕ)) → AreFolders o root below → (is_some new ≡ true → new ≡ o) → AreFolders new root below
folders_still o new root below are same = record {
  distinct = are.distinct;
  names = are.names;
  within = are.within;
  stand = still o new (λ c. (path : List ℕ) → Contains below path → found c (child root path) ≡ Some AFolder) same are.stand;
}

pub calls_then : (root : List ℕ) (below : List (List ℕ)) (fs : List Found) (left : ℕ) (v0 v1 v2 : FolderView) → OnlyLists root below v0 v1 → AreFoldersOf fs below → AreFound fs → IfSome v1.content (λ c. IsWalk c root fs left) → ReadsFiles root fs v1 v2 → ListsThenReads root v0 v2
calls_then root below fs left v0 v1 v2 lists folders are walk reads = record {
  calls = listings root below ++ reads.calls;
  grown = grows_then v0.folder_calls v1.folder_calls v2.folder_calls (listings root below) reads.calls lists.grown reads.tried;
  are = inr (inr (
    below,
    reads.calls,
    folders_still v1.content v2.content root below lists.folders reads.content,
    record {
      found = fs;
      are = are;
      folders = folders;
      walk = some_left v2.content (still v1.content v2.content (λ c. IsWalk c root fs left) reads.content walk);
      readings_are = reads.readings;
    },
    refl,
  ));
}
  where
    some_left : (o : Option Content) → IfSome o (λ c. IsWalk c root fs left) → IfSome o (λ c. (n : ℕ) × IsWalk c root fs n)
    some_left None w = tt
    some_left (Some c) w = (left, w)

-- ---- the tree of what was found

-- it is that of the content at the end
pub record HasTree (content : Content) (root : List ℕ) (fs : List Found) : Type 0 where
  pub places : List Place
  pub tree : IsTree content root places
  pub short : AreShort places
  pub of : AreOf fs places
  pub read : AreRead content root places

module _ (root : List ℕ) (fs : List Found) (left : ℕ) (are : AreFound fs) where
  walk_still : (o new : Option Content) → IfSome o (λ c. IsWalk c root fs left) → (is_some new ≡ true → new ≡ o) → IfSome new (λ c. IsWalk c root fs left)
  walk_still o None walk same = tt
  walk_still o (Some c) walk same = subst (λ (x : Option Content). IfSome x (λ d. IsWalk d root fs left)) (sym (same refl)) walk

  pub has_tree : (o new : Option Content) → IfSome o (λ c. IsWalk c root fs left) → (is_some new ≡ true → new ≡ o) → IfSome new (λ c. HasTree c root fs)
  has_tree o new walk same = at new (walk_still o new walk same)
    where
      at : (x : Option Content) → IfSome x (λ c. IsWalk c root fs left) → IfSome x (λ c. HasTree c root fs)
      at None w = tt
      at (Some c) w =
          let p = walk_has_places c root fs left w in
          record { places = p.0; tree = walk_finds_tree c root fs left p.0 are w p.1 p.2; short = in_place_short p.0 (in_place fs p.0 are p.1); of = p.1; read = p.2 }

  -- places that were read are the tree
  pub is_snap : (o new : Option Content) (places : List Place) → IfSome o (λ c. IsWalk c root fs left) → (is_some new ≡ true → new ≡ o) → AreOf fs places → IfSome new (λ c. AreRead c root places) → IfSome new (λ c. IsSnapOf c root places left)
  is_snap o new places walk same of read = at new (walk_still o new walk same) read
    where
      at : (x : Option Content) → IfSome x (λ c. IsWalk c root fs left) → IfSome x (λ c. AreRead c root places) → IfSome x (λ c. IsSnapOf c root places left)
      at None w r = tt
      at (Some c) w r = record { tree = walk_finds_tree c root fs left places are w of r; short = in_place_short places (in_place fs places are of); others = (fs, of, w.left) }

  pub is_skeleton : (places : List Place) → AreOf fs places → IsSkeleton (skeleton_of_tree places)
  is_skeleton places of = places_have_skeleton places (in_place fs places are of)

-- ---- the first pieces

pub none_in_front : (tried rest : List (List ℕ)) → [] ≡ tried ++ rest → tried ≡ []
none_in_front [] rest is = refl
none_in_front (p ∷ tried) rest is = absurd (cc)

comes_none : (e : BackupFault) → ComesOfFiles e []
comes_none (backup_fault.Node f) = tt
comes_none backup_fault.Folder = refl
comes_none backup_fault.TooLarge = refl
comes_none backup_fault.Memory = tt

pub none_tried : (e : BackupFault) (content : Option Content) (root : List ℕ) (tried rest : List (List ℕ)) → [] ≡ tried ++ rest → AreTried e content root tried
none_tried e content root tried rest is =
    let none = none_in_front tried rest is in
    record {
      of_files = tried;
      of_texts = [];
      are = sym (append-nil tried);
      few = omega (arith, ap (λ (l : List (List ℕ)). length l) none);
      behind = inl refl;
      comes = comes_none e;
      first = inl none;
    }

front_of : (places : List Place) (pieces tried rest : List (List ℕ)) → pieces ≡ tried ++ rest → IsFront pieces (pieces_of_files places) → IsFront tried (pieces_of places)
front_of places pieces tried rest is first =
    let levels = pieces_of_levels most_levels (skeleton_text (skeleton_of_tree places)) in (
      rest ++ (first.0 ++ levels),
      ap (λ (l : List (List ℕ)). l ++ levels) (first.1 ∙ ap (λ (l : List (List ℕ)). l ++ first.0) is)
          ∙ append_assoc (tried ++ rest) first.0 levels ∙ append_assoc tried rest (first.0 ++ levels),
    )

-- of what was read of the files
pub files_tried : (e : BackupFault) (content : Option Content) (root : List ℕ) (fs : List Found) (pieces tried rest : List (List ℕ)) → IfSome content (λ c. HasTree c root fs) → AreFirstIn content root fs pieces → length pieces ≤ most_refs → pieces ≡ tried ++ rest → AreTried e content root tried
files_tried e content root fs pieces tried rest tree first few is = record {
  of_files = tried;
  of_texts = [];
  are = sym (append-nil tried);
  few = omega (arith, few, ap (λ (l : List (List ℕ)). length l) is, length-append tried rest);
  behind = inl refl;
  comes = comes_none e;
  first = inr (at content refl tree);
}
  where
    at : (x : Option Content) → content ≡ x → IfSome x (λ c. HasTree c root fs) → IfSome x (λ c. (places : List Place) × IsTree c root places × AreShort places × IsFront tried (pieces_of places))
    at None o t = tt
    at (Some c) o t = (t.places, t.tree, t.short, front_of t.places pieces tried rest is (first c t.places o t.of t.read))

-- the first ones of two lists: those of the one, or all of it and the first ones of the other
parted_front : (a b tried rest : List (List ℕ)) → a ++ b ≡ tried ++ rest → ((more : List (List ℕ)) × (a ≡ tried ++ more)) ⊎ ((more : List (List ℕ)) × (tried ≡ a ++ more) × (b ≡ more ++ rest))
parted_front [] b tried rest is = inr (tried, refl, is)
parted_front (x ∷ a) b [] rest is = inl (x ∷ a, refl)
parted_front (x ∷ a) b (y ∷ tried) rest is =
    let same : x ≡ y = cc in
    let tails : a ++ b ≡ tried ++ rest = cc in
    ⊎_elim
    (λ (more, is_). inl (more, ap (λ (z : List ℕ). z ∷ a) same ∙ ap (λ (l : List (List ℕ)). y ∷ l) is_))
    (λ (more, is_, behind). inr (more, ap (λ (l : List (List ℕ)). y ∷ l) is_ ∙ ap (λ (z : List ℕ). z ∷ (a ++ more)) (sym same), behind))
    (parted_front a b tried rest tails)

-- of all its pieces
pub pieces_tried : (e : BackupFault) (content : Option Content) (root : List ℕ) (places : List Place) (left : ℕ) (tried rest : List (List ℕ)) → ((texts : List (List ℕ)) → ComesOfFiles e texts) → length (pieces_of_files places) ≤ most_refs → IfSome content (λ c. IsSnapOf c root places left) → pieces_of places ≡ tried ++ rest → AreTried e content root tried
pieces_tried e content root places left tried rest comes few snap is =
    let levels = pieces_of_levels most_levels (skeleton_text (skeleton_of_tree places)) in
    ⊎_elim
    (λ (more, front). record {
      of_files = tried;
      of_texts = [];
      are = sym (append-nil tried);
      few = omega (arith, few, ap (λ (l : List (List ℕ)). length l) front, length-append tried more);
      behind = inl refl;
      comes = comes [];
      first = inr (at content snap);
    })
    (λ (more, all, above). record {
      of_files = pieces_of_files places;
      of_texts = more;
      are = all;
      few = few;
      behind = inr (places, refl, (rest, above));
      comes = comes more;
      first = inr (at content snap);
    })
    (parted_front (pieces_of_files places) levels tried rest is)
  where
    at : (x : Option Content) → IfSome x (λ c. IsSnapOf c root places left) → IfSome x (λ c. (ps : List Place) × IsTree c root ps × AreShort ps × IsFront tried (pieces_of ps))
    at None s = tt
    at (Some c) s = (places, s.tree, s.short, (rest, is))

-- a fault of the node may come of any piece
pub comes_of_node : (f : Fault) (texts : List (List ℕ)) → ComesOfFiles (backup_fault_of f) texts
comes_of_node fault.NotNode texts = tt
comes_of_node fault.DiskFault texts = tt
comes_of_node fault.Broken texts = tt
comes_of_node fault.BadSettings texts = tt
comes_of_node (fault.Clash c) texts = tt
comes_of_node (fault.Altered name) texts = tt
comes_of_node (fault.NoSnapshot k) texts = tt
comes_of_node fault.Memory texts = tt

-- ---- too long a text

-- more pieces than there is room for
text_exceeds : (content : Option Content) (root : List ℕ) (fs : List Found) (bare room : ℕ) → IfSome content (λ c. HasTree c root fs) → bare ≡ bare_len fs → MOST_TEXT_BYTES < bare + 68 * (room + 1) → HasMoreIn content root fs room → IfSome content (λ c. HasLongText c root)
text_exceeds content root fs bare room tree is full more = at content refl tree
  where
    at : (x : Option Content) → content ≡ x → IfSome x (λ c. HasTree c root fs) → IfSome x (λ c. HasLongText c root)
    at None o t = tt
    at (Some c) o t = (t.places, t.tree, omega (arith, skeleton_is_as_long fs t.places t.of, refs_are_pieces t.places, is, full, more c t.places o t.of t.read))

-- though a walk found what there is
pub long_with_refs : (root : List ℕ) (fs : List Found) (left : ℕ) → AreFound fs → (o new : Option Content) → IfSome o (λ c. IsWalk c root fs left) → (is_some new ≡ true → new ≡ o) → (bare room : ℕ) → bare ≡ bare_len fs → bare ≤ MOST_TEXT_BYTES → MOST_TEXT_BYTES < bare + 68 * (room + 1) → HasMoreIn new root fs room → IfSome new (λ c. IsLongWithRefs c root)
long_with_refs root fs left are o new walk same bare room is few full more =
    at new (walk_still root fs left are o new walk same) (text_exceeds new root fs bare room (has_tree root fs left are o new walk same) is full more)
  where
    at : (x : Option Content) → IfSome x (λ c. IsWalk c root fs left) → IfSome x (λ c. HasLongText c root) → IfSome x (λ c. IsLongWithRefs c root)
    at None w t = tt
    at (Some c) w t = record { sizes = walk_not_too_large c root fs left are w (omega (arith, is, few)); text = t }

-- so many pieces were tried at most
pub few_steps : (pieces tried rest : List (List ℕ)) → length pieces ≤ most_refs → pieces ≡ tried ++ rest → length (keep_steps tried) ≤ most_refs
few_steps pieces tried rest few is = omega (arith, few, ap (λ (l : List (List ℕ)). length l) is, length-append tried rest, length-map tried keep_step)
