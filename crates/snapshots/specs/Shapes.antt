-- The places of a tree by what a walk found and by what was read of its files.
use Rattle.std.specs.Prelude.{◌≡◌, ◌≤◌, ℕ, ◌+◌, ◌*◌, List, [], ◌∷◌, length, Some}
use Rattle.psb_station.specs.Folder.{Content, File as AFile, found, child}
use Rattle.skeleton.specs.declared.entry.EntryKind.{EntryKind}
use Rattle.skeleton.specs.declared.entry.EntryKind.TheVariants as kind
use Rattle.skeleton.specs.declared.limits.TheConstants.{MOST_TEXT_BYTES}
use Rattle.skeleton.specs.Texts.{skeleton_text}
use Rattle.snapshots.specs.Meaning.{Item, Folder, File, Place, refs_in}
use Rattle.snapshots.specs.Tickets.{skeleton_of_tree}
use Rattle.snapshots.specs.Trees.{AreInPlace, IsTree}
use Rattle.snapshots.specs.Walks.{bare_len, AreFound, IsWalk, IsNotTooLarge}
use Rattle.snapshots.specs.declared.walking.Found.{Found}

-- what stands at a place is of the kind that was found
abbrev pub IsOf : EntryKind → Item → Type 0
IsOf kind.Folder item = item ≡ Folder
IsOf kind.File item = (bytes : List ℕ) × (item ≡ File bytes)

-- and so it is at each place, in order
abbrev pub AreOf : List Found → List Place → Type 0
AreOf [] [] = Unit {0}
AreOf [] (p ∷ ps) = ⊥
AreOf (f ∷ fs) [] = ⊥
AreOf (f ∷ fs) (p ∷ ps) = (p.path ≡ f.path) × IsOf f.kind p.item × AreOf fs ps

-- each file has the bytes that the folder has at its path below the root
abbrev pub IsReadAt : Content → List ℕ → List ℕ → Item → Type 0
IsReadAt content root path Folder = Unit {0}
IsReadAt content root path (File bytes) = found content (child root path) ≡ Some (AFile bytes)

abbrev pub AreRead : Content → List ℕ → List Place → Type 0
AreRead content root [] = Unit {0}
AreRead content root (p ∷ ps) = IsReadAt content root p.path p.item × AreRead content root ps

-- What a walk found has places, where the folder tells what it holds.
abbrev pub WalksHavePlaces : Type 0
WalksHavePlaces = (content : Content) (root : List ℕ) (fs : List Found) (left : ℕ) → IsWalk content root fs left → (places : List Place) × AreOf fs places × AreRead content root places

-- The text of their skeleton has 68 bytes for each ref beside those that it has without any.
abbrev pub SkeletonsAreAsLong : Type 0
SkeletonsAreAsLong = (fs : List Found) (places : List Place) → AreOf fs places → length (skeleton_text (skeleton_of_tree places)) ≡ bare_len fs + 68 * length (refs_in (skeleton_of_tree places))

-- whatever a folder answers, the places of what a walk finds are in place; and where it tells what it holds, they are
-- its tree
abbrev pub WalksAreInPlace : Type 0
WalksAreInPlace = (fs : List Found) (places : List Place) → AreFound fs → AreOf fs places → AreInPlace places

abbrev pub WalksFindTrees : Type 0
WalksFindTrees = (content : Content) (root : List ℕ) (fs : List Found) (left : ℕ) (places : List Place) → AreFound fs → IsWalk content root fs left → AreOf fs places → AreRead content root places → IsTree content root places

-- Where a walk found what stands in a folder, it is not too large.
abbrev pub WalksAreNotTooLarge : Type 0
WalksAreNotTooLarge = (content : Content) (root : List ℕ) (fs : List Found) (left : ℕ) → AreFound fs → IsWalk content root fs left → bare_len fs ≤ MOST_TEXT_BYTES → IsNotTooLarge content root
