-- The laws of the grammar: values and their texts go together, one to one.
use Rattle.std.specs.Prelude.{◌≡◌, ◌≤◌, List, ℕ, length, IsTrue, Ok}
use Rattle.std.specs.List.{list_all}
use Rattle.psb_bytes.specs.Numbers.{AreBytes}
use Rattle.psb_bytes.specs.declared.ids.Ref.{Ref}
use Rattle.skeleton.specs.declared.entry.Entry.{Entry}
use Rattle.skeleton.specs.declared.limits.TheConstants.{MOST_TEXT_BYTES}
use Rattle.skeleton.specs.Entries.{IsSkeleton, is_ref}
use Rattle.skeleton.specs.Texts.{skeleton_text, refs_text}
use Rattle.skeleton.specs.Reading.{skeleton_of, refs_of}

-- the text of a skeleton, where it is not too long, is read as that skeleton
abbrev pub SkeletonTextIsRead : Type 0
SkeletonTextIsRead = (entries : List Entry) → IsSkeleton entries → length (skeleton_text entries) ≤ MOST_TEXT_BYTES → skeleton_of (skeleton_text entries) ≡ Ok entries

-- what is read as a skeleton is one, and the text is its text
abbrev pub SkeletonReadHasText : Type 0
SkeletonReadHasText = (text : List ℕ) (entries : List Entry) → AreBytes text → skeleton_of text ≡ Ok entries → IsSkeleton entries × (text ≡ skeleton_text entries)

-- the same of a list of refs
abbrev pub RefsTextIsRead : Type 0
RefsTextIsRead = (refs : List Ref) → IsTrue (list_all is_ref refs) → length (refs_text refs) ≤ MOST_TEXT_BYTES → refs_of (refs_text refs) ≡ Ok refs

abbrev pub RefsReadHasText : Type 0
RefsReadHasText = (text : List ℕ) (refs : List Ref) → AreBytes text → refs_of text ≡ Ok refs → IsTrue (list_all is_ref refs) × (text ≡ refs_text refs)

-- no two texts are read as one skeleton
abbrev pub OneText : Type 0
OneText = (text other : List ℕ) (entries : List Entry) → AreBytes text → AreBytes other → skeleton_of text ≡ Ok entries → skeleton_of other ≡ Ok entries → text ≡ other

-- no two skeletons have one text
abbrev pub OneSkeleton : Type 0
OneSkeleton = (entries others : List Entry) → IsSkeleton entries → IsSkeleton others → length (skeleton_text entries) ≤ MOST_TEXT_BYTES → skeleton_text entries ≡ skeleton_text others → entries ≡ others
