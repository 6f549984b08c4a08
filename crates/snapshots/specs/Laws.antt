-- The law of tickets: over bodies that have the sealed pieces of a tree, its ticket means the tree.
use Rattle.std.specs.Prelude.{◌≡◌, ℕ, zero, suc, ◌≤◌, true, List, [], ◌∷◌, length, is_some, Some, None}
use Rattle.convergent_seal.specs.Sealing.{sealed, sealed_ref}
use Rattle.psb_bytes.specs.declared.ids.Ticket.{Ticket}
use Rattle.psb_station.specs.Folder.{Content}
use Rattle.skeleton.specs.declared.limits.TheConstants.{MOST_TEXT_BYTES}
use Rattle.skeleton.specs.Entries.{IsSkeleton}
use Rattle.skeleton.specs.Texts.{skeleton_text, refs_text}
use Rattle.snapshots.specs.Meaning.{Bodies, Item, Folder, File, Place, means}
use Rattle.snapshots.specs.Trees.{AreInPlace, IsTree, AreShort}
use Rattle.snapshots.specs.Walks.{IsNotTooLarge}
use Rattle.snapshots.specs.Tickets.{chunks_of, refs_of_text, one_of, ticket_of_tree, skeleton_of_tree, most_levels}

-- each piece's sealed bytes stand under its name
abbrev pub AreHeld : Bodies → List (List ℕ) → Type 0
AreHeld bodies [] = Unit {0}
AreHeld bodies (p ∷ ps) = (bodies (sealed_ref p).name ≡ Some (sealed p)) × AreHeld bodies ps

-- those of a text and of the lists of refs above it, each of which is short enough
abbrev pub HoldsLevels : Bodies → ℕ → List ℕ → Type 0
HoldsLevels bodies zero text = AreHeld bodies (chunks_of text) × (length text ≤ MOST_TEXT_BYTES)
HoldsLevels bodies (suc most) text =
    AreHeld bodies (chunks_of text) × (length text ≤ MOST_TEXT_BYTES)
    × (one_of (refs_of_text text) ≡ None → HoldsLevels bodies most (refs_text (refs_of_text text)))

abbrev pub HoldsItem : Bodies → Item → Type 0
HoldsItem bodies Folder = Unit {0}
HoldsItem bodies (File bytes) = AreHeld bodies (chunks_of bytes)

abbrev pub HoldsFiles : Bodies → List Place → Type 0
HoldsFiles bodies [] = Unit {0}
HoldsFiles bodies (p ∷ ps) = HoldsItem bodies p.item × HoldsFiles bodies ps

-- those of the whole tree
pub record HoldsTree (bodies : Bodies) (places : List Place) : Type 0 where
  pub files : HoldsFiles bodies places
  pub levels : HoldsLevels bodies most_levels (skeleton_text (skeleton_of_tree places))

abbrev pub TicketMeansItsTree : Type 0
TicketMeansItsTree = (bodies : Bodies) (places : List Place) (t : Ticket) → IsSkeleton (skeleton_of_tree places) → ticket_of_tree places ≡ Some t → HoldsTree bodies places → means bodies t ≡ Some places

-- The places of a tree stand in their order, where no path is too long; and such places have a skeleton.
abbrev pub TreesAreInPlace : Type 0
TreesAreInPlace = (content : Content) (root : List ℕ) (places : List Place) → IsTree content root places → AreShort places → AreInPlace places

abbrev pub PlacesHaveSkeletons : Type 0
PlacesHaveSkeletons = (places : List Place) → AreInPlace places → IsSkeleton (skeleton_of_tree places)

-- and a ticket, where that skeleton's text is not too long
abbrev pub TreesHaveTickets : Type 0
TreesHaveTickets = (places : List Place) → length (skeleton_text (skeleton_of_tree places)) ≤ MOST_TEXT_BYTES → is_some (ticket_of_tree places) ≡ true

-- ---- a folder's tree

-- a folder has one tree
abbrev pub FoldersHaveOneTree : Type 0
FoldersHaveOneTree = (content : Content) (root : List ℕ) (places others : List Place) → IsTree content root places → IsTree content root others → places ≡ others

-- Where no path is too long, nor the text, the folder is not too large.
abbrev pub ShortTreesAreNotTooLarge : Type 0
ShortTreesAreNotTooLarge = (content : Content) (root : List ℕ) (places : List Place) → IsTree content root places → AreShort places → length (skeleton_text (skeleton_of_tree places)) ≤ MOST_TEXT_BYTES → IsNotTooLarge content root
