-- How long the text of a tree's skeleton is, by how many pieces its files have.
use Rattle.std.proofs.Common.{◌≡◌, ℕ, ◌+◌, ◌*◌, ◌≤◌, List, [], ◌∷◌, length, refl, sym, ◌∙◌, ap, arith, length-append}
use Rattle.std.proofs.lemmas.List.{length-map}
use Rattle.convergent_seal.specs.Sealing.{sealed_ref}
use Rattle.skeleton.specs.declared.entry.Entry.{Entry}
use Rattle.skeleton.specs.declared.limits.TheConstants.{MOST_TEXT_BYTES}
use Rattle.snapshots.specs.Meaning.{Item, Folder, File, Place, refs_in}
use Rattle.snapshots.specs.Shapes.{AreOf}
use Rattle.snapshots.specs.Tickets.{chunks_of, entry_of, skeleton_of_tree}
use Rattle.snapshots.specs.Walks.{bare_len}
use Rattle.snapshots.specs.declared.walking.Found.{Found}
use Rattle.snapshots.proofs.WalkPlaces.{skeleton_is_as_long}
use Rattle.snapshot_backup.specs.Backed.{text_len}
use Rattle.snapshot_backup.specs.Course.{pieces_in, pieces_of_files}

item_refs : (p : Place) → length (entry_of p).refs ≡ length (pieces_in p.item)
item_refs p = at p.item refl
  where
    at : (item : Item) → p.item ≡ item → length (entry_of p).refs ≡ length (pieces_in p.item)
    at Folder is = ap (λ (i : Item). length (entry_of (record { path = p.path; item = i })).refs) is ∙ sym (ap (λ (i : Item). length (pieces_in i)) is)
    at (File bytes) is = ap (λ (i : Item). length (entry_of (record { path = p.path; item = i })).refs) is ∙ length-map (chunks_of bytes) sealed_ref ∙ sym (ap (λ (i : Item). length (pieces_in i)) is)

pub refs_are_pieces : (places : List Place) → length (refs_in (skeleton_of_tree places)) ≡ length (pieces_of_files places)
refs_are_pieces [] = refl
refs_are_pieces (p ∷ ps) =
    omega (arith, item_refs p, refs_are_pieces ps, length-append (entry_of p).refs (refs_in (skeleton_of_tree ps)), length-append (pieces_in p.item) (pieces_of_files ps))

-- so many refs are as many as there is room for
pub text_fits : (fs : List Found) (places : List Place) (bare room : ℕ) → AreOf fs places → bare ≡ bare_len fs → bare + 68 * room ≤ MOST_TEXT_BYTES → length (refs_in (skeleton_of_tree places)) ≤ room → text_len places ≤ MOST_TEXT_BYTES
text_fits fs places bare room of is fits few = omega (arith, skeleton_is_as_long fs places of, is, fits, few)

-- the refs of what was kept, by how many were left
pub room_kept : (es : List Entry) (places : List Place) (left room : ℕ) → es ≡ skeleton_of_tree places → left + length (pieces_of_files places) ≡ room → length (refs_in es) ≤ room
room_kept es places left room are is = omega (arith, ap (λ (l : List Entry). length (refs_in l)) are, refs_are_pieces places, is)

-- so many refs are those of the tree whose skeleton it is
pub refs_within : (es : List Entry) (places : List Place) {room : ℕ} → es ≡ skeleton_of_tree places → length (refs_in es) ≤ room → length (refs_in (skeleton_of_tree places)) ≤ room
refs_within es places are few = omega (arith, ap (λ (l : List Entry). length (refs_in l)) are, few)

-- and so many are its pieces
pub refs_few : (places : List Place) {room : ℕ} → length (refs_in (skeleton_of_tree places)) ≤ room → length (pieces_of_files places) ≤ room
refs_few places few = omega (arith, few, refs_are_pieces places)
