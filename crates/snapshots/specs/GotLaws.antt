-- The laws of what is read of a ticket: it is what the ticket means, or two texts were met that share a SHA-256; and
-- whatever it is, it is in place, and its skeleton counts it.
use Rattle.std.specs.Prelude.{◌≡◌, ◌⊎◌, List, [], ◌∷◌, sum_by, Some}
use Rattle.psb_bytes.specs.declared.ids.Ticket.{Ticket}
use Rattle.snapshots.specs.Meaning.{Bodies, Place, means}
use Rattle.snapshots.specs.Trees.{AreInPlace, files_in, folders_in, bytes_in}
use Rattle.snapshots.specs.Counts.{one_file, one_folder, its_bytes}
use Rattle.snapshots.specs.Got.{Use, IsBadGot, IsTreeGot, AreMet}

-- Over any bodies over which a ticket means something, that is what was read of it; or two unequal texts were met that
-- share a SHA-256, one of them among these bodies, the other used.
abbrev pub ReadsTheMeaning : Type 0
ReadsTheMeaning = (bodies : Bodies) (used : List Use) (t : Ticket) (meant got : List Place) → means bodies t ≡ Some meant → IsTreeGot used t got → (got ≡ meant) ⊎ AreMet bodies used

-- Over bodies over which a ticket means something, a text that is none was read only where two unequal texts were met.
abbrev pub BadTextsAreMet : Type 0
BadTextsAreMet = (bodies : Bodies) (used : List Use) (t : Ticket) (meant : List Place) → means bodies t ≡ Some meant → IsBadGot used t.levels (t.reference ∷ []) → AreMet bodies used

-- ---- whatever bodies were used

-- What was read is in place: each path behind the folders that it lies in.
abbrev pub ReadTreesAreInPlace : Type 0
ReadTreesAreInPlace = (used : List Use) (t : Ticket) (tree : List Place) → IsTreeGot used t tree → AreInPlace tree

-- The entries that were read count its files, its folders and the bytes of its files.
abbrev pub ReadTreesAreCounted : Type 0
ReadTreesAreCounted = (used : List Use) (t : Ticket) (tree : List Place) → (g : IsTreeGot used t tree)
    → (files_in tree ≡ sum_by one_file g.entries) × (folders_in tree ≡ sum_by one_folder g.entries) × (bytes_in tree ≡ sum_by its_bytes g.entries)
