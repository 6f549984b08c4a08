-- The course of a backup, by the tree of its folder: each piece of each file is kept, in the order of the paths, then
-- those of the skeleton's text and of the lists of refs above it, and then the snapshot is noted.
use Rattle.std.specs.Prelude.{ℕ, zero, suc, List, [], ◌∷◌, ◌++◌, map, Some, None}
use Rattle.convergent_seal.specs.Sealing.{sealed, sealed_ref}
use Rattle.skeleton.specs.Texts.{skeleton_text, refs_text}
use Rattle.psb_machine.specs.Machine.{Keep, Snap}
use Rattle.psb_machine.specs.Course.{Step, Absorb}
use Rattle.psb_machine.specs.declared.snap_note.SnapNote.{SnapNote}
use Rattle.snapshots.specs.Meaning.{Item, Folder, File, Place}
use Rattle.snapshots.specs.Tickets.{chunks_of, refs_of_text, one_of, skeleton_of_tree, most_levels}

-- the pieces of a file, and of all files
abbrev pub pieces_in : Item → List (List ℕ)
pieces_in Folder = []
pieces_in (File bytes) = chunks_of bytes

abbrev pub pieces_of_files : List Place → List (List ℕ)
pieces_of_files [] = []
pieces_of_files (p ∷ ps) = pieces_in p.item ++ pieces_of_files ps

-- the pieces of a text, and where it has more than one, those of the text of their refs
abbrev pub pieces_of_levels : ℕ → List ℕ → List (List ℕ)
pieces_of_levels zero text = chunks_of text
pieces_of_levels (suc most) text = chunks_of text ++ elim (one_of (refs_of_text text)) [ Some r ↦ [] | None ↦ pieces_of_levels most (refs_text (refs_of_text text)) ]

abbrev pub pieces_of : List Place → List (List ℕ)
pieces_of places = pieces_of_files places ++ pieces_of_levels most_levels (skeleton_text (skeleton_of_tree places))

-- a piece is sealed and kept
abbrev pub keep_step : List ℕ → Step
keep_step plain = Absorb (Keep (sealed_ref plain).name (sealed plain))

abbrev pub keep_steps : List (List ℕ) → List Step
keep_steps pieces = map keep_step pieces

abbrev pub backup_course : List Place → SnapNote → List Step
backup_course places note = keep_steps (pieces_of places) ++ Absorb (Snap note) ∷ []
