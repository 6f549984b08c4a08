-- How many places a ticket has at most.
use Rattle.std.specs.Prelude.{◌≡◌, ℕ, ◌+◌, ◌*◌, ◌≤◌, List, [], ◌∷◌, length, Ok}
use Rattle.psb_bytes.specs.Numbers.{AreBytes}
use Rattle.psb_bytes.specs.declared.ids.Ref.{Ref}
use Rattle.psb_bytes.specs.declared.ids.Ticket.{Ticket}
use Rattle.skeleton.specs.declared.entry.Entry.{Entry}
use Rattle.skeleton.specs.declared.limits.TheConstants.{MOST_TEXT_BYTES}
use Rattle.skeleton.specs.Reading.{skeleton_of}
use Rattle.snapshot_restore.specs.Taken.{Taken}
use Rattle.snapshot_restore.specs.Reading.{IsTextRead, IsInText, refs_of_files}

-- the ticket's own text has one place, and each text behind a list at most as many as a text may have bytes
abbrev pub most_places : ℕ → ℕ
most_places levels = 1 + levels * MOST_TEXT_BYTES

-- so many places were read at most of all texts; and so many are read or come next in a text on the way
pub record TextsHaveFewPlaces : Type 0 where
  pub read : (t : Ticket) (ts : List Taken) (text : List ℕ) → IsTextRead t.levels (t.reference ∷ []) ts text → length ts ≤ most_places t.levels
  pub inside : (t : Ticket) (ts : List Taken) (next : List Ref) → IsInText t.levels (t.reference ∷ []) ts next → length ts + length next ≤ most_places t.levels

-- the files that a skeleton's text of bytes lists have so many places at most, 68 bytes of the text each
abbrev pub FilesHaveFewPlaces : Type 0
FilesHaveFewPlaces = (text : List ℕ) (entries : List Entry) → AreBytes text → skeleton_of text ≡ Ok entries → length (refs_of_files entries) ≤ 986895
