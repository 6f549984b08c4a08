-- The calls of a folder, each with its answer.
use Rattle.std.specs.Prelude.{ℕ, ◌+◌, Bool, List, [], ◌∷◌, ◌++◌, Option, Some, None}
use Rattle.psb_station.specs.Folder.{FolderCall, Listing, Reading, MakingFolder, MakingFile, Appending}
use Rattle.psb_station.specs.declared.item.Item.{Item}
use Rattle.psb_host.specs.StationEvents.{counted}

-- Each has its path in front.
pub data FolderEvent : Type 0 where
  -- the items, where they came
  Listed : List ℕ → Option (List Item) → FolderEvent
  -- memory for the items was refused
  NotKept : List ℕ → FolderEvent
  -- the place, how many bytes were asked for, whether some came, and they
  Piece : List ℕ → ℕ → ℕ → Bool → List ℕ → FolderEvent
  -- whether it was made
  MadeFolder : List ℕ → Bool → FolderEvent
  MadeFile : List ℕ → Bool → FolderEvent
  -- how many bytes were added, whether all were, and all that were given
  Added : List ℕ → ℕ → Bool → List ℕ → FolderEvent

abbrev pub call_of : FolderEvent → FolderCall
call_of (Listed path items) = Listing path
call_of (NotKept path) = Listing path
call_of (Piece path at n ok came) = Reading path
call_of (MadeFolder path ok) = MakingFolder path
call_of (MadeFile path ok) = MakingFile path
call_of (Added path n ok given) = Appending path

-- the calls in their order; of the list of events the newest comes first
abbrev pub calls_of : List FolderEvent → List FolderCall
calls_of [] = []
calls_of (e ∷ earlier) = calls_of earlier ++ call_of e ∷ []

abbrev pub faults_after : FolderEvent → ℕ → ℕ
faults_after (Listed path (Some items)) n = n
faults_after (Listed path None) n = n + 1
faults_after (NotKept path) n = n
faults_after (Piece path at k ok came) n = counted ok n
faults_after (MadeFolder path ok) n = counted ok n
faults_after (MadeFile path ok) n = counted ok n
faults_after (Added path k ok given) n = counted ok n

-- how many calls failed
abbrev pub faults_of : List FolderEvent → ℕ
faults_of [] = 0
faults_of (e ∷ earlier) = faults_after e (faults_of earlier)
