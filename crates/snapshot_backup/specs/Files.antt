-- Files and folders of a tree that are kept, by what was read of them.
use Rattle.std.specs.Prelude.{◌≡◌, ◌<◌, ◌≤◌, ℕ, List, [], ◌∷◌, ◌++◌, length, All, IfSome, Option, Some}
use Rattle.psb_station.specs.Calls.{Grows}
use Rattle.psb_station.specs.Folder.{FolderView, FolderCall, Content, File as AFile, Reading, Tells_content, found, child}
use Rattle.skeleton.specs.declared.entry.EntryKind.{EntryKind}
use Rattle.skeleton.specs.declared.entry.EntryKind.TheVariants as kind
use Rattle.snapshots.specs.Meaning.{Item, Place}
use Rattle.snapshots.specs.Shapes.{IsOf, AreOf, IsReadAt, AreRead}
use Rattle.snapshots.specs.Tickets.{chunks_of}
use Rattle.snapshots.specs.declared.walking.Found.{Found}
use Rattle.snapshot_backup.specs.Course.{pieces_in, pieces_of_files}

-- the first ones of these
abbrev pub IsFront : List (List ℕ) → List (List ℕ) → Type 0
IsFront pieces all = (rest : List (List ℕ)) × (all ≡ pieces ++ rest)

-- ---- a file

-- the file at the path has these bytes, where the folder tells what it holds
abbrev pub IsFile : Option Content → List ℕ → List ℕ → Type 0
IsFile content path bytes = IfSome content (λ c. found c path ≡ Some (AFile bytes))

-- these are the first pieces of the file at the path, whatever its bytes are
abbrev pub AreFirst : Option Content → List ℕ → List (List ℕ) → Type 0
AreFirst content path pieces = (c : Content) (bytes : List ℕ) → content ≡ Some c → found c path ≡ Some (AFile bytes) → IsFront pieces (chunks_of bytes)

-- it has more pieces than so many
abbrev pub HasMore : Option Content → List ℕ → ℕ → Type 0
HasMore content path most = (c : Content) (bytes : List ℕ) → content ≡ Some c → found c path ≡ Some (AFile bytes) → most < length (chunks_of bytes)

-- ---- what was found at a path below the root

-- these are its first pieces, and it has more than so many
abbrev pub AreFirstAt : Option Content → List ℕ → Found → List (List ℕ) → Type 0
AreFirstAt content root f pieces = (c : Content) (item : Item) → content ≡ Some c → IsOf f.kind item → IsReadAt c root f.path item → IsFront pieces (pieces_in item)

abbrev pub HasMoreAt : Option Content → List ℕ → Found → ℕ → Type 0
HasMoreAt content root f most = (c : Content) (item : Item) → content ≡ Some c → IsOf f.kind item → IsReadAt c root f.path item → most < length (pieces_in item)

-- ---- all that was found below the root

-- these are the first pieces of its files, and they have more than so many
abbrev pub AreFirstIn : Option Content → List ℕ → List Found → List (List ℕ) → Type 0
AreFirstIn content root fs pieces = (c : Content) (places : List Place) → content ≡ Some c → AreOf fs places → AreRead c root places → IsFront pieces (pieces_of_files places)

abbrev pub HasMoreIn : Option Content → List ℕ → List Found → ℕ → Type 0
HasMoreIn content root fs most = (c : Content) (places : List Place) → content ≡ Some c → AreOf fs places → AreRead c root places → most < length (pieces_of_files places)

-- ---- the calls

-- a file is read as often as it takes, and a folder never
abbrev pub AreReadingsAt : EntryKind → List ℕ → List FolderCall → Type 0
AreReadingsAt kind.Folder path calls = calls ≡ []
AreReadingsAt kind.File path calls = All (λ (call : FolderCall). call ≡ Reading path) calls

-- the files among what was found below the root are read in its order
abbrev pub AreReadings : List ℕ → List Found → List FolderCall → Type 0
AreReadings root [] calls = calls ≡ []
AreReadings root (f ∷ fs) calls =
    (here : List FolderCall) × (rest : List FolderCall) × (calls ≡ here ++ rest) × AreReadingsAt f.kind (child root f.path) here × AreReadings root fs rest

-- nothing was done but that
pub record ReadsFiles (root : List ℕ) (fs : List Found) (old new : FolderView) : Type 0 where
  pub calls : List FolderCall
  pub tried : Grows old.folder_calls new.folder_calls calls
  pub readings : AreReadings root fs calls
  pub no_fall : old.folder_faults ≤ new.folder_faults
  pub content : Tells_content new → new.content ≡ old.content
  pub tells : Tells_content new → Tells_content old
