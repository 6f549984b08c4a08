-- What a walk through a folder finds, and where the folder is too large.
use Rattle.std.specs.Prelude.{◌≡◌, ◌⊎◌, ◌↔◌, ℕ, ◌+◌, ◌<◌, ◌≤◌, min, Bool, true, ◌&&◌, List, [], ◌∷◌, ◌++◌, length, map, sum_by, Contains, Option, Some, IfSome, bytes_eq}
use Rattle.std.specs.List.{IsDistinct}
use Rattle.psb_bytes.specs.Names.{has_names}
use Rattle.psb_bytes.specs.Paths.{parents}
use Rattle.psb_station.specs.Calls.{Grows}
use Rattle.psb_station.specs.Folder.{FolderView, FolderCall, Content, Stored, Listing, Folder as AFolder, File as AFile, Special as ASpecial, Tells_content, found, child}
use Rattle.skeleton.specs.declared.entry.EntryKind.{EntryKind}
use Rattle.skeleton.specs.declared.entry.EntryKind.TheVariants as kind
use Rattle.skeleton.specs.declared.limits.TheConstants.{MOST_PATH_BYTES, MOST_TEXT_BYTES}
use Rattle.skeleton.specs.Paths.{is_path, is_below}
use Rattle.snapshots.specs.declared.walking.Found.{Found}

-- what stands there is of this kind
abbrev pub IsKind : EntryKind → Stored → Type 0
IsKind kind.Folder s = s ≡ AFolder
IsKind kind.File s = (bytes : List ℕ) × (s ≡ AFile bytes)

-- it stands below the root
abbrev pub StandsAs : Content → List ℕ → Found → Type 0
StandsAs content root f = (s : Stored) × (found content (child root f.path) ≡ Some s) × IsKind f.kind s

-- ---- the bytes of a skeleton's text without refs

-- an entry's, by those of its path: its kind and that length, and of a file its size and how many refs it has
abbrev pub entry_len : ℕ → EntryKind → ℕ
entry_len path_len kind.Folder = 3 + path_len
entry_len path_len kind.File = 3 + path_len + 12

abbrev pub entries_len : List Found → ℕ
entries_len found = sum_by (λ (f : Found). entry_len (length f.path) f.kind) found

-- with the mark and the number of entries
abbrev pub bare_len : List Found → ℕ
bare_len found = 12 + entries_len found

-- ---- where a path lies

-- each folder that the path lies in is among what was found
abbrev pub IsWithin : List Found → List ℕ → Type 0
IsWithin found path = (folder : List ℕ) → Contains (parents path) folder → Contains found (record { path = folder; kind = kind.Folder })

-- each of them is a folder
abbrev pub InTree : Content → List ℕ → List ℕ → Type 0
InTree content root path = (folder : List ℕ) → Contains (parents path) folder → found content (child root folder) ≡ Some AFolder

-- ---- what was found

-- each path is below the next
abbrev pub rise : List Found → Bool
rise [] = true
rise (f ∷ []) = true
rise (f ∷ g ∷ rest) = is_below f.path g.path && rise (g ∷ rest)

-- valid paths in their order, and the folders that each lies in
pub record AreFound (found : List Found) : Type 0 where
  pub ordered : rise found ≡ true
  pub paths : (f : Found) → Contains found f → is_path f.path ≡ true
  pub within : (f : Found) → Contains found f → IsWithin found f.path

-- the paths where neither a folder nor a file stands, each once
pub record AreLeft (content : Content) (root : List ℕ) (entries : List Found) (paths : List (List ℕ)) : Type 0 where
  pub distinct : IsDistinct bytes_eq paths
  pub stand : (path : List ℕ) → Contains paths path → (has_names path ≡ true) × IsWithin entries path × (found content (child root path) ≡ Some ASpecial)
  pub all : (path : List ℕ) → has_names path ≡ true → IsWithin entries path → found content (child root path) ≡ Some ASpecial → Contains paths path

-- these are the folders and files below the folder at the root, and so many names are left out, up to the last
-- number of a counter
pub record IsWalk (content : Content) (root : List ℕ) (entries : List Found) (count : ℕ) : Type 0 where
  pub folder : found content root ≡ Some AFolder
  pub stand : (f : Found) → Contains entries f → StandsAs content root f
  pub all : (f : Found) → has_names f.path ≡ true → (s : Stored) → found content (child root f.path) ≡ Some s → IsKind f.kind s → IsWithin entries f.path → Contains entries f
  pub left : (paths : List (List ℕ)) × AreLeft content root entries paths × (count ≡ min (length paths) 4294967295)

-- ---- too large

-- a folder or a file stands at too long a path
pub record HasLongPath (content : Content) (root : List ℕ) : Type 0 where
  pub place : Found
  pub names : has_names place.path ≡ true
  pub long : MOST_PATH_BYTES < length place.path
  pub stands : StandsAs content root place
  pub in_tree : InTree content root place.path

-- so many folders and files stand there that their text is too long without any refs
pub record HasMuch (content : Content) (root : List ℕ) : Type 0 where
  pub places : List Found
  pub distinct : IsDistinct bytes_eq (map (λ (f : Found). f.path) places)
  pub names : (f : Found) → Contains places f → has_names f.path ≡ true
  pub stand : (f : Found) → Contains places f → StandsAs content root f
  pub in_tree : (f : Found) → Contains places f → InTree content root f.path
  pub long : MOST_TEXT_BYTES < bare_len places

abbrev pub IsTooLarge : Content → List ℕ → Type 0
IsTooLarge content root = HasLongPath content root ⊎ HasMuch content root

-- neither is there
pub record IsNotTooLarge (content : Content) (root : List ℕ) : Type 0 where
  pub paths : ¬ HasLongPath content root
  pub few : ¬ HasMuch content root

-- ---- the calls

-- the folder at the root is listed, and then these below it
abbrev pub listings : List ℕ → List (List ℕ) → List FolderCall
listings root below = Listing root ∷ map (λ (path : List ℕ). Listing (child root path)) below

-- Folders below the root, by their paths: each once, and each behind all folders that it lies in.
pub record AreFolders (content : Option Content) (root : List ℕ) (below : List (List ℕ)) : Type 0 where
  pub distinct : IsDistinct bytes_eq below
  pub names : (path : List ℕ) → Contains below path → has_names path ≡ true
  pub within : (front : List (List ℕ)) (path : List ℕ) (back : List (List ℕ)) → below ≡ front ++ path ∷ back → (folder : List ℕ) → Contains (parents path) folder → Contains front folder
  -- as far as the folder at the root tells what it holds
  pub stand : IfSome content (λ c. (path : List ℕ) → Contains below path → found c (child root path) ≡ Some AFolder)

-- The folder at the root was listed, and then these below it. Nothing else was done, and this changes nothing.
pub record OnlyLists (root : List ℕ) (below : List (List ℕ)) (old new : FolderView) : Type 0 where
  pub content : Tells_content new → new.content ≡ old.content
  pub tells : Tells_content new → Tells_content old
  pub folders : AreFolders new.content root below
  pub grown : Grows old.folder_calls new.folder_calls (listings root below)
  pub no_fall : old.folder_faults ≤ new.folder_faults

-- these are the folders that were found
abbrev pub AreFoldersOf : List Found → List (List ℕ) → Type 0
AreFoldersOf entries below = (path : List ℕ) → Contains below path ↔ Contains entries (record { path = path; kind = kind.Folder })
