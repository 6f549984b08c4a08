-- A tree that is written below a folder.
use Rattle.std.specs.Prelude.{◌≡◌, ◌⊎◌, ℕ, ◌≤◌, true, List, [], ◌∷◌, ◌++◌, take, Contains, IfSome, Some, None}
use Rattle.std.specs.FinMap.{get, insert}
use Rattle.psb_bytes.specs.Names.{has_names}
use Rattle.psb_bytes.specs.Paths.{parents}
use Rattle.psb_station.specs.Calls.{Grows}
use Rattle.psb_station.specs.Folder.{Content, Stored, Folder as AFolder, FolderView, FolderCall, MakingFolder, MakingFile, Appending, Tells_content, Lists, plain, found, child}
use Rattle.psb_station.specs.declared.item.Item.{Item as AnItem}
use Rattle.skeleton.specs.declared.entry.EntryKind.{EntryKind}
use Rattle.skeleton.specs.declared.entry.EntryKind.TheVariants as kind
use Rattle.snapshots.specs.Meaning.{Item, Folder, File, Place}
use Rattle.snapshots.specs.Trees.{stored_as, AreInPlace, IsTree}

-- with a place put below a folder, and with all of these in their order
abbrev pub with_place : List ℕ → Content → Place → Content
with_place root c p = insert c (plain (child root p.path)) (stored_as p.item)

abbrev pub with_places : List ℕ → Content → List Place → Content
with_places root c [] = c
with_places root c (p ∷ ps) = with_places root (with_place root c p) ps

-- a folder stands there, and nothing below it
pub record IsBare (c : Content) (root : List ℕ) : Type 0 where
  pub folder : found c root ≡ Some AFolder
  pub none : (path : List ℕ) → has_names path ≡ true → found c (child root path) ≡ None

-- what stands at a path stands in folders
abbrev pub IsWhole : Content → Type 0
IsWhole c = (path : List ℕ) (s : Stored) → get c path ≡ Some s → (folder : List ℕ) → Contains (parents path) folder → get c folder ≡ Some AFolder

-- Where each thing stands in folders, nothing stands below a folder that lists nothing.
abbrev pub EmptyFoldersAreBare : Type 0
EmptyFoldersAreBare = (c : Content) (root : List ℕ) → IsWhole c → Lists c root [] → IsBare c root

-- What is written in place below such a folder is the tree that stands there then.
abbrev pub WritingsAreTrees : Type 0
WritingsAreTrees = (c : Content) (root : List ℕ) (places : List Place) → IsBare c root → AreInPlace places → IsTree (with_places root c places) root places

-- At every other path stands what stood there.
abbrev pub WritingsStayBelow : Type 0
WritingsStayBelow = (c : Content) (root : List ℕ) (places : List Place) (path : List ℕ) → ((p : Place) → Contains places p → ¬ (plain (child root p.path) ≡ path)) → get (with_places root c places) path ≡ get c path

-- ---- the calls

-- what is made, before anything is added to it
abbrev pub empty_of : EntryKind → Item
empty_of kind.Folder = Folder
empty_of kind.File = File []

abbrev pub making : EntryKind → List ℕ → FolderCall
making kind.Folder path = MakingFolder path
making kind.File path = MakingFile path

-- what was made at a path
abbrev pub made_at : List ℕ → EntryKind → Place
made_at path k = record { path = path; item = empty_of k }

-- a file with these bytes
abbrev pub file_at : List ℕ → List ℕ → Place
file_at path bytes = record { path = path; item = File bytes }

-- Calls of a folder, which leave it with these places put below the root.
pub record Writes (root : List ℕ) (old new : FolderView) (places : List Place) : Type 0 where
  pub tells : Tells_content new → Tells_content old
  pub content : (c d : Content) → old.content ≡ Some c → new.content ≡ Some d → d ≡ with_places root c places
  pub no_fall : old.folder_faults ≤ new.folder_faults

-- Bytes are added at the end of the file at a path. Where it was written last, with these bytes, it has them and the
-- others then.
abbrev pub Adds : FolderView → FolderView → List ℕ → List ℕ → Type 0
Adds old new at piece =
    (root path bytes : List ℕ) (first : FolderView) (places : List Place) → at ≡ child root path
    → Writes root first old (places ++ file_at path bytes ∷ []) → Writes root first new (places ++ file_at path (bytes ++ piece) ∷ [])

-- something stands in the folder
abbrev pub IsNotEmpty : Content → List ℕ → Type 0
IsNotEmpty c path = (items : List AnItem) × Lists c path items × ¬ (items ≡ [])
