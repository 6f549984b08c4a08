-- The tree of a folder: what stands below it, but for what is neither a folder nor a file.
use Rattle.std.specs.Prelude.{◌≡◌, ◌≤◌, ℕ, Bool, true, ◌&&◌, List, [], ◌∷◌, length, sum_by, Contains, Some}
use Rattle.psb_bytes.specs.Names.{has_names}
use Rattle.psb_bytes.specs.Paths.{parents}
use Rattle.psb_station.specs.Folder.{Content, Stored, Folder as AFolder, File as AFile, found, child}
use Rattle.skeleton.specs.declared.limits.TheConstants.{MOST_PATH_BYTES}
use Rattle.skeleton.specs.Paths.{is_path, is_below}
use Rattle.snapshots.specs.Meaning.{Item, Folder, File, Place}

-- what stands there, as a place of a tree has it
abbrev pub stored_as : Item → Stored
stored_as Folder = AFolder
stored_as (File bytes) = AFile bytes

-- each path is below the next
abbrev pub ascend : List Place → Bool
ascend [] = true
ascend (p ∷ []) = true
ascend (p ∷ q ∷ rest) = is_below p.path q.path && ascend (q ∷ rest)

-- each folder that the path lies in is among the places
abbrev pub IsReached : List Place → List ℕ → Type 0
IsReached places path = (folder : List ℕ) → Contains (parents path) folder → Contains places (record { path = folder; item = Folder })

-- Places that stand in the order of their paths, each behind the folders that it lies in.
pub record AreInPlace (places : List Place) : Type 0 where
  pub ordered : ascend places ≡ true
  pub paths : (p : Place) → Contains places p → is_path p.path ≡ true
  pub reached : (p : Place) → Contains places p → IsReached places p.path

-- a place of a tree: it stands in the folder, and so does each folder that it lies in
pub record Stands (content : Content) (root : List ℕ) (places : List Place) (p : Place) : Type 0 where
  pub path : has_names p.path ≡ true
  pub here : found content (child root p.path) ≡ Some (stored_as p.item)
  pub reached : IsReached places p.path

-- these are the folders and files below the folder at the root, each once, in the order of their paths, however long these
-- are
pub record IsTree (content : Content) (root : List ℕ) (places : List Place) : Type 0 where
  pub folder : found content root ≡ Some AFolder
  pub ordered : ascend places ≡ true
  pub stand : (p : Place) → Contains places p → Stands content root places p
  pub all : (p : Place) → Stands content root places p → Contains places p

-- no path is too long for a skeleton
abbrev pub AreShort : List Place → Type 0
AreShort places = (p : Place) → Contains places p → length p.path ≤ MOST_PATH_BYTES

-- ---- its counts

abbrev pub files_in : List Place → ℕ
files_in places = sum_by (λ (p : Place). elim p.item [ Folder ↦ 0 | File bytes ↦ 1 ]) places

abbrev pub folders_in : List Place → ℕ
folders_in places = sum_by (λ (p : Place). elim p.item [ Folder ↦ 1 | File bytes ↦ 0 ]) places

abbrev pub bytes_in : List Place → ℕ
bytes_in places = sum_by (λ (p : Place). elim p.item [ Folder ↦ 0 | File bytes ↦ length bytes ]) places
