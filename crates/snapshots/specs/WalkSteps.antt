-- How a walk goes on: the names of one folder after those of another.
use Rattle.std.specs.Prelude.{◌≡◌, ◌⊎◌, ℕ, ◌+◌, ◌<◌, ◌≤◌, min, nat_le, Bool, true, List, [], ◌∷◌, ◌++◌, length, map, take, All, Option, Some, None, IfSome, Result, OnOk, bytes_eq}
use Rattle.std.specs.List.{list_all, IsDistinct}
use Rattle.std.specs.Str.{is_utf8}
use Rattle.psb_bytes.specs.Names.{has_names}
use Rattle.psb_bytes.specs.Paths.{parents}
use Rattle.psb_station.specs.Folder.{Content, FolderView, Stored, Folder as AFolder, found, child, kind_of, IsName, Lists}
use Rattle.psb_station.specs.MemTree.{under}
use Rattle.psb_station.specs.declared.item.Kind.{Kind}
use Rattle.psb_station.specs.declared.item.Kind.TheVariants as seen
use Rattle.psb_station.specs.declared.item.Item.{Item}
use Rattle.skeleton.specs.declared.entry.EntryKind.{EntryKind}
use Rattle.skeleton.specs.declared.entry.EntryKind.TheVariants as kind
use Rattle.skeleton.specs.declared.limits.TheConstants.{MOST_PATH_BYTES, MOST_TEXT_BYTES}
use Rattle.snapshots.specs.declared.walking.Found.{Found}
use Rattle.snapshots.specs.declared.walking.Walked.{Walked}
use Rattle.snapshots.specs.declared.walking.WalkFault.{WalkFault}
use Rattle.snapshots.specs.declared.walking.WalkFault.TheVariants as fault
use Rattle.psb_station.specs.declared.folder.FolderError.{FolderError}
use Rattle.psb_station.specs.declared.folder.FolderError.TheVariants as error
use Rattle.snapshots.specs.Walks.{entry_len, entries_len, bare_len, OnlyLists}

abbrev pub fault_of : FolderError → WalkFault
fault_of error.Failed = fault.Folder
fault_of error.Memory = fault.Memory

-- it is among them
abbrev pub In : {X : Type 0} → X → List X → Type 0
In x [] = ⊥
In x (y ∷ ys) = (y ≡ x) ⊎ In x ys

-- ---- the names of one folder

abbrev pub entry_kind : Kind → Option EntryKind
entry_kind seen.Folder = Some kind.Folder
entry_kind seen.File = Some kind.File
entry_kind seen.Other = None

-- an item with its path below the root in place of its name
abbrev pub child_of : List ℕ → Item → Item
child_of base i = record { name = under base i.name; kind = i.kind }

abbrev pub found_as : List ℕ → Option EntryKind → List Found
found_as path None = []
found_as path (Some k) = record { path = path; kind = k } ∷ []

-- the folders and files among them
abbrev pub founds : List Item → List Found
founds [] = []
founds (i ∷ is) = found_as i.name (entry_kind i.kind) ++ founds is

abbrev pub special_as : List ℕ → Option EntryKind → List (List ℕ)
special_as path None = path ∷ []
special_as path (Some k) = []

-- the paths of the others
abbrev pub specials : List Item → List (List ℕ)
specials [] = []
specials (i ∷ is) = special_as i.name (entry_kind i.kind) ++ specials is

abbrev pub is_short : Found → Bool
is_short f = nat_le (length f.path) MOST_PATH_BYTES

abbrev pub is_text : Item → Bool
is_text i = is_utf8 i.name

-- a folder or a file was pushed
pub record Pushes (f : Found) (old new : Walked) : Type 0 where
  pub found : new.found.items ≡ old.found.items ++ f ∷ []
  pub left : new.left ≡ old.left
  pub text : new.text_len ≡ old.text_len + entry_len (length f.path) f.kind
  pub most : new.text_len ≤ MOST_TEXT_BYTES
  pub short : length f.path ≤ MOST_PATH_BYTES

-- it can't be pushed
abbrev pub IsOver : ℕ → List ℕ → EntryKind → Type 0
IsOver text_len path k = (MOST_PATH_BYTES < length path) ⊎ (MOST_TEXT_BYTES < text_len + entry_len (length path) k)

-- the names of a folder were taken in
pub record Adds (base : List ℕ) (items : List Item) (old new : Walked) : Type 0 where
  pub found : new.found.items ≡ old.found.items ++ founds (map (child_of base) items)
  pub left : old.left ≤ 4294967295 → new.left ≡ min (old.left + length (specials (map (child_of base) items))) 4294967295
  pub text : new.text_len ≡ old.text_len + entries_len (founds (map (child_of base) items))
  pub most : new.text_len ≤ MOST_TEXT_BYTES
  pub short : list_all is_short (founds (map (child_of base) items)) ≡ true
  pub texts : list_all is_text items ≡ true

-- an item can't be taken in
pub record IsOverAt (base : List ℕ) (item : Item) (text_len : ℕ) : Type 0 where
  pub text : is_utf8 item.name ≡ true
  pub entry : EntryKind
  pub kind : entry_kind item.kind ≡ Some entry
  pub over : IsOver text_len (under base item.name) entry

-- one of them can't be taken in behind those in front of it
pub record IsFull (base : List ℕ) (items : List Item) (old : Walked) : Type 0 where
  pub front : List Item
  pub item : Item
  pub rest : List Item
  pub is : items ≡ front ++ item ∷ rest
  pub texts : list_all is_text front ≡ true
  pub over : IsOverAt base item (old.text_len + entries_len (founds (map (child_of base) front)))

-- these are the names at a path
pub record AreNames (content : Option Content) (path : List ℕ) (items : List Item) : Type 0 where
  pub names : All (λ (i : Item). IsName i.name) items
  pub distinct : IsDistinct bytes_eq (map (λ (i : Item). i.name) items)
  pub lists : IfSome content (λ c. Lists c path items)

-- a folder was listed, and its names were taken in
pub record Enters (content : Option Content) (path base : List ℕ) (old new : Walked) : Type 0 where
  pub items : List Item
  pub names : AreNames content path items
  pub adds : Adds base items old new

-- or one can't be taken in
pub record Exceeds (content : Option Content) (path base : List ℕ) (old : Walked) : Type 0 where
  pub items : List Item
  pub names : AreNames content path items
  pub full : IsFull base items old

-- ---- all names so far

-- the folders that were listed
abbrev pub folder_as : List ℕ → EntryKind → List (List ℕ)
folder_as path kind.Folder = path ∷ []
folder_as path kind.File = []

abbrev pub folders : List Found → List (List ℕ)
folders [] = []
folders (f ∷ fs) = folder_as f.path f.kind ++ folders fs

abbrev pub listed : ℕ → List Found → List (List ℕ)
listed index found = [] ∷ folders (take index found)

-- what was seen in them
pub record IsSeen (done : List (List ℕ)) (items : List Item) : Type 0 where
  pub named : (i : Item) → In i items → has_names i.name ≡ true
  pub from : (i : Item) → In i items → (base : List ℕ) × (name : List ℕ) × In base done × IsName name × (i.name ≡ under base name)
  pub distinct : IsDistinct bytes_eq (map (λ (i : Item). i.name) items)
  pub within : (i : Item) → In i items → (r : List ℕ) → In r (parents i.name) → In (record { path = r; kind = kind.Folder }) (founds items)

-- and is there
pub record IsThere (content : Content) (root : List ℕ) (done : List (List ℕ)) (items : List Item) : Type 0 where
  pub folder : In [] done → found content root ≡ Some AFolder
  pub stand : (i : Item) → In i items → (s : Stored) × (found content (child root i.name) ≡ Some s) × (kind_of s ≡ i.kind)
  pub all : (base name : List ℕ) (s : Stored) → In base done → IsName name → found content (child root (under base name)) ≡ Some s → In (under base name) (map (λ (i : Item). i.name) items)

-- what is known of a walk that listed these folders
pub record IsSoFar (content : Option Content) (root : List ℕ) (done : List (List ℕ)) (w : Walked) : Type 0 where
  pub items : List Item
  pub found : w.found.items ≡ founds items
  pub left : w.left ≡ min (length (specials items)) 4294967295
  pub text : w.text_len ≡ bare_len w.found.items
  pub most : w.text_len ≤ MOST_TEXT_BYTES
  pub short : list_all is_short w.found.items ≡ true
  pub seen : IsSeen done items
  pub there : IfSome content (λ c. IsThere c root done items)

-- the walk up to an index of what it found
pub record IsOn (content : Option Content) (root : List ℕ) (index : ℕ) (w : Walked) : Type 0 where
  pub inside : index ≤ length w.found.items
  pub so_far : IsSoFar content root (listed index w.found.items) w

-- ---- the calls so far

-- Behind the listings up to an index came at most that of the folder there; where all went well the index goes on.
abbrev pub ListsNext : {R : Type 0} → List ℕ → ℕ → List Found → List Found → FolderView → FolderView → Result R WalkFault → Type 0
ListsNext root index found now before after result =
    (first : FolderView) → OnlyLists root (folders (take index found)) first before
    → (below : List (List ℕ)) × OnlyLists root below first after × OnOk result (below ≡ folders (take (index + 1) now))
