-- The text of a skeleton, and that of a list of refs.
use Rattle.std.specs.Prelude.{ℕ, List, [], ◌∷◌, ◌++◌, length, flat_map}
use Rattle.psb_bytes.specs.Numbers.{u16_bytes, u32_bytes, u64_bytes}
use Rattle.psb_bytes.specs.declared.ids.Ref.{Ref}
use Rattle.skeleton.specs.declared.entry.Entry.{Entry}
use Rattle.skeleton.specs.declared.entry.EntryKind.{EntryKind}
use Rattle.skeleton.specs.declared.entry.EntryKind.TheVariants.{Folder, File}
use Rattle.skeleton.specs.declared.limits.TheConstants.{SKELETON_MARK, REFS_MARK, FOLDER_KIND, FILE_KIND}

-- a name, a handle and a length
abbrev pub ref_bytes : Ref → List ℕ
ref_bytes r = r.name ++ r.handle ++ u32_bytes r.len

-- items behind their number
abbrev pub list_bytes : {A : Type 0} → (A → List ℕ) → List A → List ℕ
list_bytes item items = u32_bytes (length items) ++ flat_map item items

abbrev pub refs_bytes : List Ref → List ℕ
refs_bytes refs = list_bytes ref_bytes refs

abbrev pub kind_byte : EntryKind → ℕ
kind_byte Folder = FOLDER_KIND
kind_byte File = FILE_KIND

-- a path behind its length
abbrev pub path_bytes : List ℕ → List ℕ
path_bytes path = u16_bytes (length path) ++ path

-- a file has its size and its refs; a folder has nothing more
abbrev pub content_bytes : EntryKind → ℕ → List Ref → List ℕ
content_bytes Folder size refs = []
content_bytes File size refs = u64_bytes size ++ refs_bytes refs

abbrev pub entry_bytes : Entry → List ℕ
entry_bytes e = kind_byte e.kind ∷ (path_bytes e.path ++ content_bytes e.kind e.size e.refs)

abbrev pub entries_bytes : List Entry → List ℕ
entries_bytes entries = list_bytes entry_bytes entries

-- the one text of a skeleton
abbrev pub skeleton_text : List Entry → List ℕ
skeleton_text entries = SKELETON_MARK ++ entries_bytes entries

-- the one text of a list of refs
abbrev pub refs_text : List Ref → List ℕ
refs_text refs = REFS_MARK ++ refs_bytes refs
