-- What a skeleton is: a list of entries.
use Rattle.std.specs.Prelude.{◌≡◌, ℕ, Bool, true, false, ◌&&◌, ◌==◌, List, ◌∷◌, ◌++◌, length, IsTrue, bytes_eq, sum_by}
use Rattle.std.specs.List.{list_all, list_any}
use Rattle.psb_bytes.specs.declared.ids.Ref.{Ref}
use Rattle.skeleton.specs.declared.entry.Entry.{Entry}
use Rattle.skeleton.specs.declared.entry.EntryKind.{EntryKind}
use Rattle.skeleton.specs.declared.entry.EntryKind.TheVariants.{Folder, File}
use Rattle.skeleton.specs.declared.limits.TheConstants.{DIGEST_BYTES, MOST_CHUNK_BYTES}
use Rattle.skeleton.specs.Paths.{within, is_path, is_below, parents}

-- ---- the counts of an entry

-- the length is that of a chunk
abbrev pub has_chunk_len : Ref → Bool
has_chunk_len r = within 1 MOST_CHUNK_BYTES r.len

-- the name and the handle are digests
abbrev pub has_digests : Ref → Bool
has_digests r = (length r.name == DIGEST_BYTES) && (length r.handle == DIGEST_BYTES)

abbrev pub is_ref : Ref → Bool
is_ref r = has_digests r && has_chunk_len r

-- the lengths of the refs, in sum
abbrev pub total : List Ref → ℕ
total refs = sum_by (λ r. r.len) refs

-- a folder has size 0 and no ref; the size of a file is what its refs have in sum
abbrev pub counts_agree : EntryKind → ℕ → List Ref → Bool
counts_agree Folder size refs = (size == 0) && (length refs == 0)
counts_agree File size refs = list_all is_ref refs && (size == total refs)

-- ---- where an entry may stand

abbrev pub is_folder : EntryKind → Bool
is_folder Folder = true
is_folder File = false

-- the path is that of a folder among the entries
abbrev pub has_folder : List Entry → List ℕ → Bool
has_folder entries path = list_any (λ e. is_folder e.kind && bytes_eq e.path path) entries

-- the path is above each path before it, and each of its proper parents is a folder before it
unfoldable pub in_order : List Entry → List ℕ → Bool
in_order before path = list_all (λ e. is_below e.path path) before && list_all (λ parent. has_folder before parent) (parents path)

-- an entry that may stand behind these
abbrev pub fits_behind : List Entry → Entry → Bool
fits_behind before entry = is_path entry.path && (in_order before entry.path && counts_agree entry.kind entry.size entry.refs)

-- a skeleton: each entry may stand behind those before it
pub record IsSkeleton (entries : List Entry) : Type 0 where
  pub each : (before : List Entry) (entry : Entry) (after : List Entry) → entries ≡ before ++ entry ∷ after → IsTrue (fits_behind before entry)
