-- How a text is read, field by field: the value whose text it is, or the first fault and its place.
use Rattle.std.specs.Prelude.{ℕ, zero, suc, ◌+◌, not, ◌==◌, nat_lt, if◌then◌else◌, List, [], ◌∷◌, ◌++◌, length, take, drop, bytes_eq, Result, Ok, Err}
use Rattle.psb_bytes.specs.Numbers.{u8_of, u16_of, u32_of, u64_of}
use Rattle.psb_bytes.specs.declared.ids.Ref.{Ref}
use Rattle.skeleton.specs.declared.entry.Entry.{Entry}
use Rattle.skeleton.specs.declared.entry.EntryKind.{EntryKind}
use Rattle.skeleton.specs.declared.entry.EntryKind.TheVariants.{Folder, File}
use Rattle.skeleton.specs.declared.faults.FaultAt.{FaultAt}
use Rattle.skeleton.specs.declared.faults.SkelFault.{SkelFault}
use Rattle.skeleton.specs.declared.faults.SkelFault.TheVariants.{BadMark, BadOrder, BadPath, BadCount, Short, Trailing, TooLong}
use Rattle.skeleton.specs.declared.limits.TheConstants.{SKELETON_MARK, REFS_MARK, MARK_BYTES, MOST_TEXT_BYTES, MOST_PATH_BYTES, MOST_CHUNK_BYTES, DIGEST_BYTES, FOLDER_KIND, FILE_KIND}
use Rattle.skeleton.specs.Paths.{within, is_path}
use Rattle.skeleton.specs.Entries.{in_order, total}

-- what is not read yet: its place in the text, and its bytes
pub record Unread : Type 0 where
  pub place : ℕ
  pub bytes : List ℕ

-- what reading from some place on gives: a value and what is left, or the first fault
abbrev pub Reading : Type 0 → Type 0
Reading A = Result (A × Unread) FaultAt

infixl 10 ◌>>=◌
abbrev pub ◌>>=◌ : {A B : Type 0} → Result A FaultAt → (A → Result B FaultAt) → Result B FaultAt
(Ok x) >>= f = f x
(Err refusal) >>= f = Err refusal

-- the field that begins here has a fault
abbrev pub refused : {A : Type 0} → SkelFault → Unread → Result A FaultAt
refused fault unread = Err (record { fault = fault; place = unread.place })

-- ---- fields

-- so many bytes
unfoldable pub bytes_at : ℕ → Unread → Reading (List ℕ)
bytes_at n unread = if nat_lt (length unread.bytes) n then refused Short unread else Ok (take n unread.bytes, record { place = unread.place + n; bytes = drop n unread.bytes })

unfoldable pub u8_at : Unread → Reading ℕ
u8_at unread = do
  front ← bytes_at 1 unread
  Ok (u8_of front.0, front.1)

unfoldable pub u16_at : Unread → Reading ℕ
u16_at unread = do
  front ← bytes_at 2 unread
  Ok (u16_of front.0, front.1)

unfoldable pub u32_at : Unread → Reading ℕ
u32_at unread = do
  front ← bytes_at 4 unread
  Ok (u32_of front.0, front.1)

unfoldable pub u64_at : Unread → Reading ℕ
u64_at unread = do
  front ← bytes_at 8 unread
  Ok (u64_of front.0, front.1)

unfoldable pub kind_at : Unread → Reading EntryKind
kind_at unread = do
  kind ← u8_at unread
  if kind.0 == FOLDER_KIND then Ok (Folder, kind.1) else if kind.0 == FILE_KIND then Ok (File, kind.1) else refused BadCount unread

-- a length that no path has is not followed
unfoldable pub path_len_at : Unread → Reading ℕ
path_len_at unread = do
  len ← u16_at unread
  if within 1 MOST_PATH_BYTES len.0 then Ok len else refused BadPath unread

-- a path behind these entries
unfoldable pub path_at : List Entry → Unread → Reading (List ℕ)
path_at before unread = do
  len ← path_len_at unread
  path ← bytes_at len.0 len.1
  if not (is_path path.0) then refused BadPath len.1 else if not (in_order before path.0) then refused BadOrder len.1 else Ok path

unfoldable pub ref_len_at : Unread → Reading ℕ
ref_len_at unread = do
  len ← u32_at unread
  if within 1 MOST_CHUNK_BYTES len.0 then Ok len else refused BadCount unread

unfoldable pub ref_at : Unread → Reading Ref
ref_at unread = do
  name ← bytes_at DIGEST_BYTES unread
  handle ← bytes_at DIGEST_BYTES name.1
  len ← ref_len_at handle.1
  Ok (record { name = name.0; handle = handle.0; len = len.0 }, len.1)

-- ---- lists

-- n more items, each read behind those before it
abbrev pub run_from : {A : Type 0} → (List A → Unread → Reading A) → ℕ → List A → Unread → Reading (List A)
run_from item zero items unread = Ok (items, unread)
run_from item (suc n) items unread = do
  next ← item items unread
  run_from item n (items ++ next.0 ∷ []) next.1

-- items behind their number
unfoldable pub list_at : {A : Type 0} → (List A → Unread → Reading A) → Unread → Reading (List A)
list_at item unread = do
  n ← u32_at unread
  run_from item n.0 [] n.1

abbrev pub ref_behind : List Ref → Unread → Reading Ref
ref_behind before unread = ref_at unread

abbrev pub refs_at : Unread → Reading (List Ref)
refs_at unread = list_at ref_behind unread

-- ---- entries

-- what follows the path: the size is compared once the refs are read
unfoldable pub content_at : EntryKind → Unread → Reading (ℕ × List Ref)
content_at Folder unread = Ok ((0, []), unread)
content_at File unread = do
  size ← u64_at unread
  refs ← refs_at size.1
  if size.0 == total refs.0 then Ok ((size.0, refs.0), refs.1) else refused BadCount unread

-- an entry behind these
unfoldable pub entry_at : List Entry → Unread → Reading Entry
entry_at before unread = do
  kind ← kind_at unread
  path ← path_at before kind.1
  content ← content_at kind.0 path.1
  Ok (record { path = path.0; kind = kind.0; size = content.0.0; refs = content.0.1 }, content.1)

abbrev pub entries_at : Unread → Reading (List Entry)
entries_at unread = list_at entry_at unread

-- ---- texts

-- what stands behind the mark of a text that is not too long
unfoldable pub marked : List ℕ → List ℕ → Result Unread FaultAt
marked mark text =
    if nat_lt MOST_TEXT_BYTES (length text) then refused TooLong (record { place = 0; bytes = text })
    else do
      front ← bytes_at MARK_BYTES (record { place = 0; bytes = text })
      if bytes_eq front.0 mark then Ok front.1 else refused BadMark (record { place = 0; bytes = text })

-- a value, where nothing is left
abbrev pub ended : {A : Type 0} → A × Unread → Result A FaultAt
ended x = if length x.1.bytes == 0 then Ok x.0 else refused Trailing x.1

-- the skeleton that a text spells
unfoldable pub skeleton_of : List ℕ → Result (List Entry) FaultAt
skeleton_of text = do
  unread ← marked SKELETON_MARK text
  entries ← entries_at unread
  ended entries

-- the refs that a text spells
unfoldable pub refs_of : List ℕ → Result (List Ref) FaultAt
refs_of text = do
  unread ← marked REFS_MARK text
  refs ← refs_at unread
  ended refs
