-- What a folder means after its calls, by what stood at each path at first. Whether each answer is that of an honest
-- folder shows in its content: it is told up to the first answer that is not.
use Rattle.std.specs.Prelude.{◌≡◌, ℕ, ◌-◌, ◌==◌, nat_le, bytes_eq, Bool, true, false, not, ◌&&◌, ◌||◌, if◌then◌else◌, List, [], ◌∷◌, ◌++◌, length, take, drop, map, Option, Some, None}
use Rattle.std.specs.List.{list_all, list_any}
use Rattle.std.specs.FinMap.{get, insert, keys}
use Rattle.psb_station.specs.Folder.{FolderView, Content, Stored, Folder, File, Special, plain, parent, found, child, is_name}
use Rattle.psb_station.specs.declared.item.Item.{Item}
use Rattle.psb_station.specs.declared.item.Kind.{Kind}
use Rattle.psb_station.specs.declared.item.Kind.TheVariants as kind
use Rattle.psb_host.specs.FolderEvents.{FolderEvent, Listed, NotKept, Piece, MadeFolder, MadeFile, Added, calls_of, faults_of}
use Rattle.psb_host.specs.HonestStation.{went_down, unless_short}

-- the content, where it is told and passes a test
abbrev pub where_holds : (Content → Bool) → Option Content → Option Content
where_holds test None = None
where_holds test (Some content) = if test content then Some content else None

abbrev pub is_folder : Option Stored → Bool
is_folder (Some Folder) = true
is_folder (Some (File bytes)) = false
is_folder (Some Special) = false
is_folder None = false

-- what stands there is of this kind
abbrev pub is_kind : Kind → Option Stored → Bool
is_kind kind.Folder (Some Folder) = true
is_kind kind.File (Some (File bytes)) = true
is_kind kind.Other (Some Special) = true
is_kind k _ = false

abbrev pub is_free : Option Stored → Bool
is_free None = true
is_free (Some s) = false

-- what follows a front
abbrev pub behind : List ℕ → List ℕ → Option (List ℕ)
behind [] path = Some path
behind (c ∷ front) [] = None
behind (c ∷ front) (d ∷ path) = if c == d then behind front path else None

-- what a path, as it is looked up, is called in a folder; `under` puts it there
abbrev pub name_in : List ℕ → List ℕ → Option (List ℕ)
name_in [] path = Some path
name_in (c ∷ folder) path = behind (c ∷ folder ++ 47 ∷ []) path

abbrev pub names_of : List Item → List (List ℕ)
names_of items = map (λ (i : Item). i.name) items

-- what is called so in a folder is no child, or is listed
abbrev pub is_listed : List Item → Option (List ℕ) → Bool
is_listed items None = true
is_listed items (Some name) = not (is_name name) || list_any (bytes_eq name) (names_of items)

-- an honest folder with this content lists so: each item stands in it, and each child is an item
abbrev pub lists_so : List ℕ → List Item → Content → Bool
lists_so path items content =
    is_folder (found content path)
    && list_all (λ (i : Item). is_kind i.kind (found content (child path i.name))) items
    && list_all (λ (key : List ℕ). is_listed items (name_in (plain path) key)) (keys content)

-- a file with these bytes gives so at a place, where n bytes are asked for: some that stand there, none at its end alone
abbrev pub piece_so : ℕ → ℕ → List ℕ → Option Stored → Bool
piece_so at n came (Some (File bytes)) =
    nat_le (length came) (length bytes - at) && bytes_eq came (take (length came) (drop at bytes)) && (not (length came == 0) || (n == 0) || nat_le (length bytes) at)
piece_so at n came (Some Folder) = false
piece_so at n came (Some Special) = false
piece_so at n came None = false

-- something new may be made at the path: it is free, and in a folder
abbrev pub is_place : List ℕ → Content → Bool
is_place path content = is_folder (get content (parent (plain path))) && is_free (found content path)

-- with something new, or refused: then nothing changed
abbrev pub made : Bool → List ℕ → Stored → Option Content → Option Content
made false path s content = content
made true path s None = None
made true path s (Some content) = if is_place path content then Some (insert content (plain path) s) else None

-- with these bytes more at the end of a file
abbrev pub added : List ℕ → List ℕ → Content → Option Stored → Option Content
added path piece content (Some (File bytes)) = Some (insert content (plain path) (File (bytes ++ piece)))
added path piece content (Some Folder) = None
added path piece content (Some Special) = None
added path piece content None = None

-- A call that failed and added nothing may have had any cause, so nothing changed. One that added some bytes had a file.
abbrev pub appended : Bool → ℕ → List ℕ → List ℕ → Option Content → Option Content
appended ok n path given None = None
appended ok n path given (Some content) = if not ok && (n == 0) then Some content else added path (went_down ok n given) content (found content path)

-- where the last call was an append that is said to be done, all bytes were added that it was given
abbrev pub AddsAll : List FolderEvent → Type 0
AddsAll (Added path n true given ∷ earlier) = n ≡ length given
AddsAll _ = Unit {0}

-- one call more. A list and a read that failed may have had any cause
abbrev pub after_call : FolderEvent → Option Content → Option Content
after_call (Listed path (Some items)) content = where_holds (lists_so path items) content
after_call (Listed path None) content = content
after_call (NotKept path) content = content
after_call (Piece path at n true came) content = where_holds (λ c. piece_so at n came (found c path)) content
after_call (Piece path at n false came) content = content
after_call (MadeFolder path ok) content = made ok path Folder content
after_call (MadeFile path ok) content = made ok path (File []) content
after_call (Added path n ok given) content = appended ok n path given (unless_short ok n given content)

abbrev pub content_after : Content → List FolderEvent → Option Content
content_after tree [] = Some tree
content_after tree (e ∷ earlier) = after_call e (content_after tree earlier)

-- a folder with this record of its calls, the newest first
abbrev pub folder_meaning : Content → List FolderEvent → FolderView
folder_meaning tree events = record {
  content = content_after tree events;
  folder_calls = Some (calls_of events);
  folder_faults = faults_of events;
}

-- nothing was called yet
abbrev pub IsFirst : Content → FolderView → Type 0
IsFirst tree v = v ≡ record { content = Some tree; folder_calls = Some []; folder_faults = 0 }
