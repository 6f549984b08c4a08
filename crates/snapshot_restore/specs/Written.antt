-- What is written below the target, entry by entry, and what is left of it where that stops.
use Rattle.std.specs.Prelude.{◌≡◌, ◌⊎◌, ℕ, Bool, List, [], ◌∷◌, ◌++◌, map, flat_map}
use Rattle.psb_bytes.specs.declared.ids.Ref.{Ref}
use Rattle.psb_station.specs.View.{View}
use Rattle.psb_station.specs.Calls.{Grows}
use Rattle.psb_station.specs.Folder.{FolderView, FolderCall, Appending, child}
use Rattle.node_journal.specs.Entry.{Entry as ARecord}
use Rattle.node_core.specs.declared.node.Node.{Node}
use Rattle.skeleton.specs.declared.entry.Entry.{Entry}
use Rattle.skeleton.specs.declared.entry.EntryKind.{EntryKind}
use Rattle.skeleton.specs.declared.entry.EntryKind.TheVariants as kind
use Rattle.snapshots.specs.Meaning.{Item, Folder, File, Place}
use Rattle.snapshots.specs.Writing.{making, Adds, Writes}
use Rattle.snapshot_restore.specs.Taken.{Taken, taken_refs, taken_text}
use Rattle.snapshot_restore.specs.Fetching.{Takes, Stops}
use Rattle.snapshot_restore.specs.Reading.{refs_of_entry, refs_of_files, item_read, AreItemsRead}
use Rattle.snapshot_restore.specs.declared.fault.RestoreFault.{RestoreFault}
use Rattle.snapshot_restore.specs.declared.fault.RestoreFault.TheVariants as restore_fault
use Rattle.snapshot_restore.specs.declared.waiting.Waiting.{Waiting}

-- ---- the calls of the folder

-- a file is appended to once for each of its refs
abbrev pub appends : List ℕ → List Ref → List FolderCall
appends at refs = map (λ (r : Ref). Appending at) refs

-- an entry is made, and then appended to
abbrev pub entry_calls : List ℕ → Entry → List FolderCall
entry_calls root e = making e.kind (child root e.path) ∷ appends (child root e.path) (refs_of_entry e.kind e.refs)

abbrev pub entries_calls : List ℕ → List Entry → List FolderCall
entries_calls root es = flat_map (entry_calls root) es

-- the first of these calls were tried
pub record TriesFirst (old new : FolderView) (all : List FolderCall) : Type 0 where
  pub tried : List FolderCall
  pub left : List FolderCall
  pub parts : all ≡ tried ++ left
  pub grown : Grows old.folder_calls new.folder_calls tried

-- ---- the bytes of a file

-- all were appended, as they were taken
pub record AppendsAll {L : Type 0} (holds : L → List ARecord → List ℕ → Type 0) (stands : List ARecord → List ℕ → Type 0) (broken : L → Bool) (w0 w1 : Waiting) (old new : Node L) (before now : View) (was is : FolderView) (at : List ℕ) (refs : List Ref) : Type 0 where
  pub ts : List Taken
  pub refs_are : taken_refs ts ≡ refs
  pub takes : Takes holds stands broken w0 w1 old new before now ts
  pub adds : Adds was is at (taken_text ts)
  pub grown : Grows was.folder_calls is.folder_calls (appends at refs)

-- what was taken was appended, unless the folder failed at it
abbrev pub IsAppended : RestoreFault → List ℕ → Type 0
IsAppended (restore_fault.Node f) left = left ≡ []
IsAppended restore_fault.Link left = left ≡ []
IsAppended restore_fault.Folder left = Unit {0}
IsAppended restore_fault.NotEmpty left = left ≡ []
IsAppended (restore_fault.Missing name) left = left ≡ []
IsAppended (restore_fault.Altered name got) left = left ≡ []
IsAppended (restore_fault.BadSkeleton f place) left = left ≡ []
IsAppended restore_fault.Memory left = left ≡ []

-- some first bytes of those that were taken were appended
pub record StopsAppending {L : Type 0} (holds : L → List ARecord → List ℕ → Type 0) (stands : List ARecord → List ℕ → Type 0) (broken : L → Bool) (w0 w1 : Waiting) (old new : Node L) (before now : View) (was is : FolderView) (at : List ℕ) (refs : List Ref) (e : RestoreFault) : Type 0 where
  pub ts : List Taken
  pub next : List Ref
  pub parts : refs ≡ taken_refs ts ++ next
  pub stops : Stops holds stands broken w0 w1 old new before now ts next e
  pub added : List ℕ
  pub left : List ℕ
  pub text_is : taken_text ts ≡ added ++ left
  pub appended : IsAppended e left
  pub adds : Adds was is at added
  pub tries : TriesFirst was is (appends at refs)

-- ---- an entry

pub record WritesEntry {L : Type 0} (holds : L → List ARecord → List ℕ → Type 0) (stands : List ARecord → List ℕ → Type 0) (broken : L → Bool) (w0 w1 : Waiting) (old new : Node L) (before now : View) (root : List ℕ) (was is : FolderView) (e : Entry) : Type 0 where
  pub ts : List Taken
  pub refs_are : taken_refs ts ≡ refs_of_entry e.kind e.refs
  pub takes : Takes holds stands broken w0 w1 old new before now ts
  pub writes : Writes root was is (record { path = e.path; item = item_read e.kind ts } ∷ [])
  pub grown : Grows was.folder_calls is.folder_calls (entry_calls root e)

-- what an entry is that has these bytes so far
abbrev pub item_begun : EntryKind → List ℕ → Item
item_begun kind.Folder bytes = Folder
item_begun kind.File bytes = File bytes

-- nothing was taken for it and nothing stands there, or the entry with the first bytes of those that were taken for it
abbrev pub IsBegun : RestoreFault → Entry → List Taken → List Place → Type 0
IsBegun fault e ts places =
    ((ts ≡ []) × (places ≡ []))
    ⊎ ((bytes : List ℕ) × (left : List ℕ) × (taken_text ts ≡ bytes ++ left) × IsAppended fault left × (places ≡ record { path = e.path; item = item_begun e.kind bytes } ∷ []))

pub record StopsEntry {L : Type 0} (holds : L → List ARecord → List ℕ → Type 0) (stands : List ARecord → List ℕ → Type 0) (broken : L → Bool) (w0 w1 : Waiting) (old new : Node L) (before now : View) (root : List ℕ) (was is : FolderView) (e : Entry) (fault : RestoreFault) : Type 0 where
  pub ts : List Taken
  pub next : List Ref
  pub parts : refs_of_entry e.kind e.refs ≡ taken_refs ts ++ next
  pub stops : Stops holds stands broken w0 w1 old new before now ts next fault
  pub places : List Place
  pub begun : IsBegun fault e ts places
  pub writes : Writes root was is places
  pub tries : TriesFirst was is (entry_calls root e)

-- ---- all entries

pub record WritesAll {L : Type 0} (holds : L → List ARecord → List ℕ → Type 0) (stands : List ARecord → List ℕ → Type 0) (broken : L → Bool) (w0 w1 : Waiting) (old new : Node L) (before now : View) (root : List ℕ) (was is : FolderView) (es : List Entry) : Type 0 where
  pub ts : List Taken
  pub places : List Place
  pub items : AreItemsRead es ts places
  pub takes : Takes holds stands broken w0 w1 old new before now ts
  pub writes : Writes root was is places
  pub grown : Grows was.folder_calls is.folder_calls (entries_calls root es)

-- The first entries stand there, and the next one as far as it was begun.
pub record AreBegun (fault : RestoreFault) (es : List Entry) (ts : List Taken) (places : List Place) : Type 0 where
  pub front : List Entry
  pub e : Entry
  pub behind : List Entry
  pub entries_are : es ≡ front ++ e ∷ behind
  pub whole : List Taken
  pub part : List Taken
  pub taken_are : ts ≡ whole ++ part
  pub written : List Place
  pub last : List Place
  pub places_are : places ≡ written ++ last
  pub items : AreItemsRead front whole written
  pub begun : IsBegun fault e part last

pub record StopsTree {L : Type 0} (holds : L → List ARecord → List ℕ → Type 0) (stands : List ARecord → List ℕ → Type 0) (broken : L → Bool) (w0 w1 : Waiting) (old new : Node L) (before now : View) (root : List ℕ) (was is : FolderView) (es : List Entry) (fault : RestoreFault) : Type 0 where
  pub ts : List Taken
  pub next : List Ref
  pub parts : refs_of_files es ≡ taken_refs ts ++ next
  pub stops : Stops holds stands broken w0 w1 old new before now ts next fault
  pub places : List Place
  pub begun : AreBegun fault es ts places
  pub writes : Writes root was is places
  pub tries : TriesFirst was is (entries_calls root es)
