-- What a restore makes of a node and of the target, and what one leaves that stops.
use Rattle.std.specs.Prelude.{◌≡◌, ◌⊎◌, ℕ, Bool, true, List, [], ◌∷◌, ◌++◌, sum_by, Some, IfSome, Ok}
use Rattle.psb_bytes.specs.declared.ids.Ref.{Ref}
use Rattle.psb_bytes.specs.declared.ids.Ticket.{Ticket}
use Rattle.psb_station.specs.View.{View, Heard}
use Rattle.psb_station.specs.Calls.{Grows}
use Rattle.psb_station.specs.Span.{Tells_bytes}
use Rattle.psb_station.specs.Folder.{Content, FolderView, FolderCall, Listing, Lists, Tells_content}
use Rattle.node_journal.specs.Entry.{Entry as ARecord}
use Rattle.psb_settings.specs.declared.settings.Settings.{Settings}
use Rattle.psb_model.specs.History.{state}
use Rattle.psb_machine.specs.Machine.{Situation}
use Rattle.node_core.specs.declared.node.Node.{Node}
use Rattle.node_core.specs.Stored.{Knows, Stored}
use Rattle.node_serve.specs.Hears.{Hears}
use Rattle.node_serve.specs.Spans.{Counts}
use Rattle.skeleton.specs.declared.entry.Entry.{Entry}
use Rattle.skeleton.specs.Reading.{skeleton_of}
use Rattle.snapshots.specs.Counts.{one_file, one_folder, its_bytes}
use Rattle.snapshots.specs.Meaning.{Bodies, Place, means}
use Rattle.snapshots.specs.Got.{AreMet}
use Rattle.snapshots.specs.Trees.{IsTree, files_in, folders_in, bytes_in}
use Rattle.snapshots.specs.Writing.{IsWhole, Writes, with_places}
use Rattle.snapshot_restore.specs.Course.{Fetch, heard_in}
use Rattle.snapshot_restore.specs.Taken.{Taken, taken_uses, fetches, AllOpen}
use Rattle.snapshot_restore.specs.Faults.{TheDisk, failed_in}
use Rattle.snapshot_restore.specs.Fetching.{TakesAll, Spends, StopsAll}
use Rattle.snapshot_restore.specs.Reading.{IsTextRead, IsTreeRead, StopsAt}
use Rattle.snapshot_restore.specs.Written.{entries_calls, TriesFirst, AreBegun}
use Rattle.snapshot_restore.specs.declared.fault.RestoreFault.{RestoreFault}
use Rattle.snapshot_restore.specs.declared.fault.RestoreFault.TheVariants as restore_fault
use Rattle.snapshot_restore.specs.declared.restoring.Restored.{Restored}

-- this was heard in a run, and no count fell
pub record HearsAll (before now : View) (heard : List Heard) : Type 0 where
  pub hears : Hears before now [] heard
  pub tells : Tells_bytes now → Tells_bytes before
  pub counts : Counts before now

-- ---- what was made

-- The tree of a ticket was read, place by place, and written below the root, with these calls in front of it.
pub record MakesTree (was is : FolderView) (t : Ticket) (root : List ℕ) (front : List FolderCall) (d : Restored) : Type 0 where
  pub ts : List Taken
  pub entries : List Entry
  pub tree : List Place
  pub read : IsTreeRead t ts entries tree
  pub open_all : AllOpen ts
  pub writes : Writes root was is tree
  pub grown : Grows was.folder_calls is.folder_calls (front ++ entries_calls root entries)
  pub files : d.files ≡ sum_by one_file entries
  pub folders : d.folders ≡ sum_by one_folder entries
  pub bytes : d.bytes ≡ sum_by its_bytes entries

-- and this is what the node did for it
pub record RestoresBelow {L : Type 0} (holds : L → List ARecord → List ℕ → Type 0) (stands : List ARecord → List ℕ → Type 0) (broken : L → Bool) (old new : Node L) (before now : View) (was is : FolderView) (t : Ticket) (root : List ℕ) (turns : ℕ) (front : List FolderCall) (d : Restored) : Type 0 where
  pub made : MakesTree was is t root front d
  pub run : HearsAll before now (heard_in (fetches made.ts))
  pub all : Tells_bytes now → (n : Situation) (settings : Settings) → Knows old n → Stored holds old n.history before → (state n.history).settings ≡ Some settings
      → TakesAll holds stands broken turns 0 old new before now n settings made.ts

-- the counts of a tree
pub record CountsTree (d : Restored) (tree : List Place) : Type 0 where
  pub files : d.files ≡ files_in tree
  pub folders : d.folders ≡ folders_in tree
  pub bytes : d.bytes ≡ bytes_in tree

-- This tree stands below the root, and nothing else; at every other path stands what stood there. These are its counts.
pub record IsRestored (was is : FolderView) (root : List ℕ) (d : Restored) (tree : List Place) : Type 0 where
  pub counts : CountsTree d tree
  pub stands : (c now : Content) → was.content ≡ Some c → is.content ≡ Some now → IsWhole c → IsTree now root tree
  pub around : (c now : Content) → was.content ≡ Some c → is.content ≡ Some now → now ≡ with_places root c tree

-- These are the counts of the tree. Over any bodies over which the ticket means one, it is that tree; or two unequal
-- texts were met that share a SHA-256: one of these bodies, and one that was used in this very call for a place of that
-- name.
pub record IsExact (was is : FolderView) (t : Ticket) (root : List ℕ) (d : Restored) (ts : List Taken) (tree : List Place) : Type 0 where
  pub counts : CountsTree d tree
  pub exact : (bodies : Bodies) (meant : List Place) → means bodies t ≡ Some meant → IsRestored was is root d meant ⊎ AreMet bodies (taken_uses ts)

-- the target listed nothing as it was looked at, before anything was asked, read or made
abbrev pub FoundEmpty : FolderView → FolderView → List ℕ → Type 0
FoundEmpty was is root = Tells_content is → IfSome was.content (λ c. Lists c root [])

pub record Restores {L : Type 0} (holds : L → List ARecord → List ℕ → Type 0) (stands : List ARecord → List ℕ → Type 0) (broken : L → Bool) (old new : Node L) (before now : View) (was is : FolderView) (t : Ticket) (root : List ℕ) (turns : ℕ) (d : Restored) : Type 0 where
  pub below : RestoresBelow holds stands broken old new before now was is t root turns (Listing root ∷ []) d
  pub exact : IsExact was is t root d below.made.ts below.made.tree
  pub empty : FoundEmpty was is root

-- ---- what was left

-- the first entries of the skeleton that was read stand there, the last of them perhaps in part
pub record IsWrittenInPart (t : Ticket) (root : List ℕ) (front : List FolderCall) (ts : List Taken) (was is : FolderView) (places : List Place) (e : RestoreFault) : Type 0 where
  pub texts : List Taken
  pub files : List Taken
  pub text : List ℕ
  pub entries : List Entry
  pub parts : ts ≡ texts ++ files
  pub reads_text : IsTextRead t.levels (t.reference ∷ []) texts text
  pub reads : skeleton_of text ≡ Ok entries
  pub begun : AreBegun e entries files places
  pub tries : TriesFirst was is (front ++ entries_calls root entries)

-- or the skeleton was not read, and nothing was made
abbrev pub IsLeft : Ticket → List ℕ → List FolderCall → List Taken → FolderView → FolderView → List Place → RestoreFault → Type 0
IsLeft t root front ts was is places e = ((places ≡ []) × TriesFirst was is front) ⊎ IsWrittenInPart t root front ts was is places e

-- The bodies of the first places in the order of reading were taken, and then it stopped.
pub record LeavesTree (was is : FolderView) (t : Ticket) (root : List ℕ) (turns : ℕ) (front : List FolderCall) (e : RestoreFault) : Type 0 where
  pub ts : List Taken
  pub next : List Ref
  pub here : StopsAt t ts next e
  pub open_all : AllOpen ts
  -- what was asked for last, and whether all was fed
  pub last : List Fetch
  pub ok : Bool
  pub spends : Spends turns next last ok e
  pub places : List Place
  pub writes : Writes root was is places
  pub left : IsLeft t root front ts was is places e

pub record StopsBelow {L : Type 0} (holds : L → List ARecord → List ℕ → Type 0) (stands : List ARecord → List ℕ → Type 0) (broken : L → Bool) (old new : Node L) (before now : View) (was is : FolderView) (t : Ticket) (root : List ℕ) (turns : ℕ) (front : List FolderCall) (e : RestoreFault) : Type 0 where
  pub leaves : LeavesTree was is t root turns front e
  pub run : HearsAll before now (heard_in (fetches leaves.ts ++ leaves.last))
  pub unbroken : broken new.log ≡ true → failed_in e ≡ TheDisk
  pub all : Tells_bytes now → (n : Situation) (settings : Settings) → Knows old n → Stored holds old n.history before → (state n.history).settings ≡ Some settings
      → StopsAll holds stands broken turns 0 old new before now n settings leaves.ts leaves.next leaves.last leaves.ok e

-- where the ticket means a tree, a text on the way is outside the grammar only where two unequal texts were met
abbrev pub IsMetBy : Ticket → List Taken → RestoreFault → Type 0
IsMetBy t ts (restore_fault.BadSkeleton fault place) = (bodies : Bodies) (meant : List Place) → means bodies t ≡ Some meant → AreMet bodies (taken_uses ts)
IsMetBy t ts e = Unit {0}

-- nothing was asked, read or made
abbrev pub IsUntried : List Taken → List Fetch → List Place → Type 0
IsUntried ts last places = (ts ≡ []) × (last ≡ []) × (places ≡ [])

-- A target that is not empty is found to be so before anything is asked, read or made. It may be that it could not be
-- looked at. Whatever else is answered, it listed nothing.
abbrev pub IsAtOnce : FolderView → FolderView → List ℕ → RestoreFault → List Taken → List Fetch → List Place → Type 0
IsAtOnce was is root restore_fault.NotEmpty ts last places = IsUntried ts last places
IsAtOnce was is root restore_fault.Folder ts last places = IsUntried ts last places ⊎ FoundEmpty was is root
IsAtOnce was is root restore_fault.Memory ts last places = IsUntried ts last places ⊎ FoundEmpty was is root
IsAtOnce was is root e ts last places = FoundEmpty was is root

pub record StopsRestore {L : Type 0} (holds : L → List ARecord → List ℕ → Type 0) (stands : List ARecord → List ℕ → Type 0) (broken : L → Bool) (old new : Node L) (before now : View) (was is : FolderView) (t : Ticket) (root : List ℕ) (turns : ℕ) (e : RestoreFault) : Type 0 where
  pub below : StopsBelow holds stands broken old new before now was is t root turns (Listing root ∷ []) e
  pub met : IsMetBy t below.leaves.ts e
  pub at_once : IsAtOnce was is root e below.leaves.ts below.leaves.last below.leaves.places
