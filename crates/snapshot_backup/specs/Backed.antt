-- What a backup makes, and what one leaves that stops.
use Rattle.std.specs.Prelude.{◌≡◌, ◌⊎◌, ◌<◌, ◌≤◌, ℕ, min, Bool, true, false, List, [], ◌∷◌, ◌++◌, length, All, IfSome, Option, Some, None}
use Rattle.psb_station.specs.View.{View}
use Rattle.psb_station.specs.Calls.{Grows}
use Rattle.psb_station.specs.Folder.{FolderView, FolderCall, Content}
use Rattle.node_journal.specs.Entry.{Entry}
use Rattle.psb_model.specs.Words.{name_listed}
use Rattle.psb_model.specs.Conditions.{names_ascend}
use Rattle.psb_model.specs.State.{snaps_made}
use Rattle.psb_model.specs.History.{state}
use Rattle.psb_model.specs.declared.snapshots.Snapshot.{Snapshot}
use Rattle.psb_model.specs.declared.change.Change.{Change}
use Rattle.psb_model.specs.declared.change.Change.TheVariants.{Kept}
use Rattle.psb_machine.specs.Machine.{Situation, snapped_with}
use Rattle.psb_machine.specs.Course.{Step, after_all}
use Rattle.psb_machine.specs.declared.snap_note.SnapNote.{SnapNote}
use Rattle.node_core.specs.declared.fault.Fault.TheVariants as fault
use Rattle.node_core.specs.declared.node.Node.{Node}
use Rattle.node_serve.specs.Spans.{Fed}
use Rattle.skeleton.specs.declared.limits.TheConstants.{MOST_TEXT_BYTES}
use Rattle.skeleton.specs.Texts.{skeleton_text}
use Rattle.snapshots.specs.Meaning.{Place, means}
use Rattle.snapshots.specs.Shapes.{AreOf}
use Rattle.snapshots.specs.Tickets.{skeleton_of_tree, ticket_of_tree, most_levels}
use Rattle.snapshots.specs.Trees.{IsTree, AreShort, files_in, folders_in, bytes_in}
use Rattle.snapshots.specs.Walks.{AreFound, AreLeft, IsWalk, IsTooLarge, IsNotTooLarge, listings, AreFolders, AreFoldersOf}
use Rattle.snapshots.specs.declared.walking.Found.{Found}
use Rattle.snapshot_backup.specs.Course.{pieces_of_files, pieces_of_levels, pieces_of, keep_steps, backup_course}
use Rattle.snapshot_backup.specs.Endings.{EndsFor}
use Rattle.snapshot_backup.specs.Files.{IsFront, AreReadings}
use Rattle.snapshot_backup.specs.Kept.{names_of, own_bodies}
use Rattle.snapshot_backup.specs.Runs.{most_refs}
use Rattle.snapshot_backup.specs.declared.fault.BackupFault.{BackupFault}
use Rattle.snapshot_backup.specs.declared.fault.BackupFault.TheVariants as backup_fault

-- The note of a tree: its ticket, its counts, and the names of all its pieces, those of the texts above it among them,
-- ascending and each once.
pub record Notes (places : List Place) (note : SnapNote) : Type 0 where
  pub ticket : ticket_of_tree places ≡ Some note.ticket
  pub files : note.files ≡ files_in places
  pub folders : note.folders ≡ folders_in places
  pub bytes : note.bytes ≡ bytes_in places
  pub ascend : names_ascend note.names ≡ true
  pub names : (name : List ℕ) → name_listed note.names name ≡ name_listed (names_of (pieces_of places)) name

-- the snapshot that a note makes, under its number
abbrev pub snapshot_of : ℕ → SnapNote → Snapshot
snapshot_of number note = record { number = number; ticket = note.ticket; files = note.files; folders = note.folders; bytes = note.bytes; left = note.left; names = note.names }

-- the bytes of the text of a tree's skeleton
abbrev pub text_len : List Place → ℕ
text_len places = length (skeleton_text (skeleton_of_tree places))

-- it is the tree of the folder at the root, and so many names there are neither a folder nor a file, up to the last
-- number of a counter
pub record IsSnapOf (content : Content) (root : List ℕ) (places : List Place) (left : ℕ) : Type 0 where
  pub tree : IsTree content root places
  pub short : AreShort places
  pub others : (fs : List Found) × AreOf fs places × ((paths : List (List ℕ)) × AreLeft content root fs paths × (left ≡ min (length paths) 4294967295))

-- ---- what was made

abbrev pub IsKeptChange : Change → Type 0
IsKeptChange c = (name : List ℕ) × (len : ℕ) × (new : Bool) × (body : Option (List ℕ)) × (c ≡ Kept (record { name = name; len = len; new = new; body = body }))

-- The whole course was done, which made pieces the node's own and noted the snapshot. Over the bodies that the node has
-- for itself then, the ticket means the tree.
pub record BacksUp {L : Type 0} (holds : L → List Entry → List ℕ → Type 0) (stands : List Entry → List ℕ → Type 0) (broken : L → Bool) (old new : Node L) (before now : View) (n : Situation) (places : List Place) (note : SnapNote) : Type 0 where
  pub fed : Fed holds stands broken old new before now n (backup_course places note) None true
  pub grown : (kept : List Change) × All IsKeptChange kept
      × ((after_all n (backup_course places note)).history ≡ (n.history ++ kept) ++ snapped_with (state (n.history ++ kept)) note ∷ [])
  pub means_it : means (own_bodies (after_all n (backup_course places note)).history) note.ticket ≡ Some places

-- ---- what was left

-- a fault of the folder, and too large a tree, come while files are read
abbrev pub ComesOfFiles : BackupFault → List (List ℕ) → Type 0
ComesOfFiles backup_fault.Folder of_texts = of_texts ≡ []
ComesOfFiles backup_fault.TooLarge of_texts = of_texts ≡ []
ComesOfFiles e of_texts = Unit {0}

-- Pieces that were tried: those of files, of which there are no more than a skeleton has room for, and behind all of
-- these some of the texts above them. They are none, or the first ones of the folder's tree.
pub record AreTried (e : BackupFault) (content : Option Content) (root : List ℕ) (pieces : List (List ℕ)) : Type 0 where
  pub of_files : List (List ℕ)
  pub of_texts : List (List ℕ)
  pub are : pieces ≡ of_files ++ of_texts
  pub few : length of_files ≤ most_refs
  pub behind : (of_texts ≡ []) ⊎ ((places : List Place) × (of_files ≡ pieces_of_files places) × IsFront of_texts (pieces_of_levels most_levels (skeleton_text (skeleton_of_tree places))))
  pub comes : ComesOfFiles e of_texts
  pub first : (pieces ≡ []) ⊎ IfSome content (λ c. (places : List Place) × IsTree c root places × AreShort places × IsFront pieces (pieces_of places))

-- What was tried of a backup that stopped for a fault, and whether all of it was done: the keeping of pieces; or all of
-- its course, of which the last step failed.
abbrev pub IsTried : BackupFault → Option Content → List ℕ → Situation → List Step → Bool → Type 0
IsTried e content root n tried all =
    ((pieces : List (List ℕ)) × (tried ≡ keep_steps pieces) × AreTried e content root pieces × EndsFor e n pieces all)
    ⊎ ((places : List Place) × (note : SnapNote) × (tried ≡ backup_course places note) × (all ≡ false) × Notes places note × IfSome content (λ c. IsSnapOf c root places note.left)
    × ((e ≡ backup_fault.Node fault.DiskFault) ⊎ (e ≡ backup_fault.Memory)))

-- the text of the skeleton of the folder's tree is too long
abbrev pub HasLongText : Content → List ℕ → Type 0
HasLongText content root = (places : List Place) × IsTree content root places × (MOST_TEXT_BYTES < text_len places)

-- and that for its refs alone
pub record IsLongWithRefs (content : Content) (root : List ℕ) : Type 0 where
  pub sizes : IsNotTooLarge content root
  pub text : HasLongText content root

-- Why a tree is too large, and what was tried before that was found: nothing, where so many snapshots were made before,
-- or where it is too large without any refs; else no more pieces than its skeleton has room for.
abbrev pub IsTooMuch : ℕ → Option Content → List ℕ → List Step → Type 0
IsTooMuch made content root tried =
    ((made ≡ 4294967295) × (tried ≡ []))
    ⊎ (IfSome content (λ c. IsTooLarge c root) × (tried ≡ []))
    ⊎ (IfSome content (λ c. IsLongWithRefs c root) × (length tried ≤ most_refs))

-- What was tried of a backup that stopped for a fault, and what came of it. Behind the step that failed, if one did,
-- nothing was tried.
pub record StopsBackup {L : Type 0} (holds : L → List Entry → List ℕ → Type 0) (stands : List Entry → List ℕ → Type 0) (broken : L → Bool) (old new : Node L) (before now : View) (n : Situation) (e : BackupFault) (content : Option Content) (root : List ℕ) : Type 0 where
  pub tried : List Step
  pub all : Bool
  pub are : IsTried e content root n tried all
  pub too_large : e ≡ backup_fault.TooLarge → IsTooMuch (snaps_made (state n.history)) content root tried
  pub fed : Fed holds stands broken old new before now n tried None all
  pub last : fed.undone ≡ []

-- ---- the calls of the folder

-- files are read of what was found, once all folders that were found were listed
pub record ReadsFound (content : Option Content) (root : List ℕ) (below : List (List ℕ)) (readings : List FolderCall) : Type 0 where
  pub found : List Found
  pub are : AreFound found
  pub folders : AreFoldersOf found below
  pub walk : IfSome content (λ c. (left : ℕ) × IsWalk c root found left)
  pub readings_are : AreReadings root found readings

-- no call; or folders are listed; or all of them, and then files are read
abbrev pub AreCalls : Option Content → List ℕ → List FolderCall → Type 0
AreCalls content root calls =
    (calls ≡ [])
    ⊎ ((below : List (List ℕ)) × AreFolders content root below × (calls ≡ listings root below))
    ⊎ ((below : List (List ℕ)) × (readings : List FolderCall) × AreFolders content root below × ReadsFound content root below readings × (calls ≡ listings root below ++ readings))

-- all folders were listed before the first file was read, and nothing else was done
pub record ListsThenReads (root : List ℕ) (old new : FolderView) : Type 0 where
  pub calls : List FolderCall
  pub grown : Grows old.folder_calls new.folder_calls calls
  pub are : AreCalls new.content root calls
