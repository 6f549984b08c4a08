-- The headline of `backup`.
use Rattle.std.specs.Prelude.{◌≡◌, ◌⊎◌, ◌+◌, ◌<◌, ◌≤◌, ℕ, Bool, true, false, List, [], ◌∷◌, ◌++◌, length, Contains, IfSome, Some, None}
use Rattle.psb_station.specs.View.{View}
use Rattle.psb_station.specs.Calls.{Rose}
use Rattle.psb_station.specs.Folder.{FolderView, Content, Tells_content}
use Rattle.psb_station.specs.Span.{Leaves, Tells_bytes}
use Rattle.node_journal.specs.Entry.{Entry}
use Rattle.psb_digest.specs.Clashes.{Pair, Clashes}
use Rattle.psb_model.specs.State.{snaps_made}
use Rattle.psb_model.specs.History.{state}
use Rattle.psb_model.specs.Needed.{last_brought}
use Rattle.psb_model.specs.declared.change.Change.{Change}
use Rattle.convergent_seal.specs.Sealing.{sealed}
use Rattle.psb_machine.specs.Machine.{fresh, Snap}
use Rattle.psb_machine.specs.Course.{Step, Absorb, Tell, Say, after_all}
use Rattle.psb_machine.specs.Commands.{says}
use Rattle.psb_machine.specs.declared.snap_note.SnapNote.{SnapNote}
use Rattle.node_core.specs.declared.fault.Fault.{Fault}
use Rattle.node_core.specs.declared.fault.Fault.TheVariants as fault
use Rattle.skeleton.specs.declared.limits.TheConstants.{MOST_TEXT_BYTES}
use Rattle.snapshots.specs.Meaning.{Place, means}
use Rattle.snapshots.specs.Trees.{IsTree, AreShort}
use Rattle.snapshots.specs.Walks.{IsNotTooLarge}
use Rattle.snapshot_backup.specs.Backed.{Notes, IsSnapOf, IsTried, IsTooMuch, HasLongText, snapshot_of, text_len}
use Rattle.snapshot_backup.specs.Course.{pieces_of, keep_step, keep_steps, backup_course}
use Rattle.snapshot_backup.specs.Endings.{MeetsOther}
use Rattle.snapshot_backup.specs.Kept.{own_bodies}
use Rattle.snapshot_backup.specs.declared.fault.BackupFault.{BackupFault}
use Rattle.snapshot_backup.specs.declared.fault.BackupFault.TheVariants as backup_fault
use Rattle.backup_cli.specs.Commanded.{Commanded, IsMoment}
use Rattle.said_lines.specs.Lines.{snapshot_line}
use Rattle.said_lines.specs.Says.{IsRefusal}
use Rattle.backup_cli.specs.Served.{IsNode, ending_of, refused_of}
use Rattle.said_lines.specs.declared.status.Status.{Status}
use Rattle.said_lines.specs.declared.status.Status.TheVariants.{Done, DiskFault, FolderFault, SayFault, NotNode, TooLarge, Clash, Memory}

-- how the program ends for a fault of the node, and for one of a backup
abbrev pub status_of_node : Fault → Status
status_of_node fault.DiskFault = DiskFault
status_of_node (fault.Clash c) = Clash c
status_of_node (fault.Altered name) = NotNode
status_of_node f = Memory

abbrev pub status_of : BackupFault → Status
status_of (backup_fault.Node f) = status_of_node f
status_of backup_fault.Folder = FolderFault
status_of backup_fault.TooLarge = TooLarge
status_of backup_fault.Memory = Memory

-- the line of the snapshot that a note makes at a history
abbrev pub noted_line : List Change → SnapNote → List ℕ
noted_line h note = snapshot_line (snapshot_of (snaps_made (state h) + 1) note)

-- A snapshot was made of the folder at the root, and then its line is said. Over the bodies that the node has for itself
-- then, its ticket means the tree of the folder.
pub record Made (h : List Change) (root : List ℕ) (folder : FolderView) (steps : List Step) : Type 0 where
  pub places : List Place
  pub note : SnapNote
  pub notes : Notes places note
  pub of : IfSome folder.content (λ c. IsSnapOf c root places note.left)
  pub short : text_len places ≤ MOST_TEXT_BYTES
  pub steps_are : steps ≡ backup_course places note ++ says (noted_line h note ∷ [])
  pub means_it : means (own_bodies (after_all (fresh h) (backup_course places note)).history) note.ticket ≡ Some places

-- neither a path nor the text is too long
pub record HasRoom (content : Content) (root : List ℕ) : Type 0 where
  pub sizes : IsNotTooLarge content root
  pub text : ¬ HasLongText content root

-- None was made, for a fault, and this was tried of its course.
pub record Unmade (h : List Change) (root : List ℕ) (folder : FolderView) (steps : List Step) (status : Status) : Type 0 where
  pub by : BackupFault
  pub status_is : status ≡ status_of by
  pub all : Bool
  pub tried : IsTried by folder.content root (fresh h) steps all

-- how it may end on a disk that holds a node
abbrev pub IsEnd : Status → Type 0
IsEnd status = (status ≡ Done) ⊎ (status ≡ DiskFault) ⊎ (status ≡ FolderFault) ⊎ (status ≡ SayFault) ⊎ (status ≡ TooLarge) ⊎ ((c : Pair) × (status ≡ Clash c) × Clashes c.first c.second) ⊎ (status ≡ Memory)

-- the keeping of a piece, or the note of the snapshot
abbrev pub IsOwnStep : Step → Type 0
IsOwnStep step = ((piece : List ℕ) × (step ≡ keep_step piece)) ⊎ ((note : SnapNote) × (step ≡ Absorb (Snap note)))

-- the step that failed, if the node was opened: that of which the node's fault came, or the saying of the line
abbrev pub FailsToBackUp : Status → List Step → Type 0
FailsToBackUp Done failed = failed ≡ []
FailsToBackUp DiskFault failed = (step : Step) × (failed ≡ step ∷ []) × IsOwnStep step
FailsToBackUp FolderFault failed = failed ≡ []
FailsToBackUp SayFault failed = (line : List ℕ) × (failed ≡ Tell (Say line) ∷ [])
FailsToBackUp TooLarge failed = failed ≡ []
FailsToBackUp (Clash c) failed = (step : Step) × (failed ≡ step ∷ []) × IsOwnStep step
FailsToBackUp Memory failed = (failed ≡ []) ⊎ ((step : Step) × (failed ≡ step ∷ []) × IsOwnStep step)
FailsToBackUp _ failed = ⊥

-- what is left undone of the saying of the line, where the snapshot was made: where memory was short for it, all of it
abbrev pub IsLineLeft : Status → List Step → Type 0
IsLineLeft Done undone = undone ≡ []
IsLineLeft SayFault undone = undone ≡ []
IsLineLeft Memory undone = 1 ≤ length undone
IsLineLeft _ undone = ⊥

-- `backup FOLDER` on a disk that holds a history, up to a status
pub record BacksUpTo (stands : List Entry → List ℕ → Type 0) (h : List Change) (root : List ℕ) (opened : Bool) (old new : View) (folder : FolderView) (status : Status) : Type 0 where
  pub ends : IsEnd status
  -- the line of a refusal, or what of it was said
  pub refusal : List ℕ
  pub how : IsRefusal status refusal old new
  -- what was to be done, and what came of it
  pub steps : List Step
  pub course : Commanded stands h opened steps None refusal (refused_of status) old new (ending_of status)
  pub unopened : opened ≡ false → ((status ≡ DiskFault) ⊎ (status ≡ Memory)) × (steps ≡ [])
  pub made : (status ≡ Done) ⊎ (status ≡ SayFault) → Made h root folder steps
  -- else pieces were to be kept, none or the first ones of the tree, or all and the note; or memory was short for the line
  pub comes_to : opened ≡ true → (Made h root folder steps × IsLineLeft status course.undone) ⊎ (Unmade h root folder steps status × (course.undone ≡ []))
  pub fails : opened ≡ true → FailsToBackUp status course.failed
  pub unsaid : status ≡ SayFault → (line : List ℕ) × (course.failed ≡ Tell (Say line) ∷ [])
  -- Clash names the piece whose keeping failed, and the other bytes that are held under its name
  pub clash : (c : Pair) → status ≡ Clash c → (pieces : List (List ℕ)) × (steps ≡ keep_steps pieces) × (m : MeetsOther (fresh h) pieces c) × (course.failed ≡ keep_step m.piece ∷ [])
  -- TooLarge comes exactly for these
  pub too_large : status ≡ TooLarge → IsTooMuch (snaps_made (state h)) folder.content root steps
  pub full : opened ≡ true → snaps_made (state h) ≡ 4294967295 → status ≡ TooLarge
  pub room : (status ≡ Done) ⊎ (status ≡ SayFault) → IfSome folder.content (λ c. HasRoom c root)
  -- nothing is heard or sent
  pub kept : new.outside ≡ record old.outside { said = new.outside.said; say_faults = new.outside.say_faults }

-- of a node that was opened: what a crash leaves from its begin on is a prefix of what its course makes
abbrev pub BacksUpOn : (List Entry → List ℕ → Type 0) → List Change → List ℕ → View → View → FolderView → Status → Type 0
BacksUpOn stands h root old new folder status =
    (b : BacksUpTo stands h root true old new folder status)
    × Leaves old new (λ c k. IsMoment stands h b.course.done b.course.failed (refused_of status) old.told c k)

-- ---- when it comes to its end

-- these are the tree of the folder at the root, and neither a path of it is too long, nor the text of its skeleton
pub record CanBeBackedUp (content : Content) (root : List ℕ) (places : List Place) : Type 0 where
  pub tree : IsTree content root places
  pub short : AreShort places
  pub fits : text_len places ≤ MOST_TEXT_BYTES

-- a body that the history brought, or a sealed piece of the tree
abbrev pub IsBodyOf : List Change → List Place → List ℕ → Type 0
IsBodyOf h places body = ((name : List ℕ) × (last_brought name h ≡ Some body)) ⊎ ((piece : List ℕ) × Contains (pieces_of places) piece × (body ≡ sealed piece))

-- no two of these that differ share a SHA-256
pub record MeetsNone (h : List Change) (places : List Place) : Type 0 where
  pub none : (first second : List ℕ) → IsBodyOf h places first → IsBodyOf h places second → ¬ Clashes first second

-- A folder that can be backed up, where fewer snapshots were made than can be, is enough, where no device failed and no
-- clash can be met: only memory can be short.
abbrev pub ComesToEnd : (List Entry → List ℕ → Type 0) → List ℕ → View → View → FolderView → FolderView → Status → Type 0
ComesToEnd stands root old new before after status =
    Tells_bytes new → Tells_content after → (h : List Change) → IsNode stands h old → (content : Content) (places : List Place) → before.content ≡ Some content → CanBeBackedUp content root places → snaps_made (state h) < 4294967295 → MeetsNone h places
    → ¬ Rose old.disk_faults new.disk_faults → ¬ Rose before.folder_faults after.folder_faults → ¬ Rose old.outside.say_faults new.outside.say_faults
    → (status ≡ Done) ⊎ (status ≡ Memory)
