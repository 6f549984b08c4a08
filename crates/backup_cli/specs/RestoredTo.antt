-- The headline of `restore`.
use Rattle.std.specs.Prelude.{◌≡◌, ◌⊎◌, ℕ, ◌<◌, ◌==◌, Bool, true, false, if◌then◌else◌, List, [], ◌∷◌, ◌++◌, length, take, Option, Some, None, IfSome, Result, Ok, Err, is_ok}
use Rattle.psb_bytes.specs.declared.ids.Ref.{Ref}
use Rattle.psb_bytes.specs.declared.ids.Ticket.{Ticket}
use Rattle.skeleton.specs.declared.faults.SkelFault.{SkelFault}
use Rattle.psb_station.specs.View.{View, Heard}
use Rattle.psb_station.specs.Folder.{FolderView, Listing}
use Rattle.psb_station.specs.Span.{Leaves}
use Rattle.node_journal.specs.Entry.{Entry}
use Rattle.psb_settings.specs.declared.settings.Settings.{Settings}
use Rattle.psb_model.specs.History.{state}
use Rattle.psb_model.specs.declared.snapshots.Snapshot.{Snapshot}
use Rattle.psb_model.specs.declared.change.Change.{Change}
use Rattle.psb_machine.specs.Machine.{Situation, Input, fresh}
use Rattle.psb_machine.specs.Course.{Step, Absorb, Tell, Say, after_all}
use Rattle.psb_machine.specs.Commands.{peer_ids, says}
use Rattle.node_core.specs.declared.node.Node.{Node}
use Rattle.node_serve.specs.Hears.{Hears}
use Rattle.node_serve.specs.Joins.{nodes_of, join_answers}
use Rattle.node_serve.specs.Spans.{FedBy}
use Rattle.snapshots.specs.Got.{AreMet}
use Rattle.snapshots.specs.Trees.{IsTree}
use Rattle.snapshot_backup.specs.Course.{backup_course}
use Rattle.snapshot_backup.specs.Kept.{own_bodies}
use Rattle.snapshot_restore.specs.Course.{Fetch, all_of, heard_in, restore_steps}
use Rattle.snapshot_restore.specs.Answers.{answers}
use Rattle.snapshots.specs.Meaning.{Bodies, Place, means, opens}
use Rattle.snapshot_restore.specs.Taken.{Taken, taken_uses, fetches, OwnOpens, NoneOwn, NoneOpens, AreTaken, IsSpent}
use Rattle.snapshot_restore.specs.Reading.{AreNext, IsBadText}
use Rattle.snapshot_restore.specs.Fetching.{IsInVain}
use Rattle.snapshot_restore.specs.Restored.{MakesTree, IsExact, FoundEmpty, LeavesTree, IsMetBy, IsAtOnce, IsRestored}
use Rattle.snapshot_restore.specs.declared.fault.RestoreFault.{RestoreFault}
use Rattle.snapshot_restore.specs.declared.fault.RestoreFault.TheVariants as restore_fault
use Rattle.snapshot_restore.specs.declared.restoring.Restored.{Restored}
use Rattle.backup_cli.specs.BackedUp.{Made}
use Rattle.backup_cli.specs.Commanded.{Commanded, IsMoment}
use Rattle.said_lines.specs.Lines.{restored_line}
use Rattle.said_lines.specs.Says.{IsRefusal}
use Rattle.backup_cli.specs.Served.{ending_of, refused_of, FailsInLast}
use Rattle.said_lines.specs.declared.status.Status.{Status}
use Rattle.said_lines.specs.declared.status.Status.TheVariants.{Done, DiskFault, LinkFault, FolderFault, SayFault, NoSnapshot, Missing, Altered, NotEmpty, BadSkeleton, Memory}
use Rattle.backup_cli.specs.declared.words.Which.{Which}
use Rattle.backup_cli.specs.declared.words.Which.TheVariants.{Number, Of}

-- how the program ends for a fault of a restore
abbrev pub status_of : RestoreFault → Status
status_of (restore_fault.Node f) = DiskFault
status_of restore_fault.Link = LinkFault
status_of restore_fault.Folder = FolderFault
status_of restore_fault.NotEmpty = NotEmpty
status_of (restore_fault.Missing name) = Missing name
status_of (restore_fault.Altered name got) = Altered name got
status_of (restore_fault.BadSkeleton f place) = BadSkeleton f place
status_of restore_fault.Memory = Memory

-- the ticket of the kept snapshot of a number, and of the one that a word names
abbrev pub kept_ticket : List Snapshot → ℕ → Option Ticket
kept_ticket [] number = None
kept_ticket (s ∷ kept) number = if s.number == number then Some s.ticket else kept_ticket kept number

abbrev pub ticket_at : List Snapshot → Which → Option Ticket
ticket_at kept (Number number) = kept_ticket kept number
ticket_at kept (Of t) = Some t

-- ---- what it comes to, where the snapshot was found

-- all nodes were joined, and then this was heard
pub record HearsThen (settings : Settings) (made : ℕ) (answers heard : List Heard) : Type 0 where
  pub all_joined : made ≡ length (nodes_of settings)
  pub answers_are : answers ≡ join_answers made true ++ heard

-- The target holds the tree, and these are its counts: each place had a body of the node's own that opens, or one that
-- came in its turns.
pub record BringsBack (h : List Change) (settings : Settings) (t : Ticket) (root : List ℕ) (turns : ℕ) (was is : FolderView) (made : ℕ) (answers : List Heard) (steps : List Step) (d : Restored) : Type 0 where
  pub tree : MakesTree was is t root (Listing root ∷ []) d
  pub exact : IsExact was is t root d tree.ts tree.tree
  pub empty : FoundEmpty was is root
  pub taken : AreTaken settings turns (fresh h) 0 tree.ts
  pub hears : HearsThen settings made answers (heard_in (fetches tree.ts))
  pub steps_are : steps ≡ restore_steps settings 0 (fetches tree.ts)

-- It stopped at the first place in the order of reading that got no body, or at something else. An input that failed is
-- one of the last answer's, and else all was done.
pub record FallsShort (h : List Change) (settings : Settings) (t : Ticket) (root : List ℕ) (turns : ℕ) (was is : FolderView) (made : ℕ) (answers : List Heard) (steps failed undone : List Step) (e : RestoreFault) : Type 0 where
  pub left : LeavesTree was is t root turns (Listing root ∷ []) e
  pub met : IsMetBy t left.ts e
  pub taken : AreTaken settings turns (fresh h) 0 left.ts
  pub in_vain : IsInVain settings (after_all (fresh h) (restore_steps settings 0 (fetches left.ts))) left.next left.last e
  pub at_once : IsAtOnce was is root e left.ts left.last left.places
  pub hears : HearsThen settings made answers (heard_in (fetches left.ts ++ left.last))
  pub steps_are : steps ≡ restore_steps settings 0 (fetches left.ts ++ left.last)
  pub all_fed : left.ok ≡ true → (failed ≡ []) × (undone ≡ [])
  pub fails : left.ok ≡ false → (x : Input) × (failed ≡ Absorb x ∷ []) × FailsInLast settings answers [] failed undone

-- the link failed to be told of a node, and the target was not looked at
pub record FailsToJoin (settings : Settings) (was is : FolderView) (made : ℕ) (answers : List Heard) (steps : List Step) (status : Status) : Type 0 where
  pub status_is : status ≡ LinkFault
  pub some_joined : made < length (nodes_of settings)
  pub answers_are : answers ≡ join_answers made false
  pub none : steps ≡ []
  pub target : is ≡ was

-- nothing was joined, heard or looked at
pub record DoesNothing (was is : FolderView) (made : ℕ) (answers : List Heard) (steps : List Step) : Type 0 where
  pub none_joined : made ≡ 0
  pub none_heard : answers ≡ []
  pub none : steps ≡ []
  pub target : is ≡ was

-- no kept snapshot has the number
pub record FindsNone (h : List Change) (which : Which) (status : Status) : Type 0 where
  pub number : ℕ
  pub which_is : which ≡ Number number
  pub absent : kept_ticket (state h).kept number ≡ None
  pub status_is : status ≡ NoSnapshot number

-- what became of the line at the end: it was said, its saying failed, or there was no memory for it
abbrev pub EndsSaying : Status → List ℕ → List Step → List Step → Type 0
EndsSaying Done line failed undone = (failed ≡ []) × (undone ≡ [])
EndsSaying SayFault line failed undone = (failed ≡ Tell (Say line) ∷ []) × (undone ≡ [])
EndsSaying Memory line failed undone = (failed ≡ []) × (undone ≡ Tell (Say line) ∷ [])
EndsSaying status line failed undone = ⊥

-- where the snapshot was found
abbrev pub Outcome : List Change → Settings → Ticket → List ℕ → ℕ → FolderView → FolderView → ℕ → List Heard → List Step → List (List ℕ) → List Step → List Step → Status → Type 0
Outcome h settings t root turns was is made answers steps lines failed undone status =
    (FailsToJoin settings was is made answers steps status × (lines ≡ []))
    ⊎ ((d : Restored) × BringsBack h settings t root turns was is made answers steps d × (lines ≡ restored_line d.files d.folders d.bytes ∷ []) × EndsSaying status (restored_line d.files d.folders d.bytes) failed undone)
    ⊎ ((e : RestoreFault) × FallsShort h settings t root turns was is made answers steps failed undone e × (lines ≡ []) × (status ≡ status_of e))

-- whether it was found or not
abbrev pub AnyOutcome : List Change → Settings → Which → List ℕ → ℕ → FolderView → FolderView → ℕ → List Heard → List Step → List (List ℕ) → List Step → List Step → Status → Type 0
AnyOutcome h settings which root turns was is made answers steps lines failed undone status =
    (FindsNone h which status × DoesNothing was is made answers steps × (lines ≡ []))
    ⊎ ((t : Ticket) × (ticket_at (state h).kept which ≡ Some t) × Outcome h settings t root turns was is made answers steps lines failed undone status)

-- `restore TICKET FOLDER TURNS` on a disk that holds a history, up to a status
pub record RestoresTo (stands : List Entry → List ℕ → Type 0) (h : List Change) (settings : Settings) (which : Which) (root : List ℕ) (turns : ℕ) (opened : Bool) (old new : View) (was is : FolderView) (status : Status) : Type 0 where
  -- of how many nodes the link was told, and all that was heard
  pub made : ℕ
  pub answers : List Heard
  pub hears : Hears old new (take made (nodes_of settings)) answers
  -- what was fed to the node, and the lines at the end
  pub steps : List Step
  pub lines : List (List ℕ)
  -- the line of a refusal, or what of it was said
  pub refusal : List ℕ
  pub how : IsRefusal status refusal old new
  pub course : Commanded stands h opened (steps ++ says lines) None refusal (refused_of status) old new (ending_of status)
  pub unopened : opened ≡ false → ((status ≡ DiskFault) ⊎ (status ≡ Memory)) × DoesNothing was is made answers steps
  pub comes_to : opened ≡ true → AnyOutcome h settings which root turns was is made answers steps lines course.failed course.undone status
  pub unsaid : status ≡ SayFault → (line : List ℕ) × (course.failed ≡ Tell (Say line) ∷ [])

-- of a node that was opened: what a crash leaves from its begin on is a prefix of what its course makes
abbrev pub RestoresOn : (List Entry → List ℕ → Type 0) → List Change → Settings → Which → List ℕ → ℕ → View → View → FolderView → FolderView → Status → Type 0
RestoresOn stands h settings which root turns old new was is status =
    (r : RestoresTo stands h settings which root turns true old new was is status)
    × Leaves old new (λ c k. IsMoment stands h r.course.done r.course.failed (refused_of status) old.told c k)

-- ---- when it does not fall short

-- not that the node has no body that opens, nor that none came in these turns
abbrev pub IsSuppliedAt : Settings → Situation → Ref → List (List Heard) → Type 0
IsSuppliedAt settings n r rounds = (¬ NoneOwn n.history r) ⊎ (¬ NoneOpens r (answers settings r.name (all_of rounds)))

-- Each place of the ticket at which all turns were spent in this run has such a body; and the bodies that were taken form
-- no text that is too long or outside the grammar.
pub record IsSupplied (h : List Change) (settings : Settings) (t : Ticket) (turns : ℕ) (old new : View) : Type 0 where
  pub bodies : (ts : List Taken) (r : Ref) (more : List Ref) (rounds : List (List Heard)) → AreNext t ts (r ∷ more) → AreTaken settings turns (fresh h) 0 ts → IsSpent turns rounds
      → Hears old new (nodes_of settings) (join_answers (length (nodes_of settings)) true ++ heard_in (fetches ts ++ record { name = r.name; rounds = rounds } ∷ []))
      → IsSuppliedAt settings (after_all (fresh h) (restore_steps settings 0 (fetches ts))) r rounds
  pub texts : (ts : List Taken) (last : List Fetch) (fault : SkelFault) (place : ℕ) → AreTaken settings turns (fresh h) 0 ts
      → Hears old new (nodes_of settings) (join_answers (length (nodes_of settings)) true ++ heard_in (fetches ts ++ last))
      → ¬ IsBadText t.levels (t.reference ∷ []) ts fault place

-- ---- a plain premise

-- one of these opens
abbrev pub AnyOpens : Ref → List (List ℕ) → Type 0
AnyOpens r [] = ⊥
AnyOpens r (body ∷ bodies) = (opens r body ≡ true) ⊎ AnyOpens r bodies

-- a place has a body: one of the node's own that opens, or one that opens among those that came in its turns
abbrev pub HasBody : Settings → Situation → Ref → List (List Heard) → Type 0
HasBody settings n r rounds = ((body : List ℕ) × OwnOpens n.history r body) ⊎ AnyOpens r (answers settings r.name (all_of rounds))

-- all nodes were joined, and this is all that was heard then
abbrev pub HeardBehindJoins : Settings → View → View → List Heard → Type 0
HeardBehindJoins settings old new heard = Hears old new (nodes_of settings) (join_answers (length (nodes_of settings)) true ++ heard)

-- Each place of the ticket, in the order of reading, has a body, where those in front of it were taken and all its turns
-- were made. And over some bodies the ticket means a tree: these form a skeleton; no two unequal texts that share a
-- SHA-256 were met, one of them and one that was taken.
pub record HasBodies (h : List Change) (settings : Settings) (t : Ticket) (turns : ℕ) (old new : View) : Type 0 where
  pub each : (ts : List Taken) (r : Ref) (more : List Ref) (rounds : List (List Heard)) → AreNext t ts (r ∷ more) → AreTaken settings turns (fresh h) 0 ts → IsSpent turns rounds
      → HeardBehindJoins settings old new (heard_in (fetches ts ++ record { name = r.name; rounds = rounds } ∷ []))
      → HasBody settings (after_all (fresh h) (restore_steps settings 0 (fetches ts))) r rounds
  pub bodies : Bodies
  pub tree : List Place
  pub means_it : means bodies t ≡ Some tree
  pub apart : (ts : List Taken) (last : List Fetch) → AreTaken settings turns (fresh h) 0 ts → HeardBehindJoins settings old new (heard_in (fetches ts ++ last)) → ¬ AreMet bodies (taken_uses ts)

-- ---- on the way

-- before a line is said
abbrev pub ComesTo : List Change → Settings → Ticket → List ℕ → ℕ → FolderView → FolderView → ℕ → List Heard → List Step → List Step → List Step → Result Restored Status → Type 0
ComesTo h settings t root turns was is made answers steps failed undone (Ok d) = BringsBack h settings t root turns was is made answers steps d
ComesTo h settings t root turns was is made answers steps failed undone (Err status) =
    FailsToJoin settings was is made answers steps status
    ⊎ ((e : RestoreFault) × FallsShort h settings t root turns was is made answers steps failed undone e × (status ≡ status_of e))

pub record Fares {L : Type 0} (holds : L → List Entry → List ℕ → Type 0) (stands : List Entry → List ℕ → Type 0) (broken : L → Bool) (n0 n2 : Node L) (h : List Change) (settings : Settings) (before now : View) (t : Ticket) (root : List ℕ) (turns : ℕ) (was is : FolderView) (result : Result Restored Status) : Type 0 where
  pub made : ℕ
  pub answers : List Heard
  pub steps : List Step
  pub ok : Bool
  pub hears : Hears before now (take made (nodes_of settings)) answers
  pub fed : FedBy holds stands broken n0 n2 before now (fresh h) (peer_ids settings) 0 answers steps None ok
  pub all_fed : is_ok result ≡ true → ok ≡ true
  pub comes_to : ComesTo h settings t root turns was is made answers steps fed.fed.failed fed.fed.undone result

-- why nothing more is restored
abbrev pub Stops : Status → Type 0
Stops DiskFault = Unit {0}
Stops LinkFault = Unit {0}
Stops FolderFault = Unit {0}
Stops NotEmpty = Unit {0}
Stops (Missing name) = Unit {0}
Stops (Altered name got) = Unit {0}
Stops (BadSkeleton f place) = Unit {0}
Stops Memory = Unit {0}
Stops s = ⊥

-- ---- from folder to folder

-- The tree that stood in a folder as it was backed up stands in the target, with its counts.
pub record IsBackAgain (root : List ℕ) (folder was is : FolderView) (target : List ℕ) (d : Restored) (tree : List Place) : Type 0 where
  pub stood : IfSome folder.content (λ c. IsTree c root tree)
  pub again : IsRestored was is target d tree

-- What a backup said as its ticket, restored, is the folder's tree again; or two unequal texts were met that share a
-- SHA-256: a body that the node had for itself behind the backup, and one that was used in the restore.
abbrev pub BackupsComeBack : Type 0
BackupsComeBack =
    (h : List Change) (root : List ℕ) (folder : FolderView) (steps : List Step) (made : Made h root folder steps)
    (was is : FolderView) (target : List ℕ) (d : Restored) (ts : List Taken) (tree : List Place) → IsExact was is made.note.ticket target d ts tree
    → IsBackAgain root folder was is target d made.places ⊎ AreMet (own_bodies (after_all (fresh h) (backup_course made.places made.note)).history) (taken_uses ts)
