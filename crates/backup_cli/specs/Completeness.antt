-- When a command does all of its work: where what it needs is there and no device that it uses fails, only memory can be
-- short.
use Rattle.std.specs.Prelude.{◌≡◌, ◌⊎◌, ◌<◌, ℕ, true, List, [], IfSome, Some}
use Rattle.psb_bytes.specs.declared.ids.Ticket.{Ticket}
use Rattle.psb_station.specs.View.{View}
use Rattle.psb_station.specs.Calls.{Rose}
use Rattle.psb_station.specs.Folder.{FolderView, Content, Tells_content}
use Rattle.psb_station.specs.Span.{Tells_bytes}
use Rattle.node_journal.specs.Entry.{Entry}
use Rattle.psb_settings.specs.declared.settings.Settings.{Settings}
use Rattle.psb_model.specs.State.{snaps_made}
use Rattle.psb_model.specs.History.{state}
use Rattle.psb_model.specs.declared.change.Change.{Change}
use Rattle.psb_machine.specs.Machine.{has_snapshot}
use Rattle.snapshots.specs.Meaning.{Place}
use Rattle.snapshots.specs.Writing.{IsNotEmpty}
use Rattle.backup_cli.specs.BackedUp.{CanBeBackedUp, MeetsNone}
use Rattle.backup_cli.specs.Begun.{HasSettings}
use Rattle.backup_cli.specs.RestoredTo.{IsSupplied, ticket_at}
use Rattle.backup_cli.specs.Served.{IsNode}
use Rattle.backup_cli.specs.Words.{IsCommand}
use Rattle.said_lines.specs.declared.status.Status.{Status}
use Rattle.said_lines.specs.declared.status.Status.TheVariants.{Done, Memory}
use Rattle.backup_cli.specs.declared.words.Command.{Command}
use Rattle.backup_cli.specs.declared.words.Command.TheVariants.{Serve, Ledger, Init, Snapshots, Forget, Backup, Restore}
use Rattle.backup_cli.specs.declared.words.Which.{Which}

-- ---- what it needs

-- the disk tells its bytes, and they hold this history
abbrev pub Holds : (List Entry → List ℕ → Type 0) → List Change → View → View → Type 0
Holds stands h old new = Tells_bytes new × IsNode stands h old

-- An empty disk, and a file with settings.
pub record CanBegin (file : List ℕ) (old new : View) (was is : FolderView) : Type 0 where
  pub tells : Tells_bytes new
  pub empty : old.bytes ≡ Some []
  pub shows : Tells_content is
  pub has : HasSettings file was

-- A node, a folder that can be backed up, and no two texts to keep of it that share a SHA-256.
pub record CanKeep (stands : List Entry → List ℕ → Type 0) (root : List ℕ) (old new : View) (was is : FolderView) : Type 0 where
  pub h : List Change
  pub holds : Holds stands h old new
  pub more : snaps_made (state h) < 4294967295
  pub content : Content
  pub shows : Tells_content is
  pub content_is : was.content ≡ Some content
  pub places : List Place
  pub can : CanBeBackedUp content root places
  pub apart : MeetsNone h places

-- A node, the snapshot that is named, a target that lists nothing, and bodies for all of its places.
pub record CanRestore (stands : List Entry → List ℕ → Type 0) (which : Which) (root : List ℕ) (turns : ℕ) (old new : View) (was is : FolderView) : Type 0 where
  pub h : List Change
  pub settings : Settings
  pub holds : Holds stands h old new
  pub settings_are : (state h).settings ≡ Some settings
  pub ticket : Ticket
  pub named : ticket_at (state h).kept which ≡ Some ticket
  pub shows : Tells_content is
  pub empty : IfSome was.content (λ c. ¬ IsNotEmpty c root)
  pub supplied : IsSupplied h settings ticket turns old new

abbrev pub HasAll : (List Entry → List ℕ → Type 0) → Command → View → View → FolderView → FolderView → Type 0
HasAll stands (Serve turns) old new was is = (h : List Change) × Holds stands h old new
HasAll stands Ledger old new was is = (h : List Change) × Holds stands h old new
HasAll stands Snapshots old new was is = (h : List Change) × Holds stands h old new
HasAll stands (Forget number) old new was is = (h : List Change) × Holds stands h old new × (has_snapshot (state h) number ≡ true)
HasAll stands (Init file) old new was is = CanBegin file.now old new was is
HasAll stands (Backup root) old new was is = CanKeep stands root.now old new was is
HasAll stands (Restore which root turns) old new was is = CanRestore stands which root.now turns old new was is

-- ---- the devices

abbrev pub NoDiskFault : View → View → Type 0
NoDiskFault old new = ¬ Rose old.disk_faults new.disk_faults

abbrev pub NoLinkFault : View → View → Type 0
NoLinkFault old new = ¬ Rose old.outside.link_faults new.outside.link_faults

abbrev pub NoSayFault : View → View → Type 0
NoSayFault old new = ¬ Rose old.outside.say_faults new.outside.say_faults

abbrev pub NoFolderFault : FolderView → FolderView → Type 0
NoFolderFault was is = ¬ Rose was.folder_faults is.folder_faults

-- none of those that the command uses failed, but for the sending of frames
abbrev pub NoneFails : Command → View → View → FolderView → FolderView → Type 0
NoneFails (Serve turns) old new was is = NoDiskFault old new × NoLinkFault old new × NoSayFault old new
NoneFails Ledger old new was is = NoDiskFault old new × NoSayFault old new
NoneFails Snapshots old new was is = NoDiskFault old new × NoSayFault old new
NoneFails (Forget number) old new was is = NoDiskFault old new × NoSayFault old new
NoneFails (Init file) old new was is = NoDiskFault old new × NoFolderFault was is × NoSayFault old new
NoneFails (Backup root) old new was is = NoDiskFault old new × NoFolderFault was is × NoSayFault old new
NoneFails (Restore which root turns) old new was is = NoDiskFault old new × NoLinkFault old new × NoFolderFault was is × NoSayFault old new

-- ---- the promise

abbrev pub Completes : (List Entry → List ℕ → Type 0) → Command → View → View → FolderView → FolderView → Status → Type 0
Completes stands command old new was is status = HasAll stands command old new was is → NoneFails command old new was is → (status ≡ Done) ⊎ (status ≡ Memory)

-- the clause of `run`, over its words
abbrev pub CompletesFor : (List Entry → List ℕ → Type 0) → List (List ℕ) → View → View → FolderView → FolderView → Status → Type 0
CompletesFor stands words old new was is status = (command : Command) → IsCommand words command → Completes stands command old new was is status
